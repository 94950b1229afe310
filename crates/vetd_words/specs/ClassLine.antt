-- The line that `class` prints for an audits file (ours).
use Rattle.std.specs.Prelude.{◌++◌, Ok, codes}
use Rattle.vet_base.specs.Gives.{◌>>=◌}
use Rattle.vet_base.specs.Words.{Text}
use Rattle.vet_graph.specs.Class.{class_word}
use Rattle.vet_graph.specs.declared.class.Class.{Class}
use Rattle.vet_register.specs.ClassOfFile.{class_told}
use Rattle.vetd_words.specs.Answer.{Telling}
use Rattle.vetd_words.specs.Words.{AskedWords}

-- the line of a class: its word
abbrev pub class_line : Class → Text
class_line class = class_word class ++ codes "\n"

-- the line of the class that is asked for
abbrev pub class_line_told : AskedWords → Telling
class_line_told w file = class_told file w.package_name w.version w.criterion >>= λ class. Ok (class_line class)
