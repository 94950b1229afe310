-- The words of a command that prints a text of a register (ours): a path, and which text.
use Rattle.std.specs.Prelude.{List, Option, codes, option_and_then, option_map}
use Rattle.clap.specs.Walk.{Row, Text, first_of}
use Rattle.vetd_words.specs.FileWord.{file_of_word}
use Rattle.vet_reports.specs.Report.{report_named}
use Rattle.vetd_words.specs.Words.{rows_given}
use Rattle.vetd_words.specs.declared.view.View.{View}
use Rattle.vetd_words.specs.declared.view.View.TheVariants.{Export, Report}
use Rattle.vetd_words.specs.declared.view_words.ViewCommand.{ViewCommand}
use Rattle.vetd_words.specs.declared.view_words.ViewCommand.TheVariants.{Export as AsExport, Report as AsReport}
use Rattle.vetd_words.specs.declared.view_words.ViewWords.{ViewWords}

-- a path, and the text to print of the register there
pub record ViewAsked : Type 0 where
  pub path : Text
  pub view : View

-- these, as the code holds them
abbrev pub view_asked : ViewWords → ViewAsked
view_asked words = record { path = words.path.now; view = words.view }

-- the name of a command, and the text that a word for KIND asks for
abbrev pub name_of : ViewCommand → Text
name_of AsExport = codes "export"
name_of AsReport = codes "report"

abbrev pub view_named : ViewCommand → Text → Option View
view_named AsExport word = option_map Export (file_of_word word)
view_named AsReport word = option_map Report (report_named word)

-- the path and the text, if both were given
abbrev pub view_from : ViewCommand → List Row → Option ViewAsked
view_from command rows = option_and_then (λ path. option_map (λ view. record { path = path; view = view })
    (option_and_then (view_named command) (first_of (codes "KIND") rows))) (first_of (codes "db") rows)

-- the path and the text that the words of such a command give
abbrev pub view_given : ViewCommand → List Text → Option ViewAsked
view_given command words = option_and_then (view_from command) (rows_given (name_of command) words)
