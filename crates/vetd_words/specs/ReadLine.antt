-- The line that `read` prints about a file (ours).
use Rattle.std.specs.Prelude.{Ok}
use Rattle.vet_base.specs.Document.{length_told}
use Rattle.vet_base.specs.Gives.{◌>>=◌}
use Rattle.vet_documents.specs.declared.register_file.RegisterFile.{RegisterFile}
use Rattle.vet_documents.specs.declared.register_file.RegisterFile.TheVariants.{Audits, Config, Imports}
use Rattle.vet_files.specs.Audits.{audits_told}
use Rattle.vet_files.specs.Config.{config_told}
use Rattle.vet_files.specs.Imports.{imports_told}
use Rattle.vetd_words.specs.Answer.{Telling}
use Rattle.vetd_words.specs.Counts.{counts_line, counts_of_audits, counts_of_config, counts_of_imports}

-- the line of each kind of file
abbrev pub audits_line_told : Telling
audits_line_told file = audits_told file >>= λ found. Ok (counts_line (counts_of_audits found.content) found.notices)

abbrev pub config_line_told : Telling
config_line_told file = config_told file >>= λ found. Ok (counts_line (counts_of_config found.content) found.notices)

abbrev pub imports_line_told : Telling
imports_line_told file =
    imports_told file >>= λ found. Ok (counts_line (counts_of_imports found.content) found.notices)

abbrev pub file_line_told : RegisterFile → Telling
file_line_told Audits file = audits_line_told file
file_line_told Config file = config_line_told file
file_line_told Imports file = imports_line_told file

-- the line of a file that isn't too long
abbrev pub read_told : RegisterFile → Telling
read_told kind file = length_told file >>= λ _. file_line_told kind file
