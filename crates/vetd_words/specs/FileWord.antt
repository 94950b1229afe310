-- The words for the files of cargo-vet (ours).
use Rattle.std.specs.Prelude.{Option, Some, None, codes, if◌then◌else◌}
use Rattle.std.specs.Str.{bytes_eq}
use Rattle.vet_base.specs.Words.{Text}
use Rattle.vet_documents.specs.declared.register_file.RegisterFile.{RegisterFile}
use Rattle.vet_documents.specs.declared.register_file.RegisterFile.TheVariants.{Audits, Config, Imports}

-- the file that a word names
abbrev pub file_of_word : Text → Option RegisterFile
file_of_word word =
    if bytes_eq word (codes "audits") then Some Audits
    else (if bytes_eq word (codes "config") then Some Config
    else (if bytes_eq word (codes "imports") then Some Imports else None))
