-- The document of the command that replaces the contents of the three files (ours).
use Rattle.std.specs.Prelude.{[], ◌∷◌, Ok}
use Rattle.toml.specs.Data.{Members}
use Rattle.vet_base.specs.Gives.{Told, ◌>>=◌}
use Rattle.vet_base.specs.Words.{Bytes}
use Rattle.vet_documents.specs.DocumentField.{any_text, only}
use Rattle.vet_documents.specs.DocumentKeys.{COMMAND, CONFIG}
use Rattle.vet_files.specs.Audits.{audits_told}
use Rattle.vet_files.specs.Config.{config_told}
use Rattle.vet_files.specs.Field.{required}
use Rattle.vet_files.specs.FilesContent.{FilesValue, files_of}
use Rattle.vet_files.specs.Imports.{imports_told}
use Rattle.vet_files.specs.KeyNames.{AUDITS, IMPORTS}
use Rattle.vet_register.specs.declared.command.Action.{Action}
use Rattle.vet_register.specs.declared.command.Action.TheVariants.{ReplaceFiles}

-- the contents of the three files, which are read in this order
abbrev pub files_told : Bytes → Bytes → Bytes → Told FilesValue
files_told audits config imports =
    audits_told audits >>= λ audits.
    config_told config >>= λ config.
    imports_told imports >>= λ imports.
    Ok (files_of audits.content config.content imports.content)

-- the files are read only if nothing else is at fault
abbrev pub replace_files_told : Members → Told Action
replace_files_told ms =
    required any_text COMMAND AUDITS ms >>= λ audits.
    required any_text COMMAND CONFIG ms >>= λ config.
    required any_text COMMAND IMPORTS ms >>= λ imports.
    only (AUDITS ∷ CONFIG ∷ IMPORTS ∷ []) ms >>= λ _.
    files_told audits config imports >>= λ files.
    Ok (ReplaceFiles files)
