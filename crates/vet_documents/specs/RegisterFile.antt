-- The three files of a register, each by its name (The Cargo Vet Book, audits.toml, config.toml and imports.lock).
use Rattle.std.specs.Prelude.{◌≡◌, Option, Some, None, codes, if◌then◌else◌}
use Rattle.std.specs.Str.{bytes_eq}
use Rattle.toml.specs.Data.{Members}
use Rattle.toml.specs.Parse.{parse_document}
use Rattle.vet_base.specs.Words.{Text}
use Rattle.vet_documents.specs.declared.register_file.RegisterFile.{RegisterFile}
use Rattle.vet_documents.specs.declared.register_file.RegisterFile.TheVariants.{Audits, Config, Imports}
use Rattle.vet_files.specs.Audits.{audits_told}
use Rattle.vet_files.specs.AuditsTable.{audits_table}
use Rattle.vet_files.specs.Config.{config_told}
use Rattle.vet_files.specs.ConfigTable.{config_table}
use Rattle.vet_files.specs.Imports.{imports_told}
use Rattle.vet_files.specs.ImportsTable.{imports_table}
use Rattle.vet_files.specs.ReadAgain.{GivesBack}
use Rattle.vet_files.specs.SameContent.{SameAudits, SameConfig, SameImports}
use Rattle.vet_register.specs.HeldFiles.{audits_of, config_of, imports_of, settings_of}
use Rattle.vet_register.specs.State.{State}

-- the file of a name
abbrev pub file_named : Text → Option RegisterFile
file_named name =
    if bytes_eq name (codes "audits.toml") then Some Audits
    else (if bytes_eq name (codes "config.toml") then Some Config
    else (if bytes_eq name (codes "imports.lock") then Some Imports else None))

-- the table of a file of a state
abbrev pub file_table : RegisterFile → State → Members
file_table Audits s = audits_table (audits_of s.held.facts)
file_table Config s = config_table (config_of s.held)
file_table Imports s = imports_table (settings_of s.held.facts) (imports_of s.held.facts)

-- the reader of the file reads a text as what the state holds, and ignores nothing
abbrev pub IsReadAgain : RegisterFile → State → Text → Type 0
IsReadAgain Audits s text = GivesBack audits_told (SameAudits (audits_of s.held.facts)) text
IsReadAgain Config s text = GivesBack config_told (SameConfig (config_of s.held)) text
IsReadAgain Imports s text =
    GivesBack imports_told (SameImports (settings_of s.held.facts) (imports_of s.held.facts)) text

-- a text is a file of a state: `toml` reads it as the file's table, whatever its layout
pub record IsFileOf (file : RegisterFile) (s : State) (text : Text) : Type 0 where
  pub table : parse_document text ≡ Some (file_table file s)
  pub again : IsReadAgain file s text
