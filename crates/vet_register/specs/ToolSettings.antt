-- The settings of a config file that are for the tool only (The Cargo Vet Book, config file).
use Rattle.std.specs.Prelude.{◌&&◌, Bool, None}
use Rattle.std.specs.Option.{option_eq}
use Rattle.vet_base.specs.Criterion.{same_text}
use Rattle.vet_base.specs.Names.{same_names}
use Rattle.vet_register.specs.declared.tool_settings.ToolSettings.{ToolSettings}

-- no version of cargo-vet, and no criteria for a new audit
abbrev pub no_settings : ToolSettings
no_settings = record { vet_version = None; default_criteria = None }

-- both say the same
abbrev pub tool_eq : ToolSettings → ToolSettings → Bool
tool_eq a b = same_text a.vet_version b.vet_version && option_eq same_names a.default_criteria b.default_criteria
