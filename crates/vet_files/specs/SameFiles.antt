-- The sameness of the contents of three files and of three others, as sets (ours).
use Rattle.std.specs.Prelude.{◌≡◌}
use Rattle.vet_base.specs.Items.{SameItems}
use Rattle.vet_files.specs.FilesContent.{FilesValue, files_of}
use Rattle.vet_files.specs.SameContent.{AreUndated, IsConfig, IsImports, SameAudits, SameConfig}
use Rattle.vet_files.specs.declared.audits_file.AuditsContent.{AuditsContent}
use Rattle.vet_files.specs.declared.config_file.ConfigContent.{ConfigContent}
use Rattle.vet_files.specs.declared.imports_file.ImportsContent.{ImportsContent}

-- the same criteria and entries in any order, and otherwise the same content
pub record SameFiles (f g : FilesValue) : Type 0 where
  pub criteria : SameItems f.criteria g.criteria
  pub entries : SameItems f.entries g.entries
  pub settings : f.settings ≡ g.settings
  pub contents : f.contents ≡ g.contents
  pub publishers : f.publishers ≡ g.publishers
  pub policies : f.policies ≡ g.policies
  pub vet_version : f.vet_version ≡ g.vet_version
  pub default_criteria : f.default_criteria ≡ g.default_criteria

-- the same peers and the same publisher records
abbrev pub SameLists : ImportsContent → ImportsContent → Type 0
SameLists i j = SameItems i.peers j.peers × SameItems i.publishers j.publishers

-- files whose lists are the same as sets have the same content
abbrev pub SameListsAreSame : Type 0
SameListsAreSame =
    (a b : AuditsContent) (c d : ConfigContent) (i j : ImportsContent) → IsConfig c → AreUndated c.exemptions
    → IsConfig d → IsImports i → IsImports j
    → SameAudits a b → SameConfig c d → SameLists i j → SameFiles (files_of a c i) (files_of b d j)
