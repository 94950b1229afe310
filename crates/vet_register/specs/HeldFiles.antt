-- The contents of a register's files (The Cargo Vet Book, audits.toml, config.toml and imports.lock).
use Rattle.std.specs.Prelude.{not, Bool, List, Option, None, if◌then◌else◌, filter, map}
use Rattle.std.specs.FinMap as table
use Rattle.vet_base.specs.Criteria.{Criteria}
use Rattle.vet_base.specs.CriteriaChanges.{is_built_in}
use Rattle.vet_base.specs.FurtherCriteria.{further}
use Rattle.vet_base.specs.Words.{Name}
use Rattle.vet_base.specs.declared.criterion.Criterion.{Criterion}
use Rattle.vet_entries.specs.Entry.{own}
use Rattle.vet_entries.specs.Facts.{Facts}
use Rattle.vet_entries.specs.Holding.{HoldingValue}
use Rattle.vet_entries.specs.PeerContent.{PeerContentValue}
use Rattle.vet_entries.specs.declared.entry.Entry.{Entry}
use Rattle.vet_entries.specs.declared.facts.HeldEntry.{HeldEntry}
use Rattle.vet_entries.specs.declared.held_peer.HeldPeer.{HeldPeer}
use Rattle.vet_entries.specs.declared.peer_settings.PeerSettings.{PeerSettings}
use Rattle.vet_files.specs.SameContent.{is_own_exemption}
use Rattle.vet_files.specs.declared.audits_file.AuditsContent.{AuditsContent}
use Rattle.vet_files.specs.declared.config_file.ConfigContent.{ConfigContent}
use Rattle.vet_files.specs.declared.imports_file.ImportedPeer.{ImportedPeer}
use Rattle.vet_files.specs.declared.imports_file.ImportsContent.{ImportsContent}
use Rattle.vet_register.specs.Held.{HeldValue}

-- ---- audits files

-- the criterion of a name, if a table has one that is not built in
abbrev pub further_at : Criteria → Name → Option Criterion
further_at criteria name = if is_built_in name then None else table.get criteria name

-- an own entry is an exemption: it is never in the audits file, and it is in the config file unless it has a last day
abbrev pub is_exemption : Entry → Bool
is_exemption e = is_own_exemption (own e)

abbrev pub is_audit : Entry → Bool
is_audit e = not (is_exemption e)

-- held entries without their numbers
abbrev pub unnumbered : List HeldEntry → List Entry
unnumbered held = map (λ (h : HeldEntry). h.entry) held

-- the content of the register's audits file: the criteria besides the built-in ones, and own entries except exemptions
abbrev pub audits_of : Facts → AuditsContent
audits_of facts = record { criteria = further facts.criteria; entries = filter is_audit (unnumbered facts.entries) }

-- ---- config files

-- how the held peers are imported
abbrev pub settings_of : Facts → List PeerSettings
settings_of facts = map (λ (p : HeldPeer). p.settings) facts.peers

-- the content of the register's config file: the settings for the tool, how peers are imported, the policies, and own
-- exemptions; the writer leaves out those with a last day
abbrev pub config_of : HeldValue → ConfigContent
config_of held = record {
  vet_version = held.settings.vet_version;
  default_criteria = held.settings.default_criteria;
  peers = settings_of held.facts;
  policies = held.policies;
  exemptions = filter is_exemption (unnumbered held.facts.entries);
}

-- ---- imports files

-- held entries without their numbers, each as an own entry
abbrev pub spoken : List HeldEntry → List Entry
spoken held = map (λ h. own h.entry) held

-- the holding of a peer, as its file gives it: the criteria besides the built-in ones, and the entries
abbrev pub content_of : HoldingValue → PeerContentValue
content_of held = record { criteria = further held.table; entries = spoken held.entries }

-- a held peer, as an imports file gives it
abbrev pub imported_of : HeldPeer → ImportedPeer
imported_of peer = record { name = peer.settings.name; content = content_of peer.content }

-- the content of the register's imports file: all publisher records, and the holding of each peer
abbrev pub imports_of : Facts → ImportsContent
imports_of facts = record { publishers = facts.publishers; peers = map imported_of facts.peers }
