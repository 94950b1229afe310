-- The contents that the readers can give, in any order, and the sameness of contents as sets (ours).
use Rattle.std.specs.Prelude.{◌≡◌, ◌≤◌, ◌&&◌, not, Bool, true, false, List, [], filter, length}
use Rattle.std.specs.FinSet as set
use Rattle.std.specs.List.{All}
use Rattle.vet_base.specs.CriteriaChanges.{is_built_in}
use Rattle.vet_base.specs.Items.{IsIn, NamedOnce, SameItems}
use Rattle.vet_base.specs.Names.{NameSet}
use Rattle.vet_base.specs.declared.criterion.Criterion.{Criterion}
use Rattle.vet_base.specs.declared.limits.TheConstants.{MOST_PEER_CRITERIA}
use Rattle.vet_demand.specs.Policies.{IsInKeyOrder}
use Rattle.vet_entries.specs.Distinct.{distinct}
use Rattle.vet_entries.specs.Kind.{has_last_day, is_exemption}
use Rattle.vet_entries.specs.PeerContent.{is_own, is_peer_kind}
use Rattle.vet_entries.specs.declared.entry.Entry.{Entry}
use Rattle.vet_entries.specs.declared.kind.Kind.{Kind}
use Rattle.vet_entries.specs.declared.peer_settings.PeerSettings.{PeerSettings}
use Rattle.vet_entries.specs.declared.publisher_records.PackagePublishers.{PackagePublishers}
use Rattle.vet_files.specs.ImportsTable.{excluded_of}
use Rattle.vet_files.specs.Publishers.{in_order}
use Rattle.vet_files.specs.declared.audits_file.AuditsContent.{AuditsContent}
use Rattle.vet_files.specs.declared.config_file.ConfigContent.{ConfigContent}
use Rattle.vet_files.specs.declared.imports_file.ImportedPeer.{ImportedPeer}
use Rattle.vet_files.specs.declared.imports_file.ImportsContent.{ImportsContent}
use Rattle.vet_files.specs.declared.read.whose.Whose.{Whose}
use Rattle.vet_files.specs.declared.read.whose.Whose.TheVariants.{Ours, Peers}

-- ---- audits files

-- the entries that an audits file can give: own ones, as in any author's file, of a kind that it may have
abbrev pub is_kind_of : Whose → Kind → Bool
is_kind_of Ours kind = not (is_exemption kind)
is_kind_of Peers kind = is_peer_kind kind

abbrev pub is_entry_of : Whose → Entry → Bool
is_entry_of whose e = is_own e.source && is_kind_of whose e.kind

-- a peer's file has at most MOST_PEER_CRITERIA criteria
abbrev pub AreFew : Whose → List Criterion → Type 0
AreFew Ours criteria = Unit {0}
AreFew Peers criteria = length criteria ≤ MOST_PEER_CRITERIA

-- the contents that an audits file can give, in any order
pub record CanStand (whose : Whose) (criteria : List Criterion) (entries : List Entry) : Type 0 where
  pub further : All (λ c. is_built_in c.name ≡ false) criteria
  pub named_once : NamedOnce (λ (c : Criterion). c.name) criteria
  pub few : AreFew whose criteria
  pub kinds : All (λ e. is_entry_of whose e ≡ true) entries
  pub once : distinct entries ≡ entries

abbrev pub IsAudits : AuditsContent → Type 0
IsAudits content = CanStand Ours content.criteria content.entries

-- the same criteria and the same entries
abbrev pub SameAudits : AuditsContent → AuditsContent → Type 0
SameAudits a b = SameItems a.criteria b.criteria × SameItems a.entries b.entries

-- ---- config files

-- an own exemption, with a last day or without
abbrev pub is_own_exemption : Entry → Bool
is_own_exemption e = is_own e.source && is_exemption e.kind

-- the entries without a last day; no file can have the others
abbrev pub undated : List Entry → List Entry
undated entries = filter (λ e. not (has_last_day e.kind)) entries

-- no entry of a list has a last day
abbrev pub AreUndated : List Entry → Type 0
AreUndated entries = All (λ e. has_last_day e.kind ≡ false) entries

-- the content of a config file, in any order, possibly with exemptions with a last day, which the writer leaves out
pub record IsConfig (content : ConfigContent) : Type 0 where
  pub named_once : NamedOnce (λ (p : PeerSettings). p.name) content.peers
  pub by_key : IsInKeyOrder content.policies
  pub kinds : All (λ e. is_own_exemption e ≡ true) content.exemptions
  pub once : distinct content.exemptions ≡ content.exemptions

-- two contents of config files are the same, apart from exemptions with a last day
pub record SameConfig (a b : ConfigContent) : Type 0 where
  pub vet_version : a.vet_version ≡ b.vet_version
  pub default_criteria : a.default_criteria ≡ b.default_criteria
  pub peers : SameItems a.peers b.peers
  pub policies : a.policies ≡ b.policies
  pub exemptions : SameItems (undated a.exemptions) b.exemptions

-- ---- imports files

-- records of a package, in order and each once
abbrev pub HasRecords : PackagePublishers → Type 0
HasRecords p = (p.publishers ≡ [] → ⊥) × (in_order p.publishers ≡ p.publishers)

-- the contents that an imports file can give, in any order
pub record IsImports (content : ImportsContent) : Type 0 where
  pub published_once : NamedOnce (λ (p : PackagePublishers). p.«package») content.publishers
  pub published : All HasRecords content.publishers
  pub named_once : NamedOnce (λ (p : ImportedPeer). p.name) content.peers
  pub peers : All (λ (p : ImportedPeer). CanStand Peers p.content.criteria p.content.entries) content.peers

-- the entries of packages that are not excluded
abbrev pub taken : NameSet → List Entry → List Entry
taken exclude entries = filter (λ e. not (set.contains exclude e.«package»)) entries

-- a peer as it is, and as it is read back, less the entries of excluded packages
pub record SamePeer (settings : List PeerSettings) (a b : ImportedPeer) : Type 0 where
  pub name : a.name ≡ b.name
  pub criteria : SameItems a.content.criteria b.content.criteria
  pub entries : SameItems (taken (excluded_of settings a.name) a.content.entries) b.content.entries

-- the same records and the same peers
pub record SameImports (settings : List PeerSettings) (a b : ImportsContent) : Type 0 where
  pub publishers : SameItems a.publishers b.publishers
  pub peers : (p : ImportedPeer) → IsIn p a.peers → (q : ImportedPeer) × (IsIn q b.peers × SamePeer settings p q)
  pub no_others : (q : ImportedPeer) → IsIn q b.peers → (p : ImportedPeer) × (IsIn p a.peers × SamePeer settings p q)
