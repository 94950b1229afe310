-- Each written value is read back as the value for which it was written (ours).
use Rattle.std.specs.Prelude.{◌≡◌, Bool, true, not, List, Some, Ok}
use Rattle.std.specs.FinSet as set
use Rattle.std.specs.List.{All}
use Rattle.std.specs.Option.{IfSome}
use Rattle.toml.specs.Data.{Data, boolean, string}
use Rattle.vet_base.specs.Gives.{Told}
use Rattle.vet_base.specs.Name.{is_name, is_package_name}
use Rattle.vet_base.specs.Names.{NameSet}
use Rattle.vet_base.specs.Words.{Bytes, Key, Name, Path}
use Rattle.vet_base.specs.declared.criterion.Criterion.{Criterion}
use Rattle.vet_demand.specs.PolicyKey.{key_text, read_key}
use Rattle.vet_demand.specs.declared.policies.KeyedPolicy.{KeyedPolicy}
use Rattle.vet_entries.specs.Kind.{has_last_day}
use Rattle.vet_entries.specs.PeerContent.{is_own, is_peer_kind}
use Rattle.vet_entries.specs.declared.entry.Entry.{Entry}
use Rattle.vet_entries.specs.declared.kind.Audit.{Audit}
use Rattle.vet_entries.specs.declared.kind.Kind.{Kind}
use Rattle.vet_entries.specs.declared.kind.Kind.TheVariants.{Full, Delta, Violation, Wildcard, Trusted, Exemption}
use Rattle.vet_entries.specs.declared.peer_settings.PeerSettings.{PeerSettings}
use Rattle.vet_entries.specs.declared.publisher.Publisher.{Publisher}
use Rattle.vet_entries.specs.declared.publisher_records.PackagePublishers.{PackagePublishers}
use Rattle.vet_files.specs.declared.config_file.ConfigContent.{ConfigContent}
use Rattle.vet_files.specs.declared.found.Found.{Found}
use Rattle.vet_files.specs.declared.imports_file.ImportedPeer.{ImportedPeer}
use Rattle.vet_files.specs.declared.imports_file.ImportsContent.{ImportsContent}
use Rattle.vet_files.specs.declared.write.sections.Listing.TheVariants as listing
use Rattle.vet_files.specs.declared.read.whose.Whose.{Whose}
use Rattle.vet_files.specs.declared.read.whose.Whose.TheVariants.{Ours, Peers}
use Rattle.vet_files.specs.Audits.{audit_told, criterion_told, trusted_told, wildcard_told}
use Rattle.vet_files.specs.AuditsTable.{criterion_table}
use Rattle.vet_files.specs.Config.{exemption_told, peer_told, policy_told}
use Rattle.vet_files.specs.ConfigTable.{peer_table, policy_table}
use Rattle.vet_files.specs.EntryTables.{entry_table, listed_entries}
use Rattle.vet_files.specs.Field.{a_flag, a_text, names, texts}
use Rattle.vet_files.specs.Imports.{publisher_told}
use Rattle.vet_files.specs.ImportsTable.{excluded_of, publisher_table}
use Rattle.vet_files.specs.Lists.{Reading, found_one}
use Rattle.vet_files.specs.Notices.{no_notices}
use Rattle.vet_files.specs.Tables.{set_data}

-- a value is read as this, whatever its key and its table's path
abbrev pub IsReadAs : {A : Type 0} → (Path → Key → Data → Told A) → Data → A → Type 0
IsReadAs told d x = (path : Path) (key : Key) → told path key d ≡ Ok x

-- a text is read as a content that is the same as a given one, with nothing ignored
abbrev pub GivesBack : {C : Type 0} → (Bytes → Told (Found C)) → (C → Type 0) → Bytes → Type 0
GivesBack {C} told IsSame text = (found : C)
    × ((told text ≡ Ok (record { content = found; notices = no_notices })) × IsSame found)

-- the reading of entries of a kind
abbrev pub reading_of : Whose → Kind → Reading Entry
reading_of whose (Full v a) = audit_told whose
reading_of whose (Delta d a) = audit_told whose
reading_of whose (Violation r a) = audit_told whose
reading_of whose (Wildcard w g) = wildcard_told
reading_of whose (Trusted w) = trusted_told whose
reading_of whose (Exemption v s l) = exemption_told

-- whether a file can have entries of a kind: some kinds of a peer's, and of one's own those without a last day
abbrev pub is_taken : Whose → Kind → Bool
is_taken Ours kind = not (has_last_day kind)
is_taken Peers kind = is_peer_kind kind

-- an entry's table is read as the entry, and nothing in it is ignored
pub record ReadsEntry (e : Entry) : Type 0 where
  pub named : is_package_name e.«package» ≡ true
  pub read : (whose : Whose) → is_own e.source ≡ true → is_taken whose e.kind ≡ true
      → (path : Path) → reading_of whose e.kind e.«package» path (entry_table e) ≡ Ok (found_one e 0)

-- all values that audits have besides their subject are read back
pub record ReadsAudit (e : Entry) (audit : Audit) : Type 0 where
  pub named : is_package_name e.«package» ≡ true
  pub criteria : IsReadAs names (set_data e.criteria) e.criteria
  pub notes : IfSome e.notes (λ t. IsReadAs a_text (string t) t)
  pub importable : IfSome audit.importable (λ b. IsReadAs a_flag (boolean b) b)
  pub who : IsReadAs texts (set_data audit.who) audit.who

pub record ReadsCriterion (c : Criterion) : Type 0 where
  pub named : is_name c.name ≡ true
  pub read : (path : Path) → criterion_told c.name path (criterion_table c) ≡ Ok (found_one c 0)

pub record ReadsPeer (p : PeerSettings) : Type 0 where
  pub named : is_name p.name ≡ true
  pub read : (path : Path) → peer_told p.name path (peer_table p) ≡ Ok (found_one p 0)

pub record ReadsPolicy (p : KeyedPolicy) : Type 0 where
  pub keyed : read_key (key_text p.key) ≡ Some p.key
  pub read : (path : Path) → policy_told path (policy_table p.policy)
      ≡ Ok (record { content = p.policy; notices = no_notices })

pub record ReadsPublisher (p : Publisher) : Type 0 where
  pub read : (name : Name) (path : Path) → publisher_told name path (publisher_table p) ≡ Ok (found_one p 0)

-- ---- the tables of a file

-- all parts of an audits file's table are read back
pub record ReadsAudits (exclude : NameSet) (criteria : List Criterion) (entries : List Entry) : Type 0 where
  pub each_criterion : All ReadsCriterion criteria
  pub audits : All ReadsEntry (listed_entries listing.Audits exclude entries)
  pub wildcards : All ReadsEntry (listed_entries listing.WildcardAudits exclude entries)
  pub trusted : All ReadsEntry (listed_entries listing.Trusted exclude entries)

pub record ReadsConfig (content : ConfigContent) : Type 0 where
  pub version : IfSome content.vet_version (λ v. IsReadAs a_text (string v) v)
  pub default_criteria : IfSome content.default_criteria (λ s. IsReadAs names (set_data s) s)
  pub peers : All ReadsPeer content.peers
  pub policies : All ReadsPolicy content.policies
  pub exemptions : All ReadsEntry (listed_entries listing.Exemptions set.empty content.exemptions)

pub record ReadsRecords (p : PackagePublishers) : Type 0 where
  pub named : is_package_name p.«package» ≡ true
  pub read : All ReadsPublisher p.publishers

pub record ReadsImported (settings : List PeerSettings) (p : ImportedPeer) : Type 0 where
  pub named : is_name p.name ≡ true
  pub read : ReadsAudits (excluded_of settings p.name) p.content.criteria p.content.entries

pub record ReadsImports (settings : List PeerSettings) (content : ImportsContent) : Type 0 where
  pub publishers : All ReadsRecords content.publishers
  pub peers : All (ReadsImported settings) content.peers
