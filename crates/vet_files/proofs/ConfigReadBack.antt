-- The table of a config file is read again as the same settings, policies and exemptions.
use Rattle.std.proofs.Common.{◌≡◌, ◌&&◌, not, ℕ, Bool, true, false, cond, List, [], ◌∷◌, codes, refl, ap, subst, ◌∙◌}
use Rattle.std.specs.Prelude.{Option, Some, None, Ok, IfSome, option_map}
use Rattle.std.specs.FinSet as set
use Rattle.std.specs.FinSet.{contains-empty}
use Rattle.std.specs.Cmp.Lexicographic.{slice_cmp}
use Rattle.std.specs.Ordering.{nat_cmp}
use Rattle.std.specs.List.{All}
use Rattle.std.proofs.lemmas.Bool.{and_parts, false≢true}
use Rattle.std.proofs.lemmas.List.Elements.{All-head, All-tail}
use Rattle.toml.specs.Data.{Data, Members, get_member, string, table}
use Rattle.vet_base.specs.Gives.{Told, ◌>>=◌}
use Rattle.vet_base.specs.Items.{IsIn, SameItems}
use Rattle.vet_base.specs.Names.{NameSet}
use Rattle.vet_demand.specs.declared.policies.KeyedPolicy.{KeyedPolicy}
use Rattle.vet_entries.specs.Distinct.{distinct}
use Rattle.vet_entries.specs.declared.entry.Entry.{Entry}
use Rattle.vet_entries.specs.declared.kind.Kind.{Kind}
use Rattle.vet_entries.specs.declared.kind.Kind.TheVariants.{Full, Delta, Violation, Wildcard, Trusted, Exemption}
use Rattle.vet_entries.specs.declared.peer_settings.PeerSettings.{PeerSettings}
use Rattle.vet_entries.specs.Kind.{has_last_day, is_exemption}
use Rattle.vet_entries.specs.PeerContent.{is_own}
use Rattle.vet_files.specs.declared.found.Found.{Found}
use Rattle.vet_files.specs.declared.config_file.ConfigContent.{ConfigContent}
use Rattle.vet_files.specs.declared.keys.TableKind.TheVariants as kind
use Rattle.vet_files.specs.declared.write.sections.Listing.TheVariants.{Exemptions}
use Rattle.vet_files.specs.declared.read.whose.Whose.TheVariants.{Ours}
use Rattle.vet_files.specs.Audits.{entries_of, next_package}
use Rattle.vet_files.specs.Config.{config_file_told, exemption_told, next_policy, peers_told, policies_told}
use Rattle.vet_files.specs.Config.{peer_told, vet_version_told}
use Rattle.vet_files.specs.ConfigTable.{cargo_vet_table, config_fields, config_table, exemptions_table, optional_set}
use Rattle.vet_files.specs.ConfigTable.{peer_table, peers_table, policies_table}
use Rattle.vet_files.specs.EntryTables.{entry_table, is_listed, listed_entries}
use Rattle.vet_files.specs.Field.{a_text, names, optional}
use Rattle.vet_files.specs.Keys.{unknown_keys}
use Rattle.vet_files.specs.Lists.{nothing, found_one, next_named, table_at}
use Rattle.vet_files.specs.Notices.{no_notices}
use Rattle.vet_files.specs.ReadAgain.{IsReadAs, ReadsConfig, ReadsEntry, ReadsPeer, ReadsPolicy, is_taken, reading_of}
use Rattle.vet_files.specs.SameContent.{IsConfig, SameConfig, is_own_exemption, undated}
use Rattle.vet_files.specs.Tables.{set_data, unless_empty}
use Rattle.vet_files.specs.Walk.{each_member}
use Rattle.vet_files.proofs.Fields.{field_at, get_field, none_unknown}
use Rattle.vet_files.proofs.NamedOnce.{All-IsIn, All-each_IsIn, IsIn-of_filter}
use Rattle.vet_files.proofs.PackagesRead.{IsReadBy, all_of, distinct-filter, package_lists_read, unless_empty-read}
use Rattle.vet_files.proofs.PoliciesRead.{policies_read}
use Rattle.vet_files.proofs.TablesRead.{IsNext, by_name-read, same_items}

-- ---- `[cargo-vet]` and the default criteria

abbrev IsVersion : List ℕ → Type 0
IsVersion v = IsReadAs a_text (string v) v

version_told : (ms : Members) (version : Option (List ℕ))
    → get_member (codes "cargo-vet") ms ≡ option_map (λ v. table (cargo_vet_table v)) version
    → IfSome version IsVersion → vet_version_told ms ≡ Ok (all_of version)
version_told ms None at read = rw at refl
version_told ms (Some v) at read = rw (at, read _ _) refl

abbrev IsSet : NameSet → Type 0
IsSet s = IsReadAs names (set_data s) s

set_told : (path key : List ℕ) (ms : Members) (held : Option NameSet) → get_member key ms ≡ optional_set held
    → IfSome held IsSet → optional names path key ms ≡ Ok held
set_told path key ms None at read = rw at refl
set_told path key ms (Some s) at read = rw (at, read _ _) refl

-- ---- peers

abbrev name_of_peer : PeerSettings → List ℕ
name_of_peer p = p.name

abbrev table_of_peer : PeerSettings → Data
table_of_peer p = table (peer_table p)

abbrev next_peer : Found (List PeerSettings) → List ℕ → Data → Told (Found (List PeerSettings))
next_peer = next_named peer_told (codes "imports")

peer_next : (p : PeerSettings) → ReadsPeer p → IsNext (λ a b. a ≡ b) next_peer name_of_peer table_of_peer p
peer_next p reads = (p, (refl, λ found. rw (reads.named, reads.read _) refl))

peers_next : (peers : List PeerSettings) → All ReadsPeer peers
    → All (IsNext (λ a b. a ≡ b) next_peer name_of_peer table_of_peer) peers
peers_next peers reads k d l = peer_next _ (reads k d l)

-- ---- exemptions

exemption_reading : (k : Kind) → is_listed Exemptions k ≡ true → reading_of Ours k ≡ exemption_told
exemption_reading (Full v a) h = cc h
exemption_reading (Delta d a) h = cc h
exemption_reading (Violation r a) h = cc h
exemption_reading (Wildcard w g) h = cc h
exemption_reading (Trusted w) h = cc h
exemption_reading (Exemption v s l) h = refl

listed_taken : (k : Kind) → is_listed Exemptions k ≡ true → is_taken Ours k ≡ true
listed_taken (Full v a) h = refl
listed_taken (Delta d a) h = refl
listed_taken (Violation r a) h = refl
listed_taken (Wildcard w g) h = refl
listed_taken (Trusted w) h = refl
listed_taken (Exemption v s None) h = refl
listed_taken (Exemption v s (Some day)) h = absurd (false≢true h)

-- an exemption's table is read as it
reads_exemption : (e : Entry) → is_own e.source ≡ true → is_listed Exemptions e.kind ≡ true → ReadsEntry e
    → IsReadBy exemption_told e
reads_exemption e own there reads = (
  reads.named,
  λ path. subst (λ read. read e.«package» path (entry_table e) ≡ Ok (found_one e 0)) (exemption_reading e.kind there)
      (reads.read Ours own (listed_taken e.kind there) path),
)

abbrev no_names : NameSet
no_names = set.empty

-- an exemption that is written: no package is left out
abbrev is_written : Entry → Bool
is_written e = is_listed Exemptions e.kind && not (set.contains no_names e.«package»)

abbrev listed : List Entry → List Entry
listed es = listed_entries Exemptions no_names es

abbrev IsOwn : Entry → Type 0
IsOwn e = is_own_exemption e ≡ true

-- the exemptions without a last day are the ones that are written
exempt_written : (k : Kind) → is_exemption k ≡ true → (is_listed Exemptions k && true) ≡ not (has_last_day k)
exempt_written (Full v a) h = absurd (false≢true h)
exempt_written (Delta d a) h = absurd (false≢true h)
exempt_written (Violation r a) h = absurd (false≢true h)
exempt_written (Wildcard w g) h = absurd (false≢true h)
exempt_written (Trusted w) h = absurd (false≢true h)
exempt_written (Exemption v s None) h = refl
exempt_written (Exemption v s (Some day)) h = refl

all_written : (es : List Entry) → All IsOwn es → listed es ≡ undated es
all_written [] stand = refl
all_written (e ∷ rest) stand =
    let (own, exempts) = and_parts (is_own e.source) (is_exemption e.kind) (All-head IsOwn e rest stand) in
    let first : is_written e ≡ not (has_last_day e.kind) =
    ap (λ b. is_listed Exemptions e.kind && not b) (contains-empty (slice_cmp nat_cmp) e.«package»)
    ∙ exempt_written e.kind exempts in
    let more = all_written rest (All-tail IsOwn e rest stand) in
    λ i. cond (first i) (e ∷ more i) (more i)

listed_read : (es : List Entry) → All IsOwn es → All ReadsEntry (listed es) → All (IsReadBy exemption_told) (listed es)
listed_read es stand reads = All-each_IsIn (IsReadBy exemption_told) (listed es) each
  where
    each : (e : Entry) → IsIn e (listed es) → IsReadBy exemption_told e
    each e among =
        let (held, passes) = IsIn-of_filter is_written e es among in
        let (there, kept) = and_parts (is_listed Exemptions e.kind) (not (set.contains no_names e.«package»)) passes in
        let (own, exempts) = and_parts (is_own e.source) (is_exemption e.kind) (All-IsIn IsOwn e es stand held) in
        reads_exemption e own there (All-IsIn ReadsEntry e (listed es) reads among)

exemptions_read : (es : List Entry) → distinct es ≡ es → All IsOwn es → All ReadsEntry (listed es)
    → (found : List Entry)
    × ((each_member (next_package exemption_told (codes "exemptions")) nothing (exemptions_table es)
    ≡ Ok (all_of found)) × SameItems (undated es) found)
exemptions_read es once stand reads =
    let (found, (told, same)) = package_lists_read exemption_told (codes "exemptions") (listed es)
    (distinct-filter is_written es once) (listed_read es stand reads) in
    (found, (told, subst (λ all. SameItems all found) (all_written es stand) same))

-- ---- the file

-- a table in it is read as it is written
table_found : {X : Type 0} (content : ConfigContent) (key : List ℕ) (written : Members) (read : Members → Told X)
    (found : X) → field_at key (config_fields content) ≡ unless_empty written → read written ≡ Ok found
    → (table_at (codes "top") key (config_table content) >>= read) ≡ Ok found
table_found content key written read found at told =
    rw (get_field key (config_fields content), at, unless_empty-read (codes "top") key written) told

exemptions_told : (content : ConfigContent) (found : List Entry)
    → each_member (next_package exemption_told (codes "exemptions")) nothing (exemptions_table content.exemptions)
    ≡ Ok (all_of found)
    → entries_of exemption_told (codes "top") [] (codes "exemptions") (config_table content) ≡ Ok (all_of found)
exemptions_told content found told =
    table_found content (codes "exemptions") (exemptions_table content.exemptions) _ (all_of found) refl told

peers_found : (content : ConfigContent) (found : List PeerSettings)
    → each_member next_peer nothing (peers_table content.peers) ≡ Ok (all_of found)
    → peers_told (config_table content) ≡ Ok (all_of found)
peers_found content found = table_found content (codes "imports") (peers_table content.peers) _ (all_of found) refl

policies_found : (content : ConfigContent) (found : List KeyedPolicy)
    → each_member next_policy (all_of []) (policies_table content.policies) ≡ Ok (all_of found)
    → policies_told (config_table content) ≡ Ok (all_of found)
policies_found content found =
    table_found content (codes "policy") (policies_table content.policies) _ (all_of found) refl

-- a file is told as its parts are
file_told : (ms : Members) (version : Option (List ℕ)) (default : Option NameSet) (peers : List PeerSettings)
    (policies : List KeyedPolicy) (exemptions : List Entry)
    → vet_version_told ms ≡ Ok (all_of version) → optional names (codes "top") (codes "default-criteria") ms
    ≡ Ok default
    → peers_told ms ≡ Ok (all_of peers) → policies_told ms ≡ Ok (all_of policies)
    → entries_of exemption_told (codes "top") [] (codes "exemptions") ms ≡ Ok (all_of exemptions)
    → unknown_keys kind.ConfigFile ms ≡ 0
    → config_file_told ms
    ≡ Ok (all_of (record {
      vet_version = version;
      default_criteria = default;
      peers = peers;
      policies = policies;
      exemptions = exemptions;
    }))
file_told ms version default peers policies exemptions first second third fourth fifth known =
    rw (first, second, third, fourth, fifth, known) refl

-- what is written of a config file is read again
pub config_read_back : (content : ConfigContent) → IsConfig content
    → IfSome content.vet_version (λ v. IsReadAs a_text (string v) v)
    → IfSome content.default_criteria (λ s. IsReadAs names (set_data s) s)
    → All ReadsPeer content.peers → All ReadsPolicy content.policies
    → All ReadsEntry (listed_entries Exemptions set.empty content.exemptions)
    → (found : ConfigContent)
    × ((config_file_told (config_table content) ≡ Ok (record { content = found; notices = no_notices }))
    × SameConfig content found)
config_read_back content is of_version of_default of_peers of_policies of_exemptions =
    let ms = config_table content in
    let (peers, (same_peers, peers_read)) =
    by_name-read (λ a b. a ≡ b) next_peer name_of_peer table_of_peer content.peers is.named_once
    (peers_next content.peers of_peers) in
    let (exemptions, (exemptions_read, same_exemptions)) = exemptions_read content.exemptions is.once is.kinds
    of_exemptions in (
      record {
        vet_version = content.vet_version;
        default_criteria = content.default_criteria;
        peers = peers;
        policies =
            content.policies;
        exemptions = exemptions;
      },
      (
        file_told ms content.vet_version content.default_criteria peers content.policies exemptions
            (version_told ms content.vet_version (get_field (codes "cargo-vet") (config_fields content)) of_version)
            (set_told (codes "top") (codes "default-criteria") ms content.default_criteria
            (get_field (codes "default-criteria") (config_fields content)) of_default)
            (peers_found content peers peers_read)
            (policies_found content content.policies (policies_read content.policies is.by_key of_policies))
            (exemptions_told content exemptions exemptions_read)
            (none_unknown kind.ConfigFile (config_fields content) refl),
        record {
          vet_version = refl;
          default_criteria = refl;
          peers = same_items content.peers peers same_peers;
          policies = refl;
          exemptions = same_exemptions;
        },
      ),
    )

-- the same, from what the writer tells
pub config_read_again : (content : ConfigContent) → IsConfig content → ReadsConfig content
    → (found : ConfigContent)
    × ((config_file_told (config_table content) ≡ Ok (record { content = found; notices = no_notices }))
    × SameConfig content found)
config_read_again content is reads = config_read_back content is reads.version reads.default_criteria reads.peers
    reads.policies reads.exemptions
