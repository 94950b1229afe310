-- What a config file gives can be written again.
use Rattle.std.proofs.Common.{◌≡◌, ℕ, true, false, List, [], refl, IfOk, arith}
use Rattle.std.specs.Prelude.{Ok, Err, Option, Some, None, codes}
use Rattle.std.specs.List.{All}
use Rattle.std.specs.Option.{option_to_list}
use Rattle.std.proofs.lemmas.Bool.{cond_both, false≢true}
use Rattle.std.proofs.lemmas.List.Elements.{All-cons, All-nil, All-weaker}
use Rattle.toml.specs.Data.{Data, Members, as_table}
use Rattle.vet_base.specs.Gives.{Told, found_or, ◌>>=◌}
use Rattle.vet_base.specs.Name.{is_name}
use Rattle.vet_demand.specs.Policies.{IsInKeyOrder, key_of}
use Rattle.vet_demand.specs.PolicyKey.{policy_key_cmp, read_key}
use Rattle.vet_demand.specs.PolicyKeyLaws.{policy_key_cmp-IsAntisymmetric, policy_key_total}
use Rattle.vet_demand.specs.declared.policies.KeyedPolicy.{KeyedPolicy}
use Rattle.vet_base.proofs.KeyedLemmas.{IsByKey-with_item}
use Rattle.vet_entries.specs.Kind.{has_last_day, is_exemption}
use Rattle.vet_entries.specs.PeerContent.{is_own}
use Rattle.vet_entries.specs.declared.entry.Entry.{Entry}
use Rattle.vet_entries.specs.declared.kind.Kind.{Kind}
use Rattle.vet_entries.specs.declared.kind.Kind.TheVariants.{Full, Delta, Violation, Wildcard, Trusted, Exemption}
use Rattle.vet_entries.specs.declared.peer_settings.PeerSettings.{PeerSettings}
use Rattle.vet_files.specs.declared.config_file.ConfigContent.{ConfigContent}
use Rattle.vet_files.specs.declared.found.Found.{Found}
use Rattle.vet_files.specs.declared.write.sections.Listing.TheVariants as listing
use Rattle.vet_files.specs.Audits.{entries_of, or_none}
use Rattle.vet_files.specs.Config.{config_file_told, exemption_told, new_key, next_policy, peer_told}
use Rattle.vet_files.specs.Config.{peers_told, policies_told, policy_told, vet_version_told}
use Rattle.vet_files.specs.EntryTables.{is_listed}
use Rattle.vet_files.specs.Field.{fault, names, optional, package_names, required, texts}
use Rattle.vet_files.specs.Lists.{listed, found_with, named_table, next_named, path_below, table_at}
use Rattle.vet_files.specs.Maps.{criteria_map, or_no_map}
use Rattle.vet_files.specs.Notices.{no_notices}
use Rattle.vet_files.specs.SameContent.{AreUndated, IsConfig, is_own_exemption}
use Rattle.vet_files.specs.Walk.{each_member}
use Rattle.vet_files.proofs.Apart.{Appends, AreApart, HasOther, Holds, apart-pairs, other-name, table-apart}
use Rattle.vet_files.proofs.Once.{distinct-apart}
use Rattle.vet_files.proofs.PackageEntries.{IsOf, StandOnce, entries-once, exemptions-listed}
use Rattle.vet_files.proofs.Rising.{Rising}
use Rattle.vet_files.proofs.RisingTables.{rising-at}
use Rattle.vet_files.proofs.Stands.{both}
use Rattle.vet_files.proofs.Walks.{bind-gives, bind-keeps, each_member-keeps}

-- ---- peers

abbrev peer_name : PeerSettings → List ℕ
peer_name p = p.name

abbrev Any : PeerSettings → Type 0
Any p = Unit {0}

abbrev AppendsPeers : Found (List PeerSettings) → List ℕ → Found (List PeerSettings) → Type 0
AppendsPeers = Appends peer_name (HasOther peer_name) Any

abbrev OneNamed : List ℕ → Found (Option PeerSettings) → Type 0
OneNamed name more = All (λ p. peer_name p ≡ name) (option_to_list more.content)
    × AreApart (HasOther peer_name) (option_to_list more.content)

peer-named : (name path : List ℕ) (ms : Members) → IfOk (peer_told name path ms) (OneNamed name)
peer-named name path ms =
    bind-gives (OneNamed name) (required texts path (codes "url") ms) _ (λ url.
    bind-gives (OneNamed name) (optional package_names path (codes "exclude") ms) _ (λ exclude.
    bind-gives (OneNamed name) (optional criteria_map path (codes "criteria-map") ms) _ (λ mapped.
    let peer : PeerSettings = record { name = name; url = url; exclude = or_none exclude; map = or_no_map mapped } in (
      All-cons (λ p. peer_name p ≡ name) peer [] refl (All-nil (λ p. peer_name p ≡ name)),
      (All-nil (HasOther peer_name peer), tt),
    ))))

abbrev peer_at : List ℕ → Data → Told (Found (Option PeerSettings))
peer_at = named_table peer_told (codes "imports")

abbrev next_peer : Found (List PeerSettings) → List ℕ → Data → Told (Found (List PeerSettings))
next_peer = next_named peer_told (codes "imports")

next_peer-appends : (found : Found (List PeerSettings)) (name : List ℕ) (d : Data)
    → IfOk (next_peer found name d) (AppendsPeers found name)
next_peer-appends found name d =
    cond_both (is_name name) (peer_at name d >>= (λ more. Ok (found_with found (listed more))))
    (Err (fault (codes "imports") name)) (λ r. IfOk r (AppendsPeers found name))
    (λ _. bind-keeps (OneNamed name) (AppendsPeers found name) (peer_at name d) _
    (bind-gives (OneNamed name) (found_or (fault (codes "imports") name) (as_table d))
    (peer_told name (path_below (codes "imports") name))
    (λ ms. peer-named name (path_below (codes "imports") name) ms))
    (λ more named. (option_to_list more.content, (refl, (named.0, (named.1, λ k d l. tt))))))
    (λ _. tt)

abbrev NamedApart : Found (List PeerSettings) → Type 0
NamedApart = Holds (HasOther peer_name) Any

peers-named : (ms : Members) → Rising ms → IfOk (peers_told ms) NamedApart
peers-named =
    table-apart peer_name (HasOther peer_name) Any (other-name peer_name) next_peer
    (λ found name d _. next_peer-appends found name d) (codes "top") (codes "imports")

-- ---- policies

abbrev InKeyOrder : Found (List KeyedPolicy) → Type 0
InKeyOrder found = IsInKeyOrder found.content

next_policy-keeps : (found : Found (List KeyedPolicy)) (text : List ℕ) (d : Data) → InKeyOrder found
    → IfOk (next_policy found text d) InKeyOrder
next_policy-keeps found text d up =
    bind-gives InKeyOrder (found_or (fault (codes "policy") text) (read_key text) >>= new_key text found.content) _
    (λ key.
    bind-gives InKeyOrder
    (found_or (fault (codes "policy") text) (as_table d) >>= policy_told (path_below (codes "policy") text)) _
    (λ more.
    IsByKey-with_item policy_key_cmp policy_key_total policy_key_cmp-IsAntisymmetric key_of found.content
    (record { key = key; policy = more.content }) up))

no-policies : IsInKeyOrder []
no-policies i j d l m = absurd (omega (arith, m))

policies-in_order : (ms : Members) → IfOk (policies_told ms) InKeyOrder
policies-in_order ms =
    let none : Found (List KeyedPolicy) = record { content = []; notices = no_notices } in
    bind-gives InKeyOrder (table_at (codes "top") (codes "policy") ms) (each_member next_policy none)
    (λ table. each_member-keeps InKeyOrder next_policy next_policy-keeps none table no-policies)

-- ---- the file

-- an entry of the table of exemptions is one, without a last day
listed-exempts : (k : Kind) → is_listed listing.Exemptions k ≡ true → is_exemption k ≡ true
listed-exempts (Full v a) h = absurd (false≢true h)
listed-exempts (Delta d a) h = absurd (false≢true h)
listed-exempts (Violation r a) h = absurd (false≢true h)
listed-exempts (Wildcard w g) h = absurd (false≢true h)
listed-exempts (Trusted w) h = absurd (false≢true h)
listed-exempts (Exemption v s l) h = refl

listed-undated : (k : Kind) → is_listed listing.Exemptions k ≡ true → has_last_day k ≡ false
listed-undated (Full v a) h = refl
listed-undated (Delta d a) h = refl
listed-undated (Violation r a) h = refl
listed-undated (Wildcard w g) h = refl
listed-undated (Trusted w) h = refl
listed-undated (Exemption v s None) h = refl
listed-undated (Exemption v s (Some day)) h = absurd (false≢true h)

own-exemption : (e : Entry) → IsOf listing.Exemptions e → is_own_exemption e ≡ true
own-exemption e h = both (is_own e.source) (is_exemption e.kind) h.0 (listed-exempts e.kind h.1)

abbrev pub ConfigStands : Found ConfigContent → Type 0
ConfigStands found = IsConfig found.content × AreUndated found.content.exemptions

pub config-stands : (ms : Members) → Rising ms → IfOk (config_file_told ms) ConfigStands
config-stands ms rise =
    bind-gives ConfigStands (vet_version_told ms) _ (λ version.
    bind-gives ConfigStands (optional names (codes "top") (codes "default-criteria") ms) _ (λ default.
    bind-keeps NamedApart ConfigStands (peers_told ms) _ (peers-named ms rise) (λ peers named.
    bind-keeps InKeyOrder ConfigStands (policies_told ms) _ (policies-in_order ms) (λ policies up.
    bind-keeps (StandOnce listing.Exemptions) ConfigStands
    (entries_of exemption_told (codes "top") [] (codes "exemptions") ms) _
    (entries-once listing.Exemptions exemption_told exemptions-listed (codes "top") [] (codes "exemptions") ms
    (rising-at (codes "top") (codes "exemptions") ms rise)) (λ exemptions once. (
      record {
        named_once = apart-pairs (HasOther peer_name) peers.content named.0;
        by_key = up;
        kinds = All-weaker (IsOf listing.Exemptions) (λ e. is_own_exemption e ≡ true) own-exemption exemptions.content
            once.1;
        once = distinct-apart exemptions.content once.0;
      },
      All-weaker (IsOf listing.Exemptions) (λ e. has_last_day e.kind ≡ false) (λ e h. listed-undated e.kind h.1)
          exemptions.content once.1,
    ))))))
