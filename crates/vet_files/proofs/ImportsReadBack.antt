-- The table of an imports file is read again as the same records and the same peers.
use Rattle.std.proofs.Common.{◌≡◌, ◌-◌, ℕ, true, List, [], ◌∷◌, ◌++◌, codes, length, refl, ap, ◌∙◌, arith}
use Rattle.std.specs.Prelude.{Ok}
use Rattle.std.specs.List.{All}
use Rattle.toml.specs.Data.{Data, Members, array, table}
use Rattle.vet_base.specs.Gives.{Told}
use Rattle.vet_base.specs.Name.{is_name, is_package_name}
use Rattle.vet_entries.specs.PublisherRecords.{with_any}
use Rattle.vet_entries.specs.declared.peer_settings.PeerSettings.{PeerSettings}
use Rattle.vet_entries.specs.declared.publisher.Publisher.{Publisher}
use Rattle.vet_entries.specs.declared.publisher_records.PackagePublishers.{PackagePublishers}
use Rattle.vet_files.specs.declared.found.Found.{Found}
use Rattle.vet_files.specs.declared.imports_file.ImportedPeer.{ImportedPeer}
use Rattle.vet_files.specs.declared.imports_file.ImportsContent.{ImportsContent}
use Rattle.vet_files.specs.declared.keys.TableKind.TheVariants as kind
use Rattle.vet_files.specs.declared.write.sections.Listing.TheVariants.{Audits, Trusted, WildcardAudits}
use Rattle.vet_files.specs.declared.read.whose.Whose.TheVariants.{Peers}
use Rattle.vet_files.specs.EntryTables.{listed_entries}
use Rattle.vet_files.specs.Imports.{imported_table, imported_told, imports_file_told, next_publishers, peer_value}
use Rattle.vet_files.specs.Imports.{publisher_told, published, publishers_told}
use Rattle.vet_files.specs.ImportsTable.{excluded_of, imported_peer_table, imports_fields, imports_table}
use Rattle.vet_files.specs.ImportsTable.{publisher_items, publisher_table, publishers_table}
use Rattle.vet_files.specs.Keys.{unknown_keys}
use Rattle.vet_files.specs.Lists.{each_once, nothing, found_with, next_named, path_below}
use Rattle.vet_files.specs.Notices.{no_notices}
use Rattle.vet_files.specs.Publishers.{in_order}
use Rattle.vet_files.specs.ReadAgain.{ReadsCriterion, ReadsEntry, ReadsImports, ReadsPublisher}
use Rattle.vet_files.specs.SameContent.{CanStand, HasRecords, IsImports, SameImports, SamePeer}
use Rattle.vet_files.specs.Walk.{each_member}
use Rattle.vet_files.proofs.AuditsReadBack.{audits_read_back}
use Rattle.vet_files.proofs.Fields.{get_field, none_unknown}
use Rattle.vet_files.proofs.PackagesRead.{all_of, tables_read, unless_empty-read}
use Rattle.vet_files.proofs.TablesRead.{IsNext, by_name-read, same_items}

-- ---- publisher records

-- records that are in order stand once
each_once-same : (records : List Publisher) → in_order records ≡ records → each_once in_order (all_of records)
    ≡ all_of records
each_once-same records same =
    let none : length records - length records ≡ 0 = omega arith in
    rw (same, none) refl

-- a package with records is one
with_any-one : (p : PackagePublishers) → (p.publishers ≡ [] → ⊥) → with_any p.«package» p.publishers ≡ p ∷ []
with_any-one p filled = some p.publishers filled
  where
    some : (records : List Publisher) → (records ≡ [] → ⊥)
        → with_any p.«package» records ≡ (record { «package» = p.«package»; publishers = records }) ∷ []
    some [] filled = absurd (filled refl)
    some (first ∷ rest) filled = refl

abbrev ReadsPackage : PackagePublishers → Type 0
ReadsPackage p = (is_package_name p.«package» ≡ true) × All ReadsPublisher p.publishers

package_read : (p : PackagePublishers) → HasRecords p → ReadsPackage p → (found : List PackagePublishers)
    → next_publishers (all_of found) p.«package» (array (publisher_items p.publishers)) ≡ Ok (all_of (found ++ p ∷ []))
package_read p has reads found =
    rw (
      reads.0,
      tables_read publisher_told (codes "publisher") p.«package» publisher_table p.publishers
          (λ k d l. (reads.1 k d l).read p.«package»),
    )
    (ap (λ more. Ok (found_with (all_of found) (published p.«package» more))) (each_once-same p.publishers has.1)
    ∙ ap (λ l. Ok (all_of (found ++ l))) (with_any-one p has.0))

abbrev name_of_package : PackagePublishers → List ℕ
name_of_package p = p.«package»

abbrev records_of_package : PackagePublishers → Data
records_of_package p = array (publisher_items p.publishers)

packages_next : (packages : List PackagePublishers) → All HasRecords packages → All ReadsPackage packages
    → All (IsNext (λ a b. a ≡ b) next_publishers name_of_package records_of_package) packages
packages_next packages has reads k d l = (_, (refl, package_read _ (has k d l) (reads k d l)))

-- ---- peers

-- what is written of a peer is read again
abbrev pub AuditsCanBeRead : List PeerSettings → ImportedPeer → Type 0
AuditsCanBeRead settings p = All ReadsCriterion p.content.criteria
    × All ReadsEntry (listed_entries Audits (excluded_of settings p.name) p.content.entries)
    × All ReadsEntry (listed_entries WildcardAudits (excluded_of settings p.name) p.content.entries)
    × All ReadsEntry (listed_entries Trusted (excluded_of settings p.name) p.content.entries)

-- under its name
abbrev IsImportedAgain : List PeerSettings → ImportedPeer → Type 0
IsImportedAgain settings p = (is_name p.name ≡ true) × AuditsCanBeRead settings p

abbrev CanStandPeer : ImportedPeer → Type 0
CanStandPeer p = CanStand Peers p.content.criteria p.content.entries

abbrev name_of_peer : ImportedPeer → List ℕ
name_of_peer p = p.name

abbrev table_of_peer : List PeerSettings → ImportedPeer → Data
table_of_peer settings p = table (imported_peer_table settings p)

abbrev next_imported : Found (List ImportedPeer) → List ℕ → Data → Told (Found (List ImportedPeer))
next_imported = next_named imported_table (codes "audits")

peer_next : (settings : List PeerSettings) (p : ImportedPeer) → CanStandPeer p → IsImportedAgain settings p
    → IsNext (SamePeer settings) next_imported name_of_peer (table_of_peer settings) p
peer_next settings p stands (named, reads) =
    let path = path_below (codes "audits") p.name in
    let (content, (told, (criteria, entries))) = audits_read_back Peers path (path ++ codes ".")
    (excluded_of settings p.name) p.content.criteria p.content.entries stands
    reads.0 reads.1 reads.2 reads.3 in (
      record { name = p.name; content = peer_value content },
      (record { name = refl; criteria = criteria; entries = entries }, λ found. rw (named, told) refl),
    )

peers_next : (settings : List PeerSettings) (peers : List ImportedPeer) → All CanStandPeer peers
    → All (IsImportedAgain settings) peers
    → All (IsNext (SamePeer settings) next_imported name_of_peer (table_of_peer settings)) peers
peers_next settings peers stand reads k d l = peer_next settings _ (stand k d l) (reads k d l)

-- ---- the file

publishers_read : (settings : List PeerSettings) (content : ImportsContent) (found : List PackagePublishers)
    → each_member next_publishers nothing (publishers_table content.publishers) ≡ Ok (all_of found)
    → publishers_told (imports_table settings content) ≡ Ok (all_of found)
publishers_read settings content found told =
    rw (
      get_field (codes "publisher") (imports_fields settings content),
      unless_empty-read (codes "top")
          (codes "publisher") (publishers_table content.publishers),
    ) told

-- a file is told as its parts are
file_told : (ms : Members) (publishers : List PackagePublishers) (peers : List ImportedPeer)
    → publishers_told ms ≡ Ok (all_of publishers)
    → imported_told ms ≡ Ok (all_of peers) → unknown_keys kind.ImportsFile ms ≡ 0
    → imports_file_told ms
    ≡ Ok (record { content = record { publishers = publishers; peers = peers }; notices = no_notices })
file_told ms publishers peers first second known = rw (first, second, known) refl

-- what is written of an imports file is read again, less the entries of excluded packages
pub imports_read_back : (settings : List PeerSettings) (content : ImportsContent) → IsImports content
    → All (λ (p : PackagePublishers). (is_package_name p.«package» ≡ true) × All ReadsPublisher p.publishers)
    content.publishers
    → All (λ (p : ImportedPeer). (is_name p.name ≡ true) × AuditsCanBeRead settings p) content.peers
    → (found : ImportsContent)
    × ((imports_file_told (imports_table settings content) ≡ Ok (record { content = found; notices = no_notices }))
    × SameImports settings content found)
imports_read_back settings content is of_publishers of_peers =
    let (publishers, (same, publishers_told)) =
    by_name-read (λ a b. a ≡ b) next_publishers name_of_package records_of_package content.publishers is.published_once
    (packages_next content.publishers is.published of_publishers) in
    let (peers, (matched, peers_told)) =
    by_name-read (SamePeer settings) next_imported name_of_peer (table_of_peer settings) content.peers is.named_once
    (peers_next settings content.peers is.peers of_peers) in (
      record { publishers = publishers; peers = peers },
      (
        file_told (imports_table settings content) publishers peers
            (publishers_read settings content publishers publishers_told) peers_told
            (none_unknown kind.ImportsFile (imports_fields settings content) refl),
        record { publishers = same_items content.publishers publishers same; peers = matched.0; no_others = matched.1 },
      ),
    )

-- the same, from what the writer tells
pub imports_read_again : (settings : List PeerSettings) (content : ImportsContent) → IsImports content
    → ReadsImports settings content
    → (found : ImportsContent)
    × ((imports_file_told (imports_table settings content) ≡ Ok (record { content = found; notices = no_notices }))
    × SameImports settings content found)
imports_read_again settings content is reads =
    imports_read_back settings content is
    (λ k d l. let records = reads.publishers k d l in (records.named, records.read))
    (λ k d l. let peer = reads.peers k d l
    in (peer.named, (peer.read.each_criterion, peer.read.audits, peer.read.wildcards, peer.read.trusted)))
