-- What an imports file gives can be written again.
use Rattle.std.proofs.Common.{◌≡◌, ℕ, List, [], ◌∷◌, ◌++◌, refl, ap, IfOk, arith, length}
use Rattle.std.specs.Prelude.{Ok, Err, Option, codes}
use Rattle.std.specs.List.{All}
use Rattle.std.specs.Option.{option_to_list}
use Rattle.std.proofs.lemmas.Bool.{cond_both}
use Rattle.std.proofs.lemmas.List.Elements.{All-cons, All-nil}
use Rattle.toml.specs.Data.{Data, Members, as_table}
use Rattle.vet_base.specs.Gives.{Told, found_or, ◌>>=◌}
use Rattle.vet_base.specs.Name.{is_name}
use Rattle.vet_entries.specs.PublisherRecords.{with_any}
use Rattle.vet_entries.specs.declared.publisher.Publisher.{Publisher}
use Rattle.vet_entries.specs.declared.publisher_records.PackagePublishers.{PackagePublishers}
use Rattle.vet_files.specs.declared.found.Found.{Found}
use Rattle.vet_files.specs.declared.imports_file.ImportedPeer.{ImportedPeer}
use Rattle.vet_files.specs.declared.imports_file.ImportsContent.{ImportsContent}
use Rattle.vet_files.specs.declared.read.whose.Whose.TheVariants.{Peers}
use Rattle.vet_files.specs.Field.{fault}
use Rattle.vet_files.specs.Imports.{imported_from, imported_table, imported_told, imports_file_told}
use Rattle.vet_files.specs.Imports.{next_publishers, peer_file_told, publisher_told, publishers_told}
use Rattle.vet_files.specs.Lists.{listed, found_with, named_table, next_named, path_below, tables_of_package}
use Rattle.vet_files.specs.Publishers.{in_order}
use Rattle.vet_files.specs.SameContent.{CanStand, HasRecords, IsImports}
use Rattle.vet_files.proofs.Apart.{Appends, AreApart, HasOther, Holds, apart-pairs, other-name, table-apart}
use Rattle.vet_files.proofs.Ordered.{in_order-AreTheRecords, in_order-is}
use Rattle.vet_files.proofs.Rising.{Rises, Rising}
use Rattle.vet_files.proofs.RisingTables.{as_table-rises}
use Rattle.vet_files.proofs.Stands.{PeerStands, peer-stands}
use Rattle.vet_files.proofs.Walks.{bind-gives, bind-keeps}

-- ---- publisher records

abbrev package_of : PackagePublishers → List ℕ
package_of p = p.«package»

-- records in order stay as they are
in_order-again : (records : List Publisher) → in_order (in_order records) ≡ in_order records
in_order-again records =
    in_order-is (in_order records) (in_order records)
    (record { in_order = (in_order-AreTheRecords records).in_order; same = λ p. (λ h. h, λ h. h) })

abbrev AppendsRecords : Found (List PackagePublishers) → List ℕ → Found (List PackagePublishers) → Type 0
AppendsRecords = Appends package_of (HasOther package_of) HasRecords

any-appended : (name : List ℕ) (records : List Publisher) → in_order records ≡ records
    → All (λ p. package_of p ≡ name) (with_any name records)
    × (AreApart (HasOther package_of) (with_any name records) × All HasRecords (with_any name records))
any-appended name [] still = (All-nil (λ p. package_of p ≡ name), (tt, All-nil HasRecords))
any-appended name (first ∷ rest) still =
    let held : PackagePublishers = record { «package» = name; publishers = first ∷ rest } in (
      All-cons (λ p. package_of p ≡ name) held [] refl (All-nil (λ p. package_of p ≡ name)),
      (
        (All-nil (HasOther package_of held), tt),
        All-cons HasRecords held [] ((λ none. omega (arith, ap length none)), still) (All-nil HasRecords),
      ),
    )

next_publishers-appends : (found : Found (List PackagePublishers)) (name : List ℕ) (d : Data)
    → IfOk (next_publishers found name d) (AppendsRecords found name)
next_publishers-appends found name d =
    bind-gives (AppendsRecords found name) (tables_of_package publisher_told (codes "publisher") name d) _
    (λ more. let records = in_order more.content
    in (with_any name records, (refl, any-appended name records (in_order-again more.content))))

abbrev HavePublished : Found (List PackagePublishers) → Type 0
HavePublished = Holds (HasOther package_of) HasRecords

publishers-stand : (ms : Members) → Rising ms → IfOk (publishers_told ms) HavePublished
publishers-stand =
    table-apart package_of (HasOther package_of) HasRecords (other-name package_of) next_publishers
    (λ found name d _. next_publishers-appends found name d) (codes "top") (codes "publisher")

-- ---- peers

abbrev peer_name : ImportedPeer → List ℕ
peer_name p = p.name

abbrev IsStanding : ImportedPeer → Type 0
IsStanding p = CanStand Peers p.content.criteria p.content.entries

abbrev AppendsPeers : Found (List ImportedPeer) → List ℕ → Found (List ImportedPeer) → Type 0
AppendsPeers = Appends peer_name (HasOther peer_name) IsStanding

abbrev OneStands : List ℕ → Found (Option ImportedPeer) → Type 0
OneStands name more =
    let ps : List ImportedPeer = option_to_list more.content in
    All (λ p. peer_name p ≡ name) ps × (AreApart (HasOther peer_name) ps × All IsStanding ps)

imported_from-stands : (name path prefix : List ℕ) (ms : Members) → Rising ms
    → IfOk (imported_from name path prefix ms) (OneStands name)
imported_from-stands name path prefix ms rise =
    bind-keeps PeerStands (OneStands name) (peer_file_told path prefix ms) _ (peer-stands path prefix ms rise)
    (λ more stands. let peer : ImportedPeer = record { name = name; content = more.content } in (
      All-cons (λ p. peer_name p ≡ name) peer [] refl (All-nil (λ p. peer_name p ≡ name)),
      ((All-nil (HasOther peer_name peer), tt), All-cons IsStanding peer [] stands (All-nil IsStanding)),
    ))

abbrev imported_at : List ℕ → Data → Told (Found (Option ImportedPeer))
imported_at = named_table imported_table (codes "audits")

abbrev next_imported : Found (List ImportedPeer) → List ℕ → Data → Told (Found (List ImportedPeer))
next_imported = next_named imported_table (codes "audits")

imported_at-stands : (name : List ℕ) (d : Data) → Rises d → IfOk (imported_at name d) (OneStands name)
imported_at-stands name d rise =
    bind-keeps Rising (OneStands name) (found_or (fault (codes "audits") name) (as_table d))
    (imported_table name (path_below (codes "audits") name))
    (as_table-rises (fault (codes "audits") name) d rise)
    (λ ms inner. imported_from-stands name (path_below (codes "audits") name)
    (path_below (codes "audits") name ++ codes ".") ms inner)

next_imported-appends : (found : Found (List ImportedPeer)) (name : List ℕ) (d : Data) → Rises d
    → IfOk (next_imported found name d) (AppendsPeers found name)
next_imported-appends found name d rise =
    cond_both (is_name name) (imported_at name d >>= (λ more. Ok (found_with found (listed more))))
    (Err (fault (codes "audits") name)) (λ r. IfOk r (AppendsPeers found name))
    (λ _. bind-keeps (OneStands name) (AppendsPeers found name) (imported_at name d) _ (imported_at-stands name d rise)
    (λ more stands. (option_to_list more.content, (refl, stands))))
    (λ _. tt)

abbrev AreStanding : Found (List ImportedPeer) → Type 0
AreStanding = Holds (HasOther peer_name) IsStanding

peers-stand : (ms : Members) → Rising ms → IfOk (imported_told ms) AreStanding
peers-stand =
    table-apart peer_name (HasOther peer_name) IsStanding (other-name peer_name) next_imported next_imported-appends
    (codes "top") (codes "audits")

-- ---- the file

abbrev pub ImportsStand : Found ImportsContent → Type 0
ImportsStand found = IsImports found.content

pub imports-stand : (ms : Members) → Rising ms → IfOk (imports_file_told ms) ImportsStand
imports-stand ms rise =
    bind-keeps HavePublished ImportsStand (publishers_told ms) _ (publishers-stand ms rise) (λ publishers published.
    bind-keeps AreStanding ImportsStand (imported_told ms) _ (peers-stand ms rise) (λ peers standing. record {
      published_once = apart-pairs (HasOther package_of) publishers.content published.0;
      published = published.1;
      named_once = apart-pairs (HasOther peer_name) peers.content standing.0;
      peers = standing.1;
    }))
