-- Which packages the publisher records that were read are of (ours).
use Rattle.std.specs.Prelude.{◌≡◌, ◌≤◌, List, map}
use Rattle.std.specs.List.{All, flat_map}
use Rattle.vet_base.specs.Items.{SameItems}
use Rattle.vet_base.specs.Words.{Name}
use Rattle.vet_base.specs.declared.limits.TheConstants.{MOST_PUBLISHERS}
use Rattle.vet_entries.specs.PublisherRecords.{IsByName, records_total}
use Rattle.vet_entries.specs.Publishers.{IsInOrder}
use Rattle.vet_entries.specs.declared.publisher.Publisher.{Publisher}
use Rattle.vet_entries.specs.declared.publisher_records.PackagePublishers.{PackagePublishers}
use Rattle.vet_item_rows.specs.Gathered.{Gathered}
use Rattle.vet_item_rows.specs.declared.read.gathered.WithKey.{WithKey}

-- records that are filed under a package are those of the package
pub record IsGroupOfPackage (g : Gathered Name Publisher) (p : PackagePublishers) : Type 0 where
  pub name : g.head ≡ p.«package»
  pub records : SameItems g.items p.publishers
  pub in_order : IsInOrder p.publishers

-- the records of a package, under its name
abbrev pub filed_records : PackagePublishers → List (WithKey Name Publisher)
filed_records p = map (λ record_of. record { key = p.«package»; item = record_of }) p.publishers

-- records of some packages, in whatever order
pub record AreRecordsOf (records : List (WithKey Name Publisher)) (packages : List PackagePublishers) : Type 0 where
  pub by_name : IsByName packages
  pub in_order : All (λ p. IsInOrder p.publishers) packages
  pub few : records_total packages ≤ MOST_PUBLISHERS
  pub same : SameItems records (flat_map filed_records packages)
