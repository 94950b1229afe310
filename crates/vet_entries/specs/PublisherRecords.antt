-- The publisher records of all packages (ours): those with records, in the order of their names.
--
-- The records of a package that has any are held in their order, each once, and the packages in the order of their
-- names (IsInOrder, IsByName). records_of are those of a package, none if it is not held; records_total is the number
-- of all. Setting the records of a package leaves those of all others. A package for which none are set is no longer
-- held (with_records).
use Rattle.std.specs.Prelude.{ℕ, ◌<◌, ◌^◌, ◌&&◌, Bool, List, [], ◌∷◌, Option, Some, None, IsTrue, is_some, length}
use Rattle.std.specs.List.{All, sum_by}
use Rattle.std.specs.Ordering.{nat_cmp}
use Rattle.std.specs.Cmp.Lexicographic.{slice_cmp}
use Rattle.std.specs.Str.{bytes_eq}
use Rattle.vet_base.specs.Keyed.{Fits, IsByKey, KeyedRoom, edited, item_of, with_item, without_item}
use Rattle.vet_base.specs.Words.{Name}
use Rattle.vet_base.specs.declared.keyed.KeyedEdit.{KeyedEdit}
use Rattle.vet_entries.specs.declared.publisher.Publisher.{Publisher}
use Rattle.vet_entries.specs.declared.publisher_records.PackagePublishers.{PackagePublishers}
use Rattle.vet_entries.specs.Publishers.{publishers_eq}

-- the name of the package
abbrev pub package_of : PackagePublishers → Name
package_of held = held.«package»

-- a package has records
abbrev pub HasAny : PackagePublishers → Type 0
HasAny held = 0 < length held.publishers

-- each package comes before those after it, and has records
pub record IsByName (packages : List PackagePublishers) : Type 0 where
  pub rising : IsByKey (slice_cmp nat_cmp) package_of packages
  pub filled : All HasAny packages

-- a package is among them
abbrev pub HasPackage : List PackagePublishers → Name → Type 0
HasPackage packages name = IsTrue (is_some (item_of (slice_cmp nat_cmp) package_of packages name))

-- the records of a package, if there is one
abbrev pub records_held : Option PackagePublishers → List Publisher
records_held None = []
records_held (Some held) = held.publishers

-- the records of the package with a name
abbrev pub records_of : List PackagePublishers → Name → List Publisher
records_of packages name = records_held (item_of (slice_cmp nat_cmp) package_of packages name)

-- a package with records, or nothing if there are none
abbrev pub with_any : Name → List Publisher → List PackagePublishers
with_any name [] = []
with_any name (first ∷ rest) = (record { «package» = name; publishers = first ∷ rest }) ∷ []

-- the packages with these records of one, or without it if there are none
abbrev pub with_records : Name → List Publisher → List PackagePublishers → List PackagePublishers
with_records name [] packages = without_item (slice_cmp nat_cmp) package_of packages name
with_records name (first ∷ rest) packages = with_item (slice_cmp nat_cmp) package_of packages
    (record { «package» = name; publishers = first ∷ rest })

-- whether two packages are the same, with the same records
abbrev pub package_eq : PackagePublishers → PackagePublishers → Bool
package_eq a b = bytes_eq a.«package» b.«package» && publishers_eq a.publishers b.publishers

-- the number of records in all
abbrev pub records_total : List PackagePublishers → ℕ
records_total packages = sum_by (λ held. length held.publishers) packages

-- an edit fits the list, and leaves each package with records, fewer than 2^64 in all
pub record FitsPublishers (e : KeyedEdit PackagePublishers) (records : KeyedRoom PackagePublishers) : Type 0 where
  pub place : Fits (slice_cmp nat_cmp) package_of e records
  pub filled : All HasAny (edited e records.items)
  pub counted : records_total (edited e records.items) < 2 ^ 64
