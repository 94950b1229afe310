-- What the publisher records of packages are, after those of one were set.
use Rattle.std.proofs.Common.{◌≡◌, ℕ, ◌+◌, ◌<◌, ◌≤◌, ◌^◌, List, [], ◌∷◌, Option, Some, None, length, refl, sym, ap}
use Rattle.std.proofs.Common.{subst, ◌∙◌, arith}
use Rattle.std.specs.List.{All}
use Rattle.std.proofs.lemmas.Cmp.{nat_list_cmp_total}
use Rattle.vet_base.specs.Keyed.{Fits, IsByKey, KeyedRoom, edited, item_of, with_item}
use Rattle.vet_base.specs.declared.keyed.KeyedEdit.{KeyedEdit}
use Rattle.vet_base.proofs.KeyedLemmas.{IsByKey-with_item, item_of-other, item_of-own}
use Rattle.vet_base.proofs.Comparisons.{equal}
use Rattle.vet_base.proofs.KeyedParts.{All-with_item, All-without_item, IsByKey-without_item, held_sum, item_found}
use Rattle.vet_base.proofs.KeyedParts.{item_of-gone, item_of-stays, sum_with, sum_without, with_held, without_none}
use Rattle.vet_base.proofs.Rising.{R, only_equal}
use Rattle.vet_entries.specs.declared.publisher.Publisher.{Publisher}
use Rattle.vet_entries.specs.declared.publisher_records.PackagePublishers.{PackagePublishers}
use Rattle.vet_entries.specs.PublisherRecords.{FitsPublishers, HasAny, IsByName, package_of, records_held, records_of}
use Rattle.vet_entries.specs.PublisherRecords.{records_total, with_records}

abbrev listed : List ℕ → Publisher → List Publisher → PackagePublishers
listed name first rest = record { «package» = name; publishers = first ∷ rest }

-- the package has these records
pub records_of-own : (name : List ℕ) (records : List Publisher) (packages : List PackagePublishers)
    → records_of (with_records name records packages) name ≡ records
records_of-own name [] packages =
    ap records_held (item_of-gone R nat_list_cmp_total only_equal package_of packages name)
records_of-own name (first ∷ rest) packages =
    ap records_held (item_of-own R nat_list_cmp_total only_equal package_of packages (listed name first rest))

-- those of another stay
pub records_of-other : (name other : List ℕ) (records : List Publisher) (packages : List PackagePublishers)
    → (other ≡ name → ⊥)
    → records_of (with_records name records packages) other ≡ records_of packages other
records_of-other name other [] packages differs =
    ap records_held (item_of-stays R nat_list_cmp_total only_equal package_of packages name other differs)
records_of-other name other (first ∷ rest) packages differs =
    ap records_held (item_of-other R nat_list_cmp_total only_equal package_of packages (listed name first rest) other
    differs)

-- what holds of each package, and of this one with these records, holds of each after
pub All-with_records : (P : PackagePublishers → Type 0) (name : List ℕ) (records : List Publisher)
    (packages : List PackagePublishers) → All P packages
    → (0 < length records → P (record { «package» = name; publishers = records }))
    → All P (with_records name records packages)
All-with_records P name [] packages each one = All-without_item R package_of P packages name each
All-with_records P name (first ∷ rest) packages each one = All-with_item R package_of P packages
    (listed name first rest) each (one (omega arith))

-- the packages stay in order, each with records
pub IsByName-with_records : (name : List ℕ) (records : List Publisher) (packages : List PackagePublishers)
    → IsByName packages → IsByName (with_records name records packages)
IsByName-with_records name records packages by_name = record {
  rising = rising records;
  filled = All-with_records HasAny name records packages by_name.filled (λ some. some);
}
  where
    rising : (rs : List Publisher) → IsByKey R package_of (with_records name rs packages)
    rising [] = IsByKey-without_item R package_of packages name by_name.rising
    rising (first ∷ rest) = IsByKey-with_item R nat_list_cmp_total only_equal package_of packages
        (listed name first rest) by_name.rising

-- the total after: the records that were set instead of those held
counted_held : (o : Option PackagePublishers) → held_sum (λ (held : PackagePublishers). length held.publishers) o
    ≡ length (records_held o)
counted_held None = refl
counted_held (Some held) = refl

pub records_total-with_records : (name : List ℕ) (records : List Publisher) (packages : List PackagePublishers)
    → IsByName packages
    → records_total (with_records name records packages) + length (records_of packages name)
    ≡ records_total packages + length records
records_total-with_records name [] packages by_name =
    omega (
      arith,
      sum_without R nat_list_cmp_total only_equal package_of (λ held. length held.publishers) packages name
          by_name.rising,
      counted_held (item_of R package_of packages name),
    )
records_total-with_records name (first ∷ rest) packages by_name =
    omega (
      arith,
      sum_with R nat_list_cmp_total only_equal package_of (λ held. length held.publishers) packages
          (listed name first rest) by_name.rising,
      counted_held (item_of R package_of packages name),
    )

-- a package has no more records than there are in all
pub records_of-total : (name : List ℕ) (packages : List PackagePublishers) → IsByName packages
    → length (records_of packages name) ≤ records_total packages
records_of-total name packages by_name = omega (arith, records_total-with_records name [] packages by_name)

-- to set the records that are held changes nothing
pub with_same_records : (name : List ℕ) (records : List Publisher) (packages : List PackagePublishers)
    → IsByName packages → records_of packages name ≡ records
    → with_records name records packages ≡ packages
with_same_records name records packages by_name held = at records (item_of R package_of packages name) refl held
  where
    at : (rs : List Publisher) (o : Option PackagePublishers) → item_of R package_of packages name ≡ o
        → records_held o ≡ rs → with_records name rs packages ≡ packages
    at [] None none e = without_none R package_of packages name none
    at [] (Some x) found e =
        absurd (omega (arith, (item_found R package_of HasAny packages name x by_name.filled found).1, ap length e))
    at (first ∷ rest) None none e = absurd (omega (arith, ap length e))
    at (first ∷ rest) (Some x) found e =
        let named : x.«package» ≡ name =
        only_equal x.«package» name
        (equal (R x.«package» name) (item_found R package_of HasAny packages name x by_name.filled found).0) in
        let is : x ≡ listed name first rest = λ i. record { «package» = named i; publishers = e i } in
        with_held R nat_list_cmp_total only_equal package_of packages (listed name first rest) by_name.rising
        (found ∙ ap (λ (y : PackagePublishers). Some y) is)

-- ---- edits

-- the packages with the one that has these records, where there are some
pub with_some : (name : List ℕ) (records : List Publisher) (packages : List PackagePublishers) → (records ≡ [] → ⊥)
    → with_item R package_of packages (record { «package» = name; publishers = records })
    ≡ with_records name records packages
with_some name [] packages some = absurd (some refl)
with_some name (first ∷ rest) packages some = refl

-- an edit of the list that leads to these records of a package fits
pub fits_setting : (e : KeyedEdit PackagePublishers) (held : KeyedRoom PackagePublishers) (name : List ℕ)
    (records : List Publisher) → Fits R package_of e held
    → All HasAny held.items → edited e held.items ≡ with_records name records held.items
    → records_total (with_records name records held.items) < 2 ^ 64 → FitsPublishers e held
fits_setting e held name records place filled leads counted = record {
  place = place;
  filled = subst (All HasAny) (sym leads) (All-with_records HasAny name records held.items filled (λ some. some));
  counted = subst (λ packages. records_total packages < 2 ^ 64) (sym leads) counted;
}

-- and so does one that leads back to packages with records that were counted
pub fits_back : (e : KeyedEdit PackagePublishers) (held : KeyedRoom PackagePublishers)
    (packages : List PackagePublishers) → Fits R package_of e held
    → edited e held.items ≡ packages → All HasAny packages → records_total packages < 2 ^ 64 → FitsPublishers e held
fits_back e held packages place back filled counted = record {
  place = place;
  filled = subst (All HasAny) (sym back) filled;
  counted = subst (λ ps. records_total ps < 2 ^ 64) (sym back) counted;
}
