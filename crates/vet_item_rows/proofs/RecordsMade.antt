-- Publisher records by their packages, made of records in whatever order.
use Rattle.std.proofs.Common.{◌≡◌, ◌<◌, ◌≤◌, ◌+◌, ℕ, zero, suc, List, [], ◌∷◌, ◌++◌, ◌∙◌, length, map, get_or, take}
use Rattle.std.proofs.Common.{refl, sym, ap}
use Rattle.std.proofs.Common.{subst, arith, inl, inr, Less}
use Rattle.std.specs.Cmp.{tied_itself}
use Rattle.std.specs.List.{Contains, filter}
use Rattle.std.specs.Ordering.{is_eq}
use Rattle.std.proofs.lemmas.Cmp.{nat_list_cmp_total}
use Rattle.std.proofs.lemmas.List.Elements.{All-contains}
use Rattle.std.proofs.lemmas.List.Sums.{sum_by-cons}
use Rattle.vet_base.specs.Items.{IsIn, SameItems}
use Rattle.vet_base.specs.Keyed.{all_set}
use Rattle.vet_base.specs.Words.{Name}
use Rattle.vet_base.proofs.Comparisons.{equal}
use Rattle.vet_base.proofs.ItemLemmas.{all_in, filter_in, in_all, in_filter, in_map, map_in}
use Rattle.vet_base.proofs.KeyedItems.{all_set_is, of_one_key}
use Rattle.vet_base.proofs.ListLemmas.{Contains-here, Contains-later}
use Rattle.vet_base.proofs.Rising.{R, only_equal}
use Rattle.vet_entries.specs.PublisherRecords.{HasAny, package_of, records_total}
use Rattle.vet_entries.specs.Publishers.{AreTheRecords, IsInOrder}
use Rattle.vet_entries.specs.declared.publisher.Publisher.{Publisher}
use Rattle.vet_entries.specs.declared.publisher_records.PackagePublishers.{PackagePublishers}
use Rattle.vet_entries.proofs.Records.{same_records}
use Rattle.vet_entries.proofs.SetInOrder.{set_in_order}
use Rattle.vet_item_rows.specs.Gathered.{gathered, is_filed_at, items_at}
use Rattle.vet_item_rows.specs.ReadBack.{EachStandsFor}
use Rattle.vet_item_rows.specs.ReadRecords.{AreRecordsOf, IsGroupOfPackage, filed_records}
use Rattle.vet_item_rows.specs.declared.read.gathered.WithKey.{WithKey}
use Rattle.vet_item_rows.proofs.Gathering.{pairs_mapped}
use Rattle.vet_item_rows.proofs.Sourcing.{flat_in, in_flat}

-- ---- the records of one package

contained : (xs : List Publisher) (x : Publisher) → IsIn x xs → Contains xs x
contained [] x i = absurd i
contained (y ∷ xs) x (inl e) = subst (Contains (y ∷ xs)) (sym e) (Contains-here y xs)
contained (y ∷ xs) x (inr i) = Contains-later y x xs (contained xs x i)

among : (xs : List Publisher) (x : Publisher) → Contains xs x → IsIn x xs
among xs x c = All-contains (λ y. IsIn y xs) xs x (all_in (λ y. IsIn y xs) xs (λ y i. i)) c

-- some records, each once and in order, are those held, if these have the same
pub records_are : (given made held : List Publisher) → AreTheRecords given made → SameItems given held → IsInOrder held
    → made ≡ held
records_are given made held are same up =
    same_records made held are.in_order up
    (λ p c. contained held p (same.0 p (among given p ((are.same p).0 c))))
    (λ p c. (are.same p).1 (contained given p (same.1 p (among held p c))))

-- ---- by packages

abbrev pub here : Name → Name
here n = n

module _ (records : List (WithKey Name Publisher)) (packages : List PackagePublishers)
    (parts : AreRecordsOf records packages) where
  -- whose a record is
  owner : (f : WithKey Name Publisher) → IsIn f records
      → (p : PackagePublishers) × (IsIn p packages × ((f.key ≡ p.«package») × IsIn f.item p.publishers))
  owner f i =
      let p = in_flat filed_records packages f (parts.same.0 f i) in
      let x = in_map (λ (x : Publisher). record { key = p.0.«package»; item = x }) p.0.publishers f p.1.1 in (
        p.0,
        (
          p.1.0,
          (
            ap (λ (g : WithKey Name Publisher). g.key) x.1.1,
            subst (λ y. IsIn y p.0.publishers) (sym (ap (λ (g : WithKey Name Publisher). g.item) x.1.1)) x.1.0,
          ),
        ),
      )

  -- a record of a package is among them
  there : (p : PackagePublishers) → IsIn p packages → (x : Publisher) → IsIn x p.publishers
      → IsIn (let f : WithKey Name Publisher = record { key = p.«package»; item = x } in f) records
  there p i x j =
      let f : WithKey Name Publisher = record { key = p.«package»; item = x } in
      parts.same.1 f (flat_in filed_records packages p f i
      (map_in (λ (y : Publisher). record { key = p.«package»; item = y }) p.publishers x j))

  abbrev pub keys : List Name
  keys = map (λ (f : WithKey Name Publisher). f.key) records

  some : (xs : List Publisher) → 0 < length xs → (x : Publisher) × IsIn x xs
  some [] l = absurd (omega (arith, l))
  some (x ∷ xs) l = (x, inl refl)

  same_names : SameItems keys (map package_of packages)
  same_names = (
    λ n i. (let f = in_map (λ (f : WithKey Name Publisher). f.key) records n i in
        let p = owner f.0 f.1.0 in
        subst (λ m. IsIn m (map package_of packages)) (sym (f.1.1 ∙ p.1.1.0)) (map_in package_of packages p.0 p.1.0)),
    λ n i. (let p = in_map package_of packages n i in
        let x = some p.0.publishers (in_all HasAny packages parts.by_name.filled p.0 p.1.0) in
        subst (λ m. IsIn m keys) (sym p.1.1)
        (map_in (λ (f : WithKey Name Publisher). f.key) records (record { key = p.0.«package»; item = x.0 })
        (there p.0 p.1.0 x.0 x.1))),
  )

  -- their packages are the names
  pub names_are : all_set R here [] keys ≡ map package_of packages
  names_are =
      all_set_is R nat_list_cmp_total only_equal here (map package_of packages) keys
      (pairs_mapped package_of (λ a b. R a b ≡ Less) packages parts.by_name.rising) same_names

  -- what is filed under a package are its records
  group : (p : PackagePublishers) → IsIn p packages → SameItems (items_at R p.«package» records) p.publishers
  group p i = (
    λ x j. (let f = in_map (λ (f : WithKey Name Publisher). f.item) (filter (is_filed_at R p.«package») records) x j in
        let at = in_filter (is_filed_at R p.«package») records f.0 f.1.0 in
        let q = owner f.0 at.0 in
        let same : q.0 ≡ p = of_one_key R nat_list_cmp_total only_equal package_of packages parts.by_name.rising q.0 p
        q.1.0 i (sym q.1.1.0 ∙ sym (only_equal p.«package» f.0.key (equal (R p.«package» f.0.key) at.1))) in
        subst (λ y. IsIn y p.publishers) (sym f.1.1) (subst (λ r. IsIn f.0.item r.publishers) same q.1.1.1)),
    λ x j. (let f : WithKey Name Publisher = record { key = p.«package»; item = x } in
        map_in (λ (g : WithKey Name Publisher). g.item) (filter (is_filed_at R p.«package») records) f
        (filter_in (is_filed_at R p.«package») records f (there p i x j)
        (ap is_eq (tied_itself nat_list_cmp_total p.«package»)))),
  )

  each_group : (ps : List PackagePublishers) → ((p : PackagePublishers) → IsIn p ps → IsIn p packages)
      → EachStandsFor IsGroupOfPackage (map (gathered R here records) (map package_of ps)) ps
  each_group [] h = tt
  each_group (p ∷ ps) h = (
    record {
      name = refl;
      records = group p (h p (inl refl));
      in_order = in_all (λ (q : PackagePublishers). IsInOrder q.publishers) packages parts.in_order p (h p (inl refl));
    },
    each_group ps (λ q i. h q (inr i)),
  )

  pub groups_stand : EachStandsFor IsGroupOfPackage (map (gathered R here records) (map package_of packages)) packages
  groups_stand = each_group packages (λ p i. i)

  pub in_order : all_set R package_of [] packages ≡ packages
  in_order = set_in_order R package_of packages parts.by_name.rising

-- ---- how many there are

total-cons : (p : PackagePublishers) (packages : List PackagePublishers)
    → records_total (p ∷ packages) ≡ length p.publishers + records_total packages
total-cons p packages = sum_by-cons (λ (held : PackagePublishers). length held.publishers) p packages

pub total_at : (packages : List PackagePublishers) (i : ℕ) (d : PackagePublishers) → i < length packages
    → records_total (take i packages) + length (get_or packages i d).publishers ≤ records_total packages
total_at [] i d l = absurd (omega (arith, l))
total_at (p ∷ packages) zero d l = (let all = total-cons p packages in omega (arith, all))
total_at (p ∷ packages) (suc i) d l =
    let rest = total_at packages i d (omega (arith, l)) in
    let all = total-cons p packages in
    let front = total-cons p (take i packages) in
    omega (arith, rest, all, front)

pub total_push : (xs : List PackagePublishers) (x : PackagePublishers)
    → records_total (xs ++ x ∷ []) ≡ records_total xs + length x.publishers
total_push [] x = (let one = total-cons x [] in omega (arith, one))
total_push (y ∷ xs) x =
    let rest = total_push xs x in
    let all = total-cons y (xs ++ x ∷ []) in
    let front = total-cons y xs in
    omega (arith, rest, all, front)
