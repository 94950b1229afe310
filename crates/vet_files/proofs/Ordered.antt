-- Publisher records, each put where it belongs.
use Rattle.std.proofs.Common.{◌≡◌, ◌⊎◌, ◌≤◌, suc, List, [], ◌∷◌, length, refl, subst, sym, ap, inl, inr, Ordering, Less}
use Rattle.std.proofs.Common.{Equal, Greater, arith}
use Rattle.std.specs.BTreeSet.{insert_key}
use Rattle.std.specs.List.{Contains}
use Rattle.std.specs.Ordering.{match_ordering}
use Rattle.vet_base.proofs.ListLemmas.{Contains-cons_cases, Contains-later}
use Rattle.vet_base.proofs.SameKeys.{from_put, put_rises, to_put}
use Rattle.vet_entries.specs.declared.publisher.Publisher.{Publisher}
use Rattle.vet_entries.specs.Publisher.{publisher_cmp}
use Rattle.vet_entries.specs.PublisherLaws.{publisher_cmp-IsAntisymmetric, publisher_total}
use Rattle.vet_entries.specs.Publishers.{AreTheRecords}
use Rattle.vet_entries.proofs.Records.{same_records}
use Rattle.vet_files.specs.Publishers.{in_order, put_in_order}

-- ---- one record more

-- it is put where a key is
put_is : (p : Publisher) (qs : List Publisher) → insert_key publisher_cmp qs p ≡ put_in_order p qs
put_is p [] = refl
put_is p (q ∷ rest) =
    ap (λ more. match_ordering (publisher_cmp p q) (p ∷ q ∷ rest) (q ∷ rest) (q ∷ more)) (put_is p rest)

-- there is at most one more
put_in_order-length : (p : Publisher) (qs : List Publisher) → length (put_in_order p qs) ≤ suc (length qs)
put_in_order-length p [] = omega arith
put_in_order-length p (q ∷ rest) = step (put_in_order-length p rest) (publisher_cmp p q)
  where
    step : length (put_in_order p rest) ≤ suc (length rest) → (r : Ordering)
        → length (match_ordering r (p ∷ q ∷ rest) (q ∷ rest) (q ∷ put_in_order p rest)) ≤ suc (length (q ∷ rest))
    step more Less = omega arith
    step more Equal = omega arith
    step more Greater = omega arith

-- the records in order of some are those of one more, with this one put where it belongs
one_more : (p : Publisher) (given sorted : List Publisher) → AreTheRecords given sorted
    → AreTheRecords (p ∷ given) (insert_key publisher_cmp sorted p)
one_more p given sorted those = record {
  in_order = put_rises publisher_cmp publisher_total sorted p those.in_order;
  same = λ x. (back x, there x);
}
  where
    back : (x : Publisher) → Contains (insert_key publisher_cmp sorted p) x → Contains (p ∷ given) x
    back x held = elim (from_put publisher_cmp publisher_total sorted p x held) [
      | inl here ↦ (0, omega arith, here)
      | inr among ↦ Contains-later p x given ((those.same x).0 among)
    ]

    put_back : (x : Publisher) → (p ≡ x) ⊎ Contains sorted x → Contains (insert_key publisher_cmp sorted p) x
    put_back = to_put publisher_cmp publisher_total sorted p (λ y _ e. sym (publisher_cmp-IsAntisymmetric p y e))

    there : (x : Publisher) → Contains (p ∷ given) x → Contains (insert_key publisher_cmp sorted p) x
    there x held = elim (Contains-cons_cases p given x held) [
      | inl here ↦ put_back x (inl here)
      | inr among ↦ put_back x (inr ((those.same x).1 among))
    ]

-- ---- all records of a list

-- they are those of the list, each once, in order
pub in_order-AreTheRecords : (given : List Publisher) → AreTheRecords given (in_order given)
in_order-AreTheRecords [] = record { in_order = λ i j d l m. absurd (omega arith); same = λ p. (λ h. h, λ h. h) }
in_order-AreTheRecords (p ∷ rest) =
    subst (AreTheRecords (p ∷ rest)) (put_is p (in_order rest))
    (one_more p rest (in_order rest) (in_order-AreTheRecords rest))

-- no other list is
pub in_order-is : (given records : List Publisher) → AreTheRecords given records → in_order given ≡ records
in_order-is given records held =
    let mine = in_order-AreTheRecords given in
    same_records (in_order given) records mine.in_order held.in_order (λ p h. (held.same p).1 ((mine.same p).0 h))
    (λ p h. (mine.same p).1 ((held.same p).0 h))

-- there are no more
pub in_order-length : (given : List Publisher) → length (in_order given) ≤ length given
in_order-length [] = omega arith
in_order-length (p ∷ rest) =
    let one = put_in_order-length p (in_order rest) in
    let more = in_order-length rest in
    omega arith
