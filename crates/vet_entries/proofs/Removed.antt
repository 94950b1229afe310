-- The order of packages after an entry was taken out.
use Rattle.std.proofs.Common.{◌≡◌, ℕ, zero, suc, ◌+◌, ◌-◌, ◌<◌, ◌==◌, Bool, true, false, not, cond, ◌&&◌, inl, inr}
use Rattle.std.proofs.Common.{List, [], ◌∷◌, ◌++◌, map, length, get_or, refl, sym, ap, ◌∙◌, arith, eqb-true, eq-eqb}
use Rattle.std.specs.List.{filter, remove, range_with_len}
use Rattle.std.specs.List.Sorted.{IsNonDecreasingBy}
use Rattle.std.specs.Ordering.{is_eq, ordering_index}
use Rattle.std.proofs.lemmas.Bool.{ne_eqb, cases_lt}
use Rattle.std.proofs.lemmas.Cmp.{nat_list_cmp_total, tied_itself}
use Rattle.std.proofs.lemmas.List.{get_or-map, length-map, map-append}
use Rattle.std.proofs.lemmas.List.Elements.{All-filter, All-map, filter-append, filter_passes}
use Rattle.std.proofs.lemmas.List.Edits.{length-remove}
use Rattle.std.proofs.lemmas.List.Filters.{length-filter_both}
use Rattle.std.proofs.lemmas.List.Kept.{IsNonDecreasingBy-filter}
use Rattle.vet_entries.specs.declared.facts.HeldEntry.{HeldEntry}
use Rattle.vet_entries.specs.ByPackage.{IsByPackage, stand, is_at, down}
use Rattle.vet_base.proofs.ListLemmas.{filter_drops, filter_keeps}
use Rattle.vet_entries.proofs.Places.{down_above, down_below, filter-filter, filter-map, filter_same, filter_swap}
use Rattle.vet_entries.proofs.Places.{in_range, map_range, range_around, range_cut}
use Rattle.vet_entries.proofs.Standing.{stand_down}

-- a place is not the one of the entry that goes
abbrev pub stays : ℕ → ℕ → Bool
stays at place = not (place == at)

stays-other : (at place : ℕ) → (place ≡ at → ⊥) → stays at place ≡ true
stays-other at place other = ap not (ne_eqb place at other)

other-stays : (at place : ℕ) → stays at place ≡ true → place ≡ at → ⊥
other-stays at place h e = cc (sym h ∙ ap not (eq-eqb place at e))

-- the places of the entries that stay, moved
range_down : (at n : ℕ) → at < n → map (down at) (filter (stays at) (range_with_len 0 n)) ≡ range_with_len 0 (n - 1)
range_down at n l =
    let behind = n - 1 - at in
    ap (λ zs. map (down at) (filter (stays at) zs)) (range_around at behind n (omega (arith, l)))
    ∙ ap (map (down at)) (filter-append (stays at) (range_with_len 0 at) (at ∷ range_with_len (at + 1) behind)
    ∙ ap (λ zs. zs ++ filter (stays at) (at ∷ range_with_len (at + 1) behind))
    (filter_keeps (stays at) (range_with_len 0 at)
    (λ k d m. stays-other at _ (λ e. absurd (omega (arith, e, (in_range 0 at k d m).1)))))
    ∙ ap (λ b. range_with_len 0 at ++ cond b (at ∷ filter (stays at) (range_with_len (at + 1) behind))
    (filter (stays at) (range_with_len (at + 1) behind))) (ap not (eq-eqb at at refl))
    ∙ ap (λ zs. range_with_len 0 at ++ zs)
    (filter_keeps (stays at) (range_with_len (at + 1) behind)
    (λ k d m. stays-other at _ (λ e. absurd (omega (arith, e, (in_range (at + 1) behind k d m).0))))))
    ∙ map-append (down at) (range_with_len 0 at) (range_with_len (at + 1) behind)
    ∙ ap (λ zs. zs ++ map (down at) (range_with_len (at + 1) behind))
    (map_range (down at) 0 0 at (λ k m. down_below at (0 + k) (omega (arith, m))))
    ∙ ap (λ zs. range_with_len 0 at ++ zs)
    (map_range (down at) (at + 1) at behind (λ k m. omega (arith, down_above at (at + 1 + k) (omega arith))))
    ∙ sym (range_cut at (n - 1) (omega (arith, l)))

own_name : (entries : List HeldEntry) (at : ℕ) → at < length entries → (name : List ℕ) × (is_at entries name at ≡ true)
own_name [] at l = absurd (omega arith)
own_name (x ∷ entries) zero l = (x.entry.«package», ap is_eq (tied_itself nat_list_cmp_total x.entry.«package»))
own_name (x ∷ entries) (suc at) l = own_name entries at (omega arith)

-- a place that passes a test is left by it
left_by : (at : ℕ) (q : ℕ → Bool) (xs : List ℕ) → q at ≡ true → filter (λ place. place == at) (filter q xs)
    ≡ filter (λ place. place == at) xs
left_by at q xs h =
    filter-filter (λ place. place == at) q xs
    ∙ filter_same (λ place. q place && (place == at)) (λ place. place == at) xs (λ k d l. either (get_or xs k d) _ refl)
  where
    either : (place : ℕ) (b : Bool) → (place == at) ≡ b → (q place && b) ≡ b
    either place true e = ap (λ p. q p && true) (eqb-true place at e) ∙ ap (λ b. b && true) h
    either place false e = and_no (q place)
      where
        and_no : (a : Bool) → (a && false) ≡ false
        and_no true = refl
        and_no false = refl

range_once : (at n : ℕ) → at < n → filter (λ place. place == at) (range_with_len 0 n) ≡ at ∷ []
range_once at n l =
    let behind = n - 1 - at in
    let is : ℕ → Bool = λ place. place == at in
    ap (filter is) (range_around at behind n (omega (arith, l)))
    ∙ filter-append is (range_with_len 0 at) (at ∷ range_with_len (at + 1) behind)
    ∙ ap (λ zs. zs ++ filter is (at ∷ range_with_len (at + 1) behind))
    (filter_drops is (range_with_len 0 at)
    (λ k d m. ne_eqb _ at (λ e. absurd (omega (arith, e, (in_range 0 at k d m).1)))))
    ∙ ap (λ b. cond b (at ∷ filter is (range_with_len (at + 1) behind)) (filter is (range_with_len (at + 1) behind)))
    (eq-eqb at at refl)
    ∙ ap (λ zs. at ∷ zs) (filter_drops is (range_with_len (at + 1) behind)
    (λ k d m. ne_eqb _ at (λ e. absurd (omega (arith, e, (in_range (at + 1) behind k d m).0)))))

-- one place goes
pub one_less : (entries : List HeldEntry) (order : List ℕ) (at : ℕ) → at < length entries → IsByPackage entries order
    → length (filter (stays at) order) + 1 ≡ length order
one_less entries order at l b =
    let own = own_name entries at l in
    let q = is_at entries own.0 in
    let is : ℕ → Bool = λ place. place == at in
    let once : filter is order ≡ at ∷ [] =
    sym (left_by at q order own.1) ∙ ap (filter is) (b.same own.0) ∙ left_by at q (range_with_len 0 (length entries))
    own.1 ∙ range_once at (length entries) l in
    omega (arith, length-filter_both is (stays at) (λ _. refl) order, ap length once)

kept_others : (at : ℕ) (xs : List ℕ) (k d : ℕ) → k < length (filter (stays at) xs)
    → get_or (filter (stays at) xs) k d ≡ at → ⊥
kept_others at xs k d l = other-stays at _ (filter_passes (stays at) xs k d l)

moved_down : (entries : List HeldEntry) (name : List ℕ) (at : ℕ) (xs : List ℕ) → at < length entries
    → filter (is_at (remove entries at) name) (map (down at) (filter (stays at) xs))
    ≡ map (down at) (filter (stays at) (filter (is_at entries name) xs))
moved_down entries name at xs l =
    filter-map (is_at (remove entries at) name) (is_at entries name) (down at) (filter (stays at) xs)
    (λ k d m. ap is_eq (stand_down entries at name (get_or (filter (stays at) xs) k d) l (kept_others at xs k d m)))
    ∙ ap (map (down at)) (filter_swap (is_at entries name) (stays at) xs)

down_within : (at place n : ℕ) → place < n → at < n → (place ≡ at → ⊥) → down at place + 1 < n
down_within at place n l m other = elim (cases_lt place at) [
  | inl h ↦ omega (arith, h, m, down_below at place (omega (arith, h)))
  | inr h ↦ elim (cases_lt at place) [
    | inl g ↦ omega (arith, l, down_above at place g)
    | inr g ↦ absurd (other (omega (arith, h, g)))
  ]
]

falls : (entries : List HeldEntry) (order : List ℕ) (at : ℕ) → at < length entries → IsByPackage entries order
    → (name : List ℕ) → IsNonDecreasingBy (λ place. ordering_index (stand (remove entries at) name place))
    (map (down at) (filter (stays at) order))
falls entries order at l b name =
    let kept = filter (stays at) order in
    let rising = IsNonDecreasingBy-filter (λ place. ordering_index (stand entries name place)) (stays at) order
    (b.rising name) in
    let moved : (k d : ℕ) → k < length kept
    → ordering_index (stand (remove entries at) name (get_or (map (down at) kept) k d))
    ≡ ordering_index (stand entries name (get_or kept k 0)) =
    λ k d m. ap (λ p. ordering_index (stand (remove entries at) name p)) (get_or-map (down at) kept k 0 d m)
    ∙ ap ordering_index (stand_down entries at name (get_or kept k 0) l (kept_others at order k 0 m)) in
    let long = length-map kept (down at) in
    λ i j d ij m. omega (
      arith,
      moved i d (omega (arith, ij, m, long)),
      moved j d (omega (arith, m, long)),
      rising i j 0 ij (omega (arith, m, long)),
    )

-- the order after an entry was taken out
pub removed : (entries : List HeldEntry) (order : List ℕ) (at : ℕ) → at < length entries → IsByPackage entries order
    → IsByPackage (remove entries at) (map (down at) (filter (stays at) order))
removed entries order at l b =
    let less = length-remove entries at l in
    record {
      rising = falls entries order at l b;
      same = λ name. moved_down entries name at order l
          ∙ ap (λ zs. map (down at) (filter (stays at) zs)) (b.same name)
          ∙ sym (moved_down entries name at (range_with_len 0 (length entries)) l)
          ∙ ap (filter (is_at (remove entries at) name))
          (range_down at (length entries) l
          ∙ ap (range_with_len 0) (let e : length entries - 1 ≡ length (remove entries at) = omega (arith, less)
          in e));
      within = All-map (λ place. place < length (remove entries at)) (down at) (filter (stays at) order)
          (λ k d m. (let in' = All-filter (stays at) (λ place. place < length entries) order b.within k d m in
          omega (
            arith,
            less,
            down_within at (get_or (filter (stays at) order) k d) (length entries) in' l
                (kept_others at order k d m),
          )));
      long = omega (arith, less, length-map (filter (stays at) order) (down at), one_less entries order at l b, b.long);
    }
