-- Items in the order of their names, as a map.
use Rattle.std.proofs.Common.{◌≡◌, ℕ, ◌<◌, ◌↔◌, ◌==◌, ◌&&◌, Bool, true, false, cond, T, List, [], ◌∷◌, map as mapped}
use Rattle.std.proofs.Common.{length, Some, option_map, refl, sym, ap, subst, ◌∙◌, arith, eqb-true, eq-eqb}
use Rattle.std.specs.Ordering.{eq_by_cmp, is_eq}
use Rattle.std.specs.Cmp.Lexicographic.{pointwise}
use Rattle.std.specs.FinSet as set
use Rattle.std.specs.FinMap as map
use Rattle.std.proofs.lemmas.Cmp.{nat_list_cmp_total}
use Rattle.std.proofs.lemmas.List.{get_or-map, length-map}
use Rattle.vet_base.specs.Keyed.{IsByKey, item_of, with_item}
use Rattle.vet_base.specs.Names.{IsRising, NameSet}
use Rattle.vet_base.proofs.KeyedLemmas.{IsByKey-with_item, item_of-after}
use Rattle.vet_base.proofs.Rising.{R, only_equal, sorted_entries}
use Rattle.vet_base.proofs.SetsByKey.{either_way}
use Rattle.vet_entries.specs.declared.criteria_map.MappedCriterion.{MappedCriterion}
use Rattle.vet_entries.specs.CriteriaMap.{NamesByName, by_name, map_eq, mapped_eq, mapped_name, names_of, pair_eq}

-- ---- look-ups

-- what the items as a map have at a name are the criteria of the item there
find_is : (items : List MappedCriterion) (q : List ℕ)
    → map.find R q (by_name items) ≡ option_map (λ (m : MappedCriterion). m.criteria) (item_of R mapped_name items q)
find_is [] q = refl
find_is (x ∷ xs) q = at (find_is xs q) (is_eq (R x.name q)) (either_way q x.name)
  where
    at : map.find R q (by_name xs) ≡ option_map (λ (m : MappedCriterion). m.criteria) (item_of R mapped_name xs q)
        → (b : Bool) → eq_by_cmp R q x.name ≡ b
        → cond (eq_by_cmp R q x.name) (Some x.criteria) (map.find R q (by_name xs))
        ≡ option_map (λ (m : MappedCriterion). m.criteria) (cond b (Some x) (item_of R mapped_name xs q))
    at more true h = ap (λ t. cond t (Some x.criteria) (map.find R q (by_name xs))) h
    at more false h = ap (λ t. cond t (Some x.criteria) (map.find R q (by_name xs))) h ∙ more

-- ---- the map

pub IsRising-names : (items : List MappedCriterion) → IsByKey R mapped_name items → IsRising (names_of items)
IsRising-names items up i j d l m =
    let e : MappedCriterion = record { name = []; criteria = set.empty } in
    let within : j < length items = omega (arith, m, length-map items mapped_name) in
    rw (get_or-map mapped_name items i e d (omega (arith, l, within)), get_or-map mapped_name items j e d within)
    (up i j e l within)

keys-by_name : (items : List MappedCriterion) → mapped (λ (e : List ℕ × NameSet). e.0) (by_name items) ≡ names_of items
keys-by_name [] = refl
keys-by_name (x ∷ xs) = ap (λ t. x.name ∷ t) (keys-by_name xs)

sorted_items : (items : List MappedCriterion) → IsByKey R mapped_name items → T (map.is_sorted R (by_name items))
sorted_items items up = sorted_entries (by_name items)
    (subst IsRising (sym (keys-by_name items)) (IsRising-names items up))

pub entries_are : (items : List MappedCriterion) (m : NamesByName) → IsByKey R mapped_name items
    → map.from_sorted (by_name items) ≡ m → by_name items ≡ map.entries m
entries_are items m up is = sym (map.entries-from_sorted R (by_name items) (sorted_items items up)) ∙ ap map.entries is

module _ (items : List MappedCriterion) (m : NamesByName) (up : IsByKey R mapped_name items)
    (is : map.from_sorted {R = R} (by_name items) ≡ m) where
  get_in : (q : List ℕ) → map.get m q ≡ map.find R q (by_name items)
  get_in q = ap (λ t. map.get t q) (sym is) ∙ map.get-from_sorted R (by_name items) q (sorted_items items up)

  -- what the map has at a name are the criteria of the item there
  pub get_is : (q : List ℕ) → option_map (λ (x : MappedCriterion). x.criteria) (item_of R mapped_name items q)
      ≡ map.get m q
  get_is q = sym (get_in q ∙ find_is items q)

  pub len_in : map.len m ≡ length items
  len_in = map.len-entries m ∙ ap length (sym (entries_are items m up is))
      ∙ length-map items (λ (x : MappedCriterion). (x.name, x.criteria))

  pub none_in : (length items == 0) ≡ true ↔ (m ≡ map.empty)
  none_in = (
    λ t. map.empty_of_len m (len_in ∙ eqb-true (length items) 0 t),
    λ e. eq-eqb (length items) 0 (sym len_in ∙ ap map.len e ∙ map.len-empty R NameSet),
  )

  -- an item set in the list is one put in the map
  pub map_set : (x : MappedCriterion) → map.from_sorted (by_name (with_item R mapped_name items x))
      ≡ map.insert m x.name x.criteria
  map_set x =
      let after = with_item R mapped_name items x in
      let rises = IsByKey-with_item R nat_list_cmp_total only_equal mapped_name items x up in
      map.same_map nat_list_cmp_total only_equal _ _
      (λ q. map.get-from_sorted R (by_name after) q (sorted_items after rises) ∙ find_is after q
      ∙ found q (eq_by_cmp R q x.name) refl
      ∙ sym (map.get-insert nat_list_cmp_total m x.name x.criteria q
      ∙ ap (cond (eq_by_cmp R q x.name) (Some x.criteria)) (get_in q ∙ find_is items q)))
    where
      found : (q : List ℕ) (b : Bool) → eq_by_cmp R q x.name ≡ b
          → option_map (λ (y : MappedCriterion). y.criteria) (item_of R mapped_name (with_item R mapped_name items x) q)
          ≡ cond (eq_by_cmp R q x.name) (Some x.criteria)
          (option_map (λ (y : MappedCriterion). y.criteria) (item_of R mapped_name items q))
      found q b h =
          ap (option_map (λ (y : MappedCriterion). y.criteria))
          (item_of-after R nat_list_cmp_total only_equal mapped_name items x q b (sym (either_way q x.name) ∙ h))
          ∙ chosen b h
        where
          chosen : (b : Bool) → eq_by_cmp R q x.name ≡ b
              → option_map (λ (y : MappedCriterion). y.criteria) (cond b (Some x) (item_of R mapped_name items q))
              ≡ cond (eq_by_cmp R q x.name) (Some x.criteria)
              (option_map (λ (y : MappedCriterion). y.criteria) (item_of R mapped_name items q))
          chosen true h = ap (λ t. cond t (Some x.criteria)
              (option_map (λ (y : MappedCriterion). y.criteria) (item_of R mapped_name items q))) (sym h)
          chosen false h = ap (λ t. cond t (Some x.criteria)
              (option_map (λ (y : MappedCriterion). y.criteria) (item_of R mapped_name items q))) (sym h)

pub no_items : (items : List MappedCriterion) → items ≡ [] → map.from_sorted {R = R} (by_name items) ≡ map.empty
no_items items e =
    let none : IsByKey R mapped_name [] = λ i j d l m. absurd (omega (arith, m)) in
    ap (λ (xs : List MappedCriterion). map.from_sorted {R = R} (by_name xs)) e
    ∙ (none_in [] (map.from_sorted {R = R} (by_name [])) none refl).0 refl

-- ---- whether two are the same

pub same_items : (xs ys : List MappedCriterion)
    → pointwise mapped_eq xs ys ≡ pointwise pair_eq (by_name xs) (by_name ys)
same_items [] [] = refl
same_items [] (y ∷ ys) = refl
same_items (x ∷ xs) [] = refl
same_items (x ∷ xs) (y ∷ ys) = ap (λ b. mapped_eq x y && b) (same_items xs ys)

pub map_eq-tells : (xs ys : List MappedCriterion) (m n : NamesByName) → by_name xs ≡ map.entries m
    → by_name ys ≡ map.entries n → pointwise mapped_eq xs ys ≡ map_eq m n
map_eq-tells xs ys m n d e = same_items xs ys ∙ (λ i. pointwise pair_eq (d i) (e i))
