-- What the names of a peer stand for, name by name.
use Rattle.std.proofs.Common.{◌≡◌, ℕ, ◌<◌, Bool, true, false, ◌||◌, ◌&&◌, nat_lt, List, [], ◌∷◌, length, get_or, None}
use Rattle.std.proofs.Common.{refl, sym, ap, ◌∙◌, arith, lt-ltb, ltb-true}
use Rattle.std.specs.List.{list_any}
use Rattle.std.specs.Option.{option_map_or}
use Rattle.std.specs.Ordering.{nat_cmp}
use Rattle.std.specs.Cmp.{nat_cmp_total}
use Rattle.std.specs.FinSet as set
use Rattle.std.specs.FinMap as map
use Rattle.std.proofs.lemmas.Cmp.{nat_list_cmp_total}
use Rattle.std.proofs.lemmas.Bool.{and_parts, cond-false}
use Rattle.std.proofs.lemmas.List.Folds.{Any-from_list_any, list_any_at}
use Rattle.vet_base.specs.Criteria.{Criteria, placed}
use Rattle.vet_base.specs.CriteriaChanges.{is_built_in}
use Rattle.vet_base.specs.CriteriaSet.{has}
use Rattle.vet_base.specs.Names.{NameSet, members}
use Rattle.vet_base.specs.CriteriaSetLaws.{same_places}
use Rattle.vet_base.proofs.Closing.{alone}
use Rattle.vet_base.proofs.LeastNames.{member_in}
use Rattle.vet_base.proofs.Rising.{R}
use Rattle.vet_base.proofs.Tables.{contains-placed, len-keys, placed-empty}
use Rattle.vet_base.proofs.Walks.{among_members}
use Rattle.vet_entries.specs.CriteriaMap.{NamesByName}
use Rattle.vet_entries.specs.Mapped.{all_mapped, mapped, mapped_name, unlisted}

-- ---- the members of a set

-- a name for which one of a set passes a test
pub one_passes : (p : List ℕ → Bool) (s : NameSet) → list_any p (members s) ≡ true
    → (n : List ℕ) × (set.contains s n ≡ true) × (p n ≡ true)
one_passes p s h =
    let a = Any-from_list_any p (members s) h in
    (a.1, ap (set.contains s) (sym a.3) ∙ member_in s a.0 a.1 a.2, a.4)

pub passes : (p : List ℕ → Bool) (s : NameSet) (n : List ℕ) → set.contains s n ≡ true → p n ≡ true
    → list_any p (members s) ≡ true
passes p s n held h =
    let a = among_members s n held in
    list_any_at p (members s) a.0 n a.1 (ap p a.2 ∙ h)

-- ---- what some names stand for, one by one

pub contains-all_mapped : (m : NamesByName) (xs : List (List ℕ)) (x : List ℕ)
    → set.contains (all_mapped m xs) x ≡ list_any (λ n. set.contains (mapped_name m n) x) xs
contains-all_mapped m [] x = set.contains-empty R x
contains-all_mapped m (n ∷ rest) x =
    set.contains-union nat_list_cmp_total (mapped_name m n) (all_mapped m rest) x
    ∙ ap (λ b. set.contains (mapped_name m n) x || b) (contains-all_mapped m rest x)

pub mapped_from : (m : NamesByName) (names : NameSet) (x : List ℕ) → set.contains (mapped m names) x ≡ true
    → (n : List ℕ) × (set.contains names n ≡ true) × (set.contains (mapped_name m n) x ≡ true)
mapped_from m names x h = one_passes (λ n. set.contains (mapped_name m n) x) names
    (sym (contains-all_mapped m (members names) x) ∙ h)

pub mapped_to : (m : NamesByName) (names : NameSet) (n x : List ℕ) → set.contains names n ≡ true
    → set.contains (mapped_name m n) x ≡ true → set.contains (mapped m names) x ≡ true
mapped_to m names n x held h = contains-all_mapped m (members names) x ∙ passes (λ k. set.contains (mapped_name m k) x)
    names n held h

-- a name that the map doesn't list, and that isn't built in, stands for nothing
pub unlisted_nothing : (m : NamesByName) (n : List ℕ) → map.get m n ≡ None → is_built_in n ≡ false
    → mapped_name m n ≡ set.empty
unlisted_nothing m n none other = ap (λ o. option_map_or (λ c. c) o (unlisted n)) none
    ∙ cond-false (is_built_in n) (alone n) set.empty other

-- ---- places of names

module _ (table : Criteria) where
  pub placed_parts : (names : NameSet) (q : ℕ) → has q (placed table names) ≡ true
      → (q < length (map.keys table)) × (set.contains names (get_or (map.keys table) q []) ≡ true)
  placed_parts names q h =
      let parts = and_parts (nat_lt q (map.len table)) (set.contains names (get_or (map.keys table) q []))
      (sym (contains-placed table names q) ∙ h) in
      (omega (arith, ltb-true q (map.len table) parts.0, len-keys table), parts.1)

  pub in_placed : (names : NameSet) (q : ℕ) → q < length (map.keys table)
      → set.contains names (get_or (map.keys table) q []) ≡ true → has q (placed table names) ≡ true
  in_placed names q low h =
      contains-placed table names q
      ∙ (λ i. lt-ltb q (map.len table) (omega (arith, low, len-keys table)) i && h i)

  -- where the names of one set are names of another, so are their places
  pub placed_along : (a b : NameSet) (q : ℕ)
      → (set.contains a (get_or (map.keys table) q []) ≡ true → set.contains b (get_or (map.keys table) q []) ≡ true)
      → has q (placed table a) ≡ true → has q (placed table b) ≡ true
  placed_along a b q f h = (let parts = placed_parts a q h in in_placed b q parts.0 (f parts.1))

  pub has-placed_union : (a b : NameSet) (q : ℕ) → has q (placed table (set.union a b))
      ≡ (has q (placed table a) || has q (placed table b))
  has-placed_union a b q =
      let k = get_or (map.keys table) q [] in
      contains-placed table (set.union a b) q
      ∙ ap (λ t. nat_lt q (map.len table) && t) (set.contains-union nat_list_cmp_total a b k)
      ∙ split (nat_lt q (map.len table)) (set.contains a k) (set.contains b k)
      ∙ sym (λ i. contains-placed table a q i || contains-placed table b q i)
    where
      split : (x y z : Bool) → (x && (y || z)) ≡ ((x && y) || (x && z))
      split true y z = refl
      split false y z = refl

  pub placed-union : (a b : NameSet) → placed table (set.union a b) ≡ set.union (placed table a) (placed table b)
  placed-union a b = same_places _ _
      (λ q. has-placed_union a b q ∙ sym (set.contains-union nat_cmp_total (placed table a) (placed table b) q))

  pub none_placed : (q : ℕ) → has q (placed table set.empty) ≡ false
  none_placed q = ap (has q) (placed-empty table) ∙ set.contains-empty nat_cmp q

  -- the places of what some names stand for, name by name
  pub has-all_mapped : (m : NamesByName) (xs : List (List ℕ)) (q : ℕ) → has q (placed table (all_mapped m xs))
      ≡ list_any (λ n. has q (placed table (mapped_name m n))) xs
  has-all_mapped m [] q = none_placed q
  has-all_mapped m (n ∷ rest) q =
      has-placed_union (mapped_name m n) (all_mapped m rest) q ∙ ap (λ b. has q (placed table (mapped_name m n)) || b)
      (has-all_mapped m rest q)
