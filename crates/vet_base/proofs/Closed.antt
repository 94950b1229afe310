-- What is found on the way to the closures of a table, criterion by criterion from the last one on.
use Rattle.std.proofs.Common.{◌≡◌, ℕ, zero, suc, ◌<◌, ◌+◌, ◌≤◌, ◌↔◌, Bool, true, false, ◌||◌, ◌&&◌, List, [], ◌∷◌}
use Rattle.std.proofs.Common.{map as mapped, drop, length, get_or, nat_lt, Option, Some, None, slice_get, refl, sym, ap}
use Rattle.std.proofs.Common.{subst, ◌∙◌, arith, inl, inr, lt-ltb, ltb-true}
use Rattle.std.specs.Option.{option_map_or}
use Rattle.std.specs.List.{list_any}
use Rattle.std.specs.Ordering.{nat_cmp, eq_by_cmp}
use Rattle.std.specs.Cmp.{nat_cmp_total, both_ways}
use Rattle.std.specs.FinSet as set
use Rattle.std.specs.FinMap as map
use Rattle.std.proofs.lemmas.Cmp.{nat_list_cmp_total, eq_by_cmp_equiv}
use Rattle.std.proofs.lemmas.Bool.{cases_eq, cases_lt, or_cases, or_left, or_right, or_parts, and_parts, cond-true}
use Rattle.std.proofs.lemmas.Bool.{cond-false, le-ltb}
use Rattle.std.proofs.lemmas.Option.{slice_get-get_or, slice_get_past}
use Rattle.vet_base.specs.declared.criterion.Criterion.{Criterion}
use Rattle.vet_base.specs.Closures.{apart_at, led_on}
use Rattle.vet_base.specs.CriteriaSet.{Places, has}
use Rattle.vet_base.specs.CriteriaSetLaws.{same_places}
use Rattle.vet_base.specs.Names.{NameSet}
use Rattle.vet_base.specs.Criteria.{Criteria, placed, reached_by, place_of}
use Rattle.vet_base.proofs.Rising.{R, equal-from_eq}
use Rattle.vet_base.proofs.Closing.{Entries, alone, from_one, for_all, grown, stayed}
use Rattle.vet_base.proofs.Tables.{len-keys, place_at, at_place, missing_place, contains-placed, contains-placed_at}
use Rattle.vet_base.proofs.Tables.{placed-empty, placed-insert_held}

-- ---- a walk over places that finds whether something is so at one of them

module _ (F : ℕ → Type 0) (b : Bool) (n : ℕ) (old : (b ≡ true) ↔ ((p : ℕ) × (p < n) × F p)) where
  pub one_more_found : (x : Bool) → (x ≡ true) ↔ F n → ((b || x) ≡ true) ↔ ((p : ℕ) × (p < n + 1) × F p)
  one_more_found x new = (
    λ h. elim (or_cases b x h) [
      | inl was ↦ (let at = old.0 was in (at.0, omega (arith, at.1), at.2))
      | inr is ↦ (n, omega arith, new.0 is)
    ],
    λ at. elim (cases_eq at.0 n) [
      | inl same ↦ or_right b x (new.1 (subst F same at.2))
      | inr other ↦ or_left b x (old.1 (at.0, omega (arith, at.1, other), at.2))
    ],
  )

  pub none_more_found : (F n → ⊥) → (b ≡ true) ↔ ((p : ℕ) × (p < n + 1) × F p)
  none_more_found none = (
    λ h. (let at = old.0 h in (at.0, omega (arith, at.1), at.2)),
    λ at. elim (cases_eq at.0 n) [
      | inl same ↦ absurd (none (subst F same at.2))
      | inr other ↦ old.1 (at.0, omega (arith, at.1, other), at.2)
    ],
  )

-- ---- names that reach by way of some criteria

only_one : (n m : List ℕ) → set.contains (alone m) n ≡ true → eq_by_cmp R n m ≡ true
only_one n m h = of_one (eq_by_cmp R n m) (sym (set.contains-insert nat_list_cmp_total set.empty m n) ∙ h)
  where
    of_one : (b : Bool) → (b || set.contains (set.empty {R = R}) n) ≡ true → b ≡ true
    of_one true e = refl
    of_one false e = sym (set.contains-empty R n) ∙ e

-- a name that none of some criteria has reaches only itself by way of them
pub lone_name : (es : Entries) (m : List ℕ) → list_any (eq_by_cmp R m) (mapped (λ e. e.0) es) ≡ false
    → reached_by es (alone m) ≡ alone m
unfolding reached_by
lone_name [] m h = refl
lone_name ((name, c) ∷ rest) m h =
    let parts = or_parts (eq_by_cmp R m name) (list_any (eq_by_cmp R m) (mapped (λ e. e.0) rest)) h in
    let later = lone_name rest m parts.1 in
    let other : eq_by_cmp R name m ≡ false = (eq_by_cmp_equiv nat_list_cmp_total).symm name m ∙ parts.0 in
    let not_it : set.contains (alone m) name ≡ false =
    set.contains-insert nat_list_cmp_total set.empty m name ∙ (λ i. other i || set.contains-empty R name i) in
    stayed name c rest (alone m) (ap (λ s. set.contains s name) later ∙ not_it) ∙ later

none_dropped : (p : List ℕ → Bool) (k : ℕ) (es : Entries) → list_any p (mapped (λ e. e.0) es) ≡ false
    → list_any p (mapped (λ e. e.0) (drop k es)) ≡ false
none_dropped p zero es h = h
none_dropped p (suc k) [] h = h
none_dropped p (suc k) (e ∷ es) h = none_dropped p k es (or_parts (p e.0) (list_any p (mapped (λ d. d.0) es)) h).1

-- a name that a table lacks reaches only itself by way of the last criteria of the table
pub lone_in : (table : Criteria) (k : ℕ) (m : List ℕ) → map.contains_key table m ≡ false
    → reached_by (drop k (map.entries table)) (alone m) ≡ alone m
lone_in table k m lacks =
    lone_name (drop k (map.entries table)) m
    (none_dropped (eq_by_cmp R m) k (map.entries table) (sym (map.contains_key-keys table m) ∙ lacks))

module _ (table : Criteria) (es : Entries) where
  -- what the criterion at a place reaches
  abbrev pub reach_at : ℕ → Places
  reach_at p = option_map_or (λ n. placed table (reached_by es (alone n))) (slice_get (map.keys table) p) set.empty

  pub reach_within : (p : ℕ) → p < length (map.keys table) → reach_at p
      ≡ placed table (reached_by es (alone (get_or (map.keys table) p [])))
  reach_within p low =
      ap (λ o. option_map_or (λ n. placed table (reached_by es (alone n))) o set.empty)
      (slice_get-get_or (map.keys table) p [] low)

  pub reach_past : (p : ℕ) → length (map.keys table) ≤ p → reach_at p ≡ set.empty
  reach_past p high =
      ap (λ o. option_map_or (λ n. placed table (reached_by es (alone n))) o set.empty)
      (slice_get_past (map.keys table) p high)

  placed_parts : (names : NameSet) (p : ℕ) → set.contains (placed table names) p ≡ true → (p < length (map.keys table))
      × (set.contains names (get_or (map.keys table) p []) ≡ true)
  placed_parts names p h =
      let parts = and_parts (nat_lt p (map.len table)) (set.contains names (get_or (map.keys table) p []))
      (sym (contains-placed table names p) ∙ h) in
      (omega (arith, ltb-true p (map.len table) parts.0, len-keys table), parts.1)

  in_placed : (names : NameSet) (p : ℕ) → p < length (map.keys table)
      → set.contains names (get_or (map.keys table) p []) ≡ true → set.contains (placed table names) p ≡ true
  in_placed names p low h =
      contains-placed_at table names (get_or (map.keys table) p []) p
      (place_at table (get_or (map.keys table) p []) p low refl) ∙ h

  -- what the table lacks reaches only itself, and names reach what stands where they do
  pub reach_joined : (names : NameSet)
      → ((m : List ℕ) → map.contains_key table m ≡ false → reached_by es (alone m) ≡ alone m) → (joined : Places)
      → ((q : ℕ) → (has q joined ≡ true) ↔
      ((p : ℕ) × (has p (placed table names) ≡ true) × (has q (reach_at p) ≡ true)))
      → joined ≡ placed table (reached_by es names)
  reach_joined names lone joined tells =
      same_places _ _ (λ q. both_ways (has q joined) (has q (placed table (reached_by es names))) (forth q) (back q))
    where
      forth : (q : ℕ) → has q joined ≡ true → has q (placed table (reached_by es names)) ≡ true
      forth q h =
          let at = (tells q).0 h in
          let from = placed_parts names at.0 at.1 in
          let to = placed_parts (reached_by es (alone (get_or (map.keys table) at.0 []))) q
          (ap (has q) (sym (reach_within at.0 from.0)) ∙ at.2) in
          in_placed (reached_by es names) q to.0
          (for_all es names (get_or (map.keys table) at.0 []) (get_or (map.keys table) q []) from.1 to.1)

      by_place : (q : ℕ) (m : List ℕ) (o : Option ℕ) → place_of table m ≡ o → q < length (map.keys table)
          → set.contains names m ≡ true
          → set.contains (reached_by es (alone m)) (get_or (map.keys table) q []) ≡ true → has q joined ≡ true
      by_place q m None e low held reached =
          let n = get_or (map.keys table) q [] in
          let same : n ≡ m = equal-from_eq n m
          (only_one n m (sym (ap (λ s. set.contains s n) (lone m (missing_place table m e))) ∙ reached)) in
          cc (sym e ∙ place_at table m q low same)
      by_place q m (Some p) e low held reached =
          let at = at_place table m p e in
          let here : set.contains (reached_by es (alone (get_or (map.keys table) p []))) (get_or (map.keys table) q [])
          ≡ true = rw at.1 reached in
          (tells q).1 (
            p,
            contains-placed_at table names m p e ∙ held,
            ap (has q) (reach_within p at.0)
                ∙ in_placed (reached_by es (alone (get_or (map.keys table) p []))) q low here,
          )

      back : (q : ℕ) → has q (placed table (reached_by es names)) ≡ true → has q joined ≡ true
      back q h =
          let to = placed_parts (reached_by es names) q h in
          let one = from_one es names (get_or (map.keys table) q []) to.1 in
          by_place q one.0 (place_of table one.0) refl to.0 one.1 one.2

module _ (table : Criteria) where
  placed-union : (a b : NameSet) → placed table (set.union a b) ≡ set.union (placed table a) (placed table b)
  placed-union a b = same_places _ _ (λ p.
      contains-placed table (set.union a b) p
      ∙ ap (λ t. nat_lt p (map.len table) && t)
      (set.contains-union nat_list_cmp_total a b (get_or (map.keys table) p []))
      ∙ split (nat_lt p (map.len table)) (set.contains a (get_or (map.keys table) p []))
      (set.contains b (get_or (map.keys table) p []))
      ∙ sym (set.contains-union nat_cmp_total (placed table a) (placed table b) p
      ∙ (λ i. contains-placed table a p i || contains-placed table b p i)))
    where
      split : (x y z : Bool) → (x && (y || z)) ≡ ((x && y) || (x && z))
      split true y z = refl
      split false y z = refl

  reaches_itself : (names : NameSet) → reached_by [] names ≡ names
  unfolding reached_by
  reaches_itself names = refl

  -- where no criterion is gone by, each reaches itself
  pub none_reached : (p : ℕ) → apart_at (length (map.keys table)) p ≡ reach_at table [] p
  none_reached p = elim (cases_lt p (length (map.keys table))) [
    | inl low ↦ cond-true (nat_lt p (length (map.keys table))) (set.insert set.empty p) set.empty
        (lt-ltb p (length (map.keys table)) low)
        ∙ sym (reach_within table [] p low ∙ ap (placed table) (reaches_itself (alone (get_or (map.keys table) p [])))
        ∙ placed-insert_held table set.empty (get_or (map.keys table) p []) p
        (place_at table (get_or (map.keys table) p []) p low refl)
        ∙ ap (λ s. set.insert s p) (placed-empty table))
    | inr high ↦ cond-false (nat_lt p (length (map.keys table))) (set.insert set.empty p) set.empty
        (le-ltb p (length (map.keys table)) high)
        ∙ sym (reach_past table [] p high)
  ]

  -- one more criterion to go by leads on what has it
  module _ (k : ℕ) (low : k < length (map.keys table)) (c : Criterion) (rest : Entries) where
    more : Places
    more = placed table (reached_by rest c.implies)

    found : ℕ → NameSet
    found p = reached_by rest (alone (get_or (map.keys table) p []))

    pub reach_more : (p : ℕ)
        → led_on k (placed table (reached_by rest c.implies)) (reach_at table rest p)
        ≡ reach_at table ((get_or (map.keys table) k [], c) ∷ rest) p
    unfolding more found
    reach_more p = elim (cases_lt p (length (map.keys table))) [
      | inr high ↦ ap (led_on k more) (reach_past table rest p high)
          ∙ cond-false (has k set.empty) (set.union set.empty more) set.empty (set.contains-empty nat_cmp k)
          ∙ sym (reach_past table ((get_or (map.keys table) k [], c) ∷ rest) p high)
      | inl under ↦ ap (led_on k more) (reach_within table rest p under)
          ∙ by_case p (set.contains (found p) (get_or (map.keys table) k [])) refl
          ∙ sym (reach_within table ((get_or (map.keys table) k [], c) ∷ rest) p under)
    ]
      where
        told : (p : ℕ) → has k (placed table (found p)) ≡ set.contains (found p) (get_or (map.keys table) k [])
        told p = contains-placed_at table (found p) (get_or (map.keys table) k []) k
            (place_at table (get_or (map.keys table) k []) k low refl)

        by_case : (p : ℕ) (b : Bool) → set.contains (found p) (get_or (map.keys table) k []) ≡ b
            → led_on k more (placed table (found p))
            ≡ placed table (reached_by ((get_or (map.keys table) k [], c) ∷ rest)
            (alone (get_or (map.keys table) p [])))
        by_case p true e =
            cond-true (has k (placed table (found p))) (set.union (placed table (found p)) more)
            (placed table (found p)) (told p ∙ e)
            ∙ sym (placed-union (found p) (reached_by rest c.implies))
            ∙ sym (ap (placed table)
            (grown (get_or (map.keys table) k []) c rest (alone (get_or (map.keys table) p [])) e))
        by_case p false e =
            cond-false (has k (placed table (found p))) (set.union (placed table (found p)) more)
            (placed table (found p)) (told p ∙ e)
            ∙ sym (ap (placed table)
            (stayed (get_or (map.keys table) k []) c rest (alone (get_or (map.keys table) p [])) e))
