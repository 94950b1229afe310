-- What a table's names and criteria say of it.
use Rattle.std.proofs.Common.{◌≡◌, ℕ, ◌<◌, ◌≤◌, Bool, true, false, T, ◌||◌, ◌&&◌, List, [], ◌∷◌, map as mapped, length}
use Rattle.std.proofs.Common.{get_or, nat_lt, Option, Some, None, is_some, is_ok, Result, Ok, Err, MatchResult, IfSome}
use Rattle.std.proofs.Common.{◌==◌, refl, sym, ap, subst, ◌∙◌, arith, inl, inr, lt-ltb, eq-eqb}
use Rattle.std.specs.List.{Contains, list_any, position, position_or_len}
use Rattle.std.specs.Option.{option_map_or}
use Rattle.std.specs.Result.{result_ok}
use Rattle.std.specs.Cmp.{nat_cmp_total, unsigned_tied}
use Rattle.std.specs.List.Sorted.{IsSearchInRange}
use Rattle.std.proofs.lemmas.Option.{same_Some}
use Rattle.vet_base.specs.declared.limits.TheConstants.{MOST_CRITERIA}
use Rattle.std.specs.Ordering.{nat_cmp, eq_by_cmp}
use Rattle.std.specs.FinSet as set
use Rattle.std.specs.FinMap as map
use Rattle.std.proofs.lemmas.Cmp.{nat_list_cmp_total}
use Rattle.std.proofs.lemmas.List.{get_or-map, length-map, get_or_default}
use Rattle.std.proofs.lemmas.List.Folds.{list_any_at, Any-from_list_any}
use Rattle.std.proofs.lemmas.List.Sums.{position_or_len_is}
use Rattle.std.proofs.lemmas.List.Quantifiers.{position-Some}
use Rattle.std.proofs.lemmas.Bool.{cases_Bool, cases_lt, false≢true, cond-true, cond-false, le-ltb, ne_eqb, and_right}
use Rattle.vet_base.specs.declared.criterion.Criterion.{Criterion}
use Rattle.vet_base.specs.CriteriaSet.{places_below}
use Rattle.vet_base.specs.CriteriaSetLaws.{contains-places_below, same_nat, same_places}
use Rattle.vet_base.specs.Names.{NameSet, IsRising}
use Rattle.vet_base.specs.Criteria.{Criteria, implied_by, place_of, placed, is_in}
use Rattle.vet_base.specs.Definitions.{by_name, IsKept}
use Rattle.vet_base.proofs.Rising.{R, Lacks, eq-itself, equal-from_eq, any_lacks, found_or_not, sorted_entries}
use Rattle.vet_base.proofs.Rising.{rising_entries}
use Rattle.vet_base.proofs.Closing.{entry_found, found_entry, not_tied}

pub keys-by_name : (criteria : List Criterion) → mapped (λ (e : List ℕ × Criterion). e.0) (by_name criteria)
    ≡ mapped (λ c. c.name) criteria
keys-by_name [] = refl
keys-by_name (c ∷ cs) = ap (λ t. c.name ∷ t) (keys-by_name cs)

-- ---- places among the keys of a table

pub rising_keys : (table : Criteria) → IsRising (map.keys table)
rising_keys table = rising_entries (map.entries table) (map.entries_sorted table)

pub len-keys : (table : Criteria) → map.len table ≡ length (map.keys table)
len-keys table = map.len-entries table ∙ sym (length-map (map.entries table) (λ e. e.0))

module _ (keys : List (List ℕ)) (rising : IsRising keys) (n : List ℕ) where
  -- the place of what stands there
  pub position_at : (p : ℕ) → p < length keys → get_or keys p [] ≡ n → position (eq_by_cmp R n) keys ≡ Some p
  position_at p l at =
      let is : position_or_len (eq_by_cmp R n) keys ≡ p =
      position_or_len_is (eq_by_cmp R n) keys p [] (omega (arith, l))
      (λ k low. not_tied n (get_or keys k []) (ap (R (get_or keys k [])) (sym at) ∙ rising k p [] low l))
      (λ _. ap (eq_by_cmp R n) at ∙ eq-itself n) in
      rw is (cond-true (nat_lt p (length keys)) (Some p) None (lt-ltb p (length keys) l))

  pub position_none : list_any (eq_by_cmp R n) keys ≡ false → position (eq_by_cmp R n) keys ≡ None
  position_none h =
      let is : position_or_len (eq_by_cmp R n) keys ≡ length keys =
      position_or_len_is (eq_by_cmp R n) keys (length keys) [] (omega arith)
      (λ k low. not_found (eq_by_cmp R n (get_or keys k [])) (λ t. list_any_at (eq_by_cmp R n) keys k [] low t))
      (λ l. absurd (omega (arith, l))) in
      rw is (cond-false (nat_lt (length keys) (length keys)) (Some (length keys)) None
      (le-ltb (length keys) (length keys) (omega arith)))
    where
      not_found : (b : Bool) → (b ≡ true → list_any (eq_by_cmp R n) keys ≡ true) → b ≡ false
      not_found true f = absurd (false≢true (sym h ∙ f refl))
      not_found false f = refl

pub at_position : (keys : List (List ℕ)) (n : List ℕ) (p : ℕ) → position (eq_by_cmp R n) keys ≡ Some p
    → (p < length keys) × (get_or keys p [] ≡ n)
at_position keys n p h =
    (let s = position-Some (eq_by_cmp R n) keys p [] h in (s.0, sym (equal-from_eq n (get_or keys p []) s.1)))

module _ (table : Criteria) where
  pub place_at : (n : List ℕ) (p : ℕ) → p < length (map.keys table) → get_or (map.keys table) p [] ≡ n
      → place_of table n ≡ Some p
  place_at n = position_at (map.keys table) (rising_keys table) n

  pub at_place : (n : List ℕ) (p : ℕ) → place_of table n ≡ Some p → (p < length (map.keys table))
      × (get_or (map.keys table) p [] ≡ n)
  at_place n p h = at_position (map.keys table) n p h

  pub held_at : (n : List ℕ) (p : ℕ) → place_of table n ≡ Some p → map.contains_key table n ≡ true
  held_at n p h = (let a = at_place n p h in
      map.contains_key-keys table n
      ∙ list_any_at (eq_by_cmp R n) (map.keys table) p [] a.0 (ap (eq_by_cmp R n) a.1 ∙ eq-itself n))

  pub place_missing : (n : List ℕ) → map.contains_key table n ≡ false → place_of table n ≡ None
  place_missing n h = position_none (map.keys table) (rising_keys table) n (sym (map.contains_key-keys table n) ∙ h)

  pub missing_place : (n : List ℕ) → place_of table n ≡ None → map.contains_key table n ≡ false
  missing_place n h = elim (cases_Bool (map.contains_key table n)) [
    | inr none ↦ none
    | inl held ↦ (let a =
        Any-from_list_any (eq_by_cmp R n) (map.keys table) (sym (map.contains_key-keys table n) ∙ held) in
        let at : get_or (map.keys table) a.0 [] ≡ n =
        get_or_default (map.keys table) a.0 [] a.1 a.2 ∙ a.3 ∙ sym (equal-from_eq n a.1 a.4) in
        absurd (clash a.0 (sym h ∙ place_at n a.0 a.2 at)))
  ]
    where
      clash : (p : ℕ) → ◌≡◌ {A = Option ℕ} None (Some p) → ⊥
      clash p e = cc e

  -- what is placed stands at one of the table's places
  pub contains-placed : (names : NameSet) (p : ℕ) → set.contains (placed table names) p
      ≡ (nat_lt p (map.len table) && set.contains names (get_or (map.keys table) p []))
  contains-placed names p =
      set.contains-retain (places_below (map.len table)) (λ q. set.contains names (get_or (map.keys table) q [])) p
      (same_nat (λ q. set.contains names (get_or (map.keys table) q [])) p)
      ∙ ap (λ b. b && set.contains names (get_or (map.keys table) p [])) (contains-places_below (map.len table) p)

  pub contains-placed_at : (names : NameSet) (n : List ℕ) (p : ℕ) → place_of table n ≡ Some p
      → set.contains (placed table names) p ≡ set.contains names n
  contains-placed_at names n p h =
      let a = at_place n p h in
      contains-placed names p
      ∙ ap (λ b. b && set.contains names (get_or (map.keys table) p []))
      (lt-ltb p (map.len table) (rw (len-keys table) a.0)) ∙ ap (set.contains names) a.1

  pub is_in-placed : (names : NameSet) (n : List ℕ) → is_in table (placed table names) n
      ≡ (map.contains_key table n && set.contains names n)
  is_in-placed names n = by (place_of table n) refl
    where
      by : (o : Option ℕ) → place_of table n ≡ o → option_map_or (set.contains (placed table names)) o false
          ≡ (map.contains_key table n && set.contains names n)
      by None e = sym (ap (λ b. b && set.contains names n) (missing_place n e))
      by (Some p) e = contains-placed_at names n p e ∙ sym (ap (λ b. b && set.contains names n) (held_at n p e))

  -- what a search among the names answers
  place_searched : (names : List (List ℕ)) (x : List ℕ) (r : Result ℕ ℕ) → map.keys table ≡ names
      → MatchResult r (λ i. (i < length names) × ((d : List ℕ) → get_or names i d ≡ x)) (Lacks names x) → result_ok r
      ≡ place_of table x
  place_searched names x (Ok i) k h = sym (place_at x i (rw k h.0) (rw k (h.1 [])))
  place_searched names x (Err i) k h =
      sym (place_missing x (map.contains_key-keys table x ∙ rw k (any_lacks names x i h)))

  key_searched : (names : List (List ℕ)) (x : List ℕ) (r : Result ℕ ℕ) → map.keys table ≡ names
      → MatchResult r (λ i. (i < length names) × ((d : List ℕ) → get_or names i d ≡ x)) (Lacks names x) → is_ok r
      ≡ map.contains_key table x
  key_searched names x r k h =
      found_or_not names x r h ∙ ap (list_any (eq_by_cmp R x)) (sym k) ∙ sym (map.contains_key-keys table x)

-- ---- the names and the criteria that a table is kept as

module _ (names : List (List ℕ)) (criteria : List Criterion) (kept : IsKept names criteria) where
  pub sorted_kept : T (map.is_sorted R (by_name criteria))
  sorted_kept = sorted_entries (by_name criteria)
      (subst IsRising (sym (keys-by_name criteria ∙ kept.named)) kept.rising)

  pub entries_kept : map.entries (map.from_sorted {R = R} (by_name criteria)) ≡ by_name criteria
  entries_kept = map.entries-from_sorted R (by_name criteria) sorted_kept

  pub keys_kept : map.keys (map.from_sorted {R = R} (by_name criteria)) ≡ names
  keys_kept = ap (mapped (λ e. e.0)) entries_kept ∙ keys-by_name criteria ∙ kept.named

  -- what a search among the names tells of the table
  module _ (table : Criteria) (is : map.from_sorted {R = R} (by_name criteria) ≡ table) (x : List ℕ) (r : Result ℕ ℕ)
      (h : MatchResult r (λ i. (i < length names) × ((d : List ℕ) → get_or names i d ≡ x)) (Lacks names x)) where
    names_kept : map.keys table ≡ names
    names_kept = ap map.keys (sym is) ∙ keys_kept

    pub place_told : result_ok r ≡ place_of table x
    place_told = place_searched table names x r names_kept h

    pub key_told : is_ok r ≡ map.contains_key table x
    key_told = key_searched table names x r names_kept h

  -- a name that a search does not find is not held
  pub not_held : (table : Criteria) (name : List ℕ) (place : ℕ) → map.from_sorted {R = R} (by_name criteria) ≡ table
      → Lacks names name place → map.contains_key table name ≡ false
  not_held table name place is lacks = sym (key_told table is name (Err place) lacks)

  pub length_kept : length criteria ≡ length names
  length_kept = sym (length-map criteria (λ c. c.name)) ∙ ap length kept.named

  -- the criterion at a place
  pub get_kept : (i : ℕ) (d : Criterion) → i < length criteria
      → map.get (map.from_sorted {R = R} (by_name criteria)) (get_or names i []) ≡ Some (get_or criteria i d)
  get_kept i d l =
      let at : get_or names i [] ≡ (get_or criteria i d).name =
      ap (λ ns. get_or ns i []) (sym kept.named) ∙ get_or-map (λ c. c.name) criteria i d [] l in
      let here : Contains (by_name criteria) (get_or names i [], get_or criteria i d) = (
        i,
        rw length-map l,
        get_or-map (λ (c : Criterion). (c.name, c)) criteria i d
            (get_or names i [], get_or criteria i d) l ∙ (λ j. (sym at j, get_or criteria i d)),
      ) in
      map.get-from_sorted R (by_name criteria) (get_or names i []) sorted_kept
      ∙ entry_found (get_or names i []) (by_name criteria) (get_or criteria i d)
      (subst IsRising (sym (keys-by_name criteria ∙ kept.named)) kept.rising) here

  pub few_kept : length names ≤ MOST_CRITERIA
  few_kept = kept.few

pub within_few : (r : Result ℕ ℕ) (n : ℕ) → n ≤ MOST_CRITERIA → IsSearchInRange r n
    → IfSome (result_ok r) (λ p. p < MOST_CRITERIA)
within_few (Ok i) n few h = omega (arith, few, h)
within_few (Err i) n few h = tt

-- ---- one more name among those that are placed

module _ (table : Criteria) where
  key_at : ℕ → List ℕ
  key_at q = get_or (map.keys table) q []

  pub placed-empty : placed table set.empty ≡ set.empty
  placed-empty = same_places _ _
      (λ q. contains-placed table set.empty q
      ∙ ap (λ b. nat_lt q (map.len table) && b) (set.contains-empty R (get_or (map.keys table) q []))
      ∙ and_right (nat_lt q (map.len table)) false refl ∙ sym (set.contains-empty nat_cmp q))

  pub placed-insert_missing : (names : NameSet) (k : List ℕ) → place_of table k ≡ None
      → placed table (set.insert names k) ≡ placed table names
  placed-insert_missing names k none =
      same_places _ _ (λ q. contains-placed table (set.insert names k) q
      ∙ ap (λ b. nat_lt q (map.len table) && b)
      (set.contains-insert nat_list_cmp_total names k (get_or (map.keys table) q []))
      ∙ here q ∙ sym (contains-placed table names q))
    where
      out : (q : ℕ) → q < length (map.keys table) → (b : Bool) → eq_by_cmp R (get_or (map.keys table) q []) k ≡ b → b
          ≡ false
      out q l false e = refl
      out q l true e = cc (sym none ∙ place_at table k q l (equal-from_eq (get_or (map.keys table) q []) k e))

      here : (q : ℕ) → (nat_lt q (map.len table)
          && (eq_by_cmp R (get_or (map.keys table) q []) k || set.contains names (get_or (map.keys table) q [])))
          ≡ (nat_lt q (map.len table) && set.contains names (get_or (map.keys table) q []))
      here q = elim (cases_lt q (length (map.keys table))) [
        | inl low ↦ ap (λ b. nat_lt q (map.len table) && (b || set.contains names (get_or (map.keys table) q [])))
            (out q low _ refl)
        | inr high ↦ rw (le-ltb q (map.len table) (omega (arith, high, len-keys table))) refl
      ]

  pub placed-insert_held : (names : NameSet) (k : List ℕ) (p : ℕ) → place_of table k ≡ Some p
      → placed table (set.insert names k) ≡ set.insert (placed table names) p
  placed-insert_held names k p held =
      same_places _ _ (λ q. contains-placed table (set.insert names k) q
      ∙ ap (λ b. nat_lt q (map.len table) && b)
      (set.contains-insert nat_list_cmp_total names k (get_or (map.keys table) q []))
      ∙ here q ∙ sym (set.contains-insert nat_cmp_total (placed table names) p q
      ∙ (λ i. unsigned_tied q p i || contains-placed table names q i)))
    where
      at : (p < length (map.keys table)) × (get_or (map.keys table) p [] ≡ k)
      at = at_place table k p held

      same : (q : ℕ) → q < length (map.keys table) → (b : Bool) → eq_by_cmp R (get_or (map.keys table) q []) k ≡ b → b
          ≡ (q == p)
      same q l true e = sym
          (eq-eqb q p (same_Some q p
          (sym (place_at table k q l (equal-from_eq (get_or (map.keys table) q []) k e)) ∙ held)))
      same q l false e = sym
          (ne_eqb q p (λ s. false≢true
          (sym e ∙ ap (λ r. eq_by_cmp R (get_or (map.keys table) r []) k) s ∙ ap (λ n. eq_by_cmp R n k) at.1
          ∙ eq-itself k)))

      here : (q : ℕ) → (nat_lt q (map.len table)
          && (eq_by_cmp R (get_or (map.keys table) q []) k || set.contains names (get_or (map.keys table) q [])))
          ≡ ((q == p) || (nat_lt q (map.len table) && set.contains names (get_or (map.keys table) q [])))
      here q = elim (cases_lt q (length (map.keys table))) [
        | inl low ↦ rw (same q low _ refl, lt-ltb q (map.len table) (omega (arith, low, len-keys table))) refl
        | inr high ↦ rw (
          le-ltb q (map.len table) (omega (arith, high, len-keys table)),
          ne_eqb q p
              (λ s. omega (arith, s, high, at.0)),
        ) refl
      ]

pub nothing : {X : Type 0} (o : Option X) → is_some o ≡ false → o ≡ None
nothing None h = refl
nothing (Some x) h = cc h

pub named_in : (criteria : List Criterion) (n : List ℕ) (c : Criterion) → Contains (by_name criteria) (n, c) → c.name
    ≡ n
named_in criteria n c h =
    let l : h.0 < length criteria = rw length-map at h.1 in
    let e : ◌≡◌ {A = List ℕ × Criterion} ((get_or criteria h.0 c).name, get_or criteria h.0 c) (n, c) =
    sym (get_or-map (λ (d : Criterion). (d.name, d)) criteria h.0 c (n, c) l) ∙ h.2 in
    ap (λ (d : List ℕ × Criterion). d.1.name) (sym e) ∙ ap (λ (d : List ℕ × Criterion). d.0) e

-- ---- a table that is seen through what it is kept as

module _ (names : List (List ℕ)) (criteria : List Criterion) (kept : IsKept names criteria) (table : Criteria)
    (is : map.from_sorted {R = R} (by_name criteria) ≡ table) where
  pub keys_is : map.keys table ≡ names
  keys_is = ap map.keys (sym is) ∙ keys_kept names criteria kept

  pub get_is : (i : ℕ) (d : Criterion) → i < length criteria → map.get table (get_or names i [])
      ≡ Some (get_or criteria i d)
  get_is i d l = ap (λ t. map.get t (get_or names i [])) (sym is) ∙ get_kept names criteria kept i d l

  pub implied_is : (i : ℕ) (d : Criterion) → i < length criteria → implied_by table (get_or names i [])
      ≡ (get_or criteria i d).implies
  implied_is i d l = ap (λ o. option_map_or (λ c. c.implies) o set.empty) (get_is i d l)

  pub place_is : (i : ℕ) → i < length criteria → place_of table (get_or names i []) ≡ Some i
  place_is i l = place_at table (get_or names i []) i (rw keys_is (omega (arith, l, length_kept names criteria kept)))
      (ap (λ ns. get_or ns i []) keys_is)

  pub place_key : (n : List ℕ) (i : ℕ) → place_of table n ≡ Some i → (i < length criteria) × (get_or names i [] ≡ n)
  place_key n i h = (let a = at_place table n i h in (
    omega (arith, a.0, ap length keys_is, length_kept names criteria kept),
    ap (λ ns. get_or ns i []) (sym keys_is)
        ∙ a.1,
  ))

  -- the name of an entry is its criterion's
  pub named_is : (n : List ℕ) (c : Criterion) → map.get table n ≡ Some c → c.name ≡ n
  named_is n c h =
      let in_es = found_entry n (by_name criteria) c
      (sym (ap (λ t. map.get t n) (sym is)
      ∙ map.get-from_sorted R (by_name criteria) n (sorted_kept names criteria kept)) ∙ h) in
      named_in criteria n c in_es

  pub none_is : (n : List ℕ) (i : ℕ) → Lacks names n i → map.get table n ≡ None
  none_is n i h = nothing (map.get table n)
      (map.contains_key-keys table n ∙ ap (list_any (eq_by_cmp R n)) keys_is ∙ any_lacks names n i h)

values-by_name : (criteria : List Criterion) → mapped (λ (e : List ℕ × Criterion). e.1) (by_name criteria) ≡ criteria
values-by_name [] = refl
values-by_name (c ∷ cs) = ap (λ t. c ∷ t) (values-by_name cs)

pub values_is : (names : List (List ℕ)) (criteria : List Criterion) → IsKept names criteria → (table : Criteria)
    → map.from_sorted {R = R} (by_name criteria) ≡ table → map.values table ≡ criteria
values_is names criteria kept table is =
    ap map.values (sym is) ∙ ap (mapped (λ e. e.1)) (entries_kept names criteria kept) ∙ values-by_name criteria
