-- Sets of places that meet, and the places that lead to a set.
use Rattle.std.proofs.Common.{◌≡◌, ℕ, ◌+◌, ◌≤◌, ◌↔◌, Bool, true, false, ◌||◌, ◌&&◌, ◌==◌, List, [], ◌∷◌, get_or, nat_lt}
use Rattle.std.proofs.Common.{refl, sym, ap, ◌∙◌, arith, inl, inr, eqb-true, eq-eqb, lt-ltb}
use Rattle.std.specs.List.{list_any}
use Rattle.std.specs.Ordering.{nat_cmp, eq_by_cmp}
use Rattle.std.specs.Option.{option_map_or}
use Rattle.std.specs.Cmp.{nat_cmp_total, unsigned_tied, both_ways}
use Rattle.std.specs.FinSet as set
use Rattle.std.specs.FinMap as map
use Rattle.std.proofs.lemmas.Bool.{cases_lt, cases_order, ne_eqb, false≢true, le-ltb, and_right}
use Rattle.std.proofs.lemmas.List.{get_or_default}
use Rattle.std.proofs.lemmas.List.Folds.{list_any_at, Any-from_list_any}
use Rattle.std.proofs.lemmas.Option.{slice_get_past}
use Rattle.vet_base.specs.CriteriaSet.{Places, meet, places_below}
use Rattle.vet_base.specs.CriteriaSetLaws.{contains-places_below, same_nat, same_places}
use Rattle.vet_base.specs.Criteria.{Criteria, placed, closure_of, closure_at, leads_to, leading_to}
use Rattle.vet_base.proofs.Tables.{len-keys}
use Rattle.vet_base.proofs.Walks.{one_more_is}

any_either : (f g h : ℕ → Bool) → ((x : ℕ) → f x ≡ (g x || h x)) → (xs : List ℕ) → list_any f xs
    ≡ (list_any g xs || list_any h xs)
any_either f g h each [] = refl
any_either f g h each (x ∷ xs) =
    (λ i. each x i || any_either f g h each xs i) ∙ swap (g x) (h x) (list_any g xs) (list_any h xs)
  where
    swap : (a b c d : Bool) → ((a || b) || (c || d)) ≡ ((a || c) || (b || d))
    swap true b c d = refl
    swap false true true d = refl
    swap false true false d = refl
    swap false false true d = refl
    swap false false false d = refl

any_none : (f : ℕ → Bool) → ((x : ℕ) → f x ≡ false) → (xs : List ℕ) → list_any f xs ≡ false
any_none f each [] = refl
any_none f each (x ∷ xs) = (λ i. each x i || any_none f each xs i)

pub meet-union : (a b c : Places) → meet a (set.union b c) ≡ (meet a b || meet a c)
meet-union a b c = any_either (set.contains (set.union b c)) (set.contains b) (set.contains c)
    (set.contains-union nat_cmp_total b c) (set.items a)

pub meet-empty : (a : Places) → meet a set.empty ≡ false
meet-empty a = any_none (set.contains set.empty) (set.contains-empty nat_cmp) (set.items a)

-- what meets has a place in both
pub meeting : (a b : Places) → meet a b ≡ true → (p : ℕ) × (set.contains a p ≡ true) × (set.contains b p ≡ true)
meeting a b h =
    let at = Any-from_list_any (set.contains b) (set.items a) h in
    let x = at.1 in
    let here : get_or (set.items a) at.0 0 ≡ x = get_or_default (set.items a) at.0 0 x at.2 ∙ at.3 in (
      x,
      set.contains-items a x
          ∙ list_any_at (eq_by_cmp nat_cmp x) (set.items a) at.0 0 at.2 (ap (eq_by_cmp nat_cmp x) here ∙ tied x),
      at.4,
    )
  where
    tied : (x : ℕ) → eq_by_cmp nat_cmp x x ≡ true
    tied x = unsigned_tied x x ∙ eq-eqb x x refl

pub met : (a b : Places) (p : ℕ) → set.contains a p ≡ true → set.contains b p ≡ true → meet a b ≡ true
met a b p in_a in_b =
    let at = Any-from_list_any (eq_by_cmp nat_cmp p) (set.items a) (sym (set.contains-items a p) ∙ in_a) in
    let same : p ≡ at.1 = eqb-true p at.1 (sym (unsigned_tied p at.1) ∙ at.4) in
    let here : get_or (set.items a) at.0 0 ≡ p = get_or_default (set.items a) at.0 0 at.1 at.2 ∙ at.3 ∙ sym same in
    list_any_at (set.contains b) (set.items a) at.0 0 at.2 (ap (set.contains b) here ∙ in_b)

-- a truth value that is so just where sets meet
pub meet-is : (b : Bool) (s t : Places)
    → (b ≡ true) ↔ ((p : ℕ) × (set.contains s p ≡ true) × (set.contains t p ≡ true)) → b ≡ meet s t
meet-is b s t h = both_ways b (meet s t)
    (λ yes. (let at = h.0 yes in met s t at.0 at.1 at.2))
    (λ yes. h.1 (meeting s t yes))

pub empty-meet : (b : Places) → meet set.empty b ≡ false
empty-meet b = both_ways (meet set.empty b) false
    (λ yes. (let at = meeting set.empty b yes in sym (set.contains-empty nat_cmp at.0) ∙ at.1))
    (λ no. absurd (false≢true no))

-- the places below a number that lead to a set
abbrev pub leading_below : Criteria → Places → ℕ → Places
leading_below table places n = set.retain (places_below n) (leads_to table places)

module _ (table : Criteria) (places : Places) where
  contains-leading_below : (n p : ℕ) → set.contains (leading_below table places n) p
      ≡ (nat_lt p n && leads_to table places p)
  contains-leading_below n p =
      set.contains-retain (places_below n) (leads_to table places) p (same_nat (leads_to table places) p)
      ∙ ap (λ b. b && leads_to table places p) (contains-places_below n p)

  pub leading_none : set.empty ≡ leading_below table places 0
  leading_none = same_places _ _
      (λ p. set.contains-empty nat_cmp p
      ∙ sym (contains-leading_below 0 p ∙ ap (λ b. b && leads_to table places p) (le-ltb p 0 (omega arith))))

  pub leading_more : (n : ℕ) → leads_to table places n ≡ true → set.insert (leading_below table places n) n
      ≡ leading_below table places (n + 1)
  leading_more n leads = same_places _ _ (λ p.
      one_more_is (leading_below table places n) n p ∙ ap (λ b. (p == n) || b) (contains-leading_below n p) ∙ here p
      ∙ sym (contains-leading_below (n + 1) p))
    where
      here : (p : ℕ) → ((p == n) || (nat_lt p n && leads_to table places p))
          ≡ (nat_lt p (n + 1) && leads_to table places p)
      here p = elim (cases_order p n) [
        | inl same ↦ rw (same, eq-eqb n n refl, lt-ltb n (n + 1) (omega arith), leads) refl
        | inr (inl low) ↦ rw (
          ne_eqb p n (λ e. omega (arith, e, low)),
          lt-ltb p n low,
          lt-ltb p (n + 1)
              (omega (arith, low)),
        ) refl
        | inr (inr high) ↦ rw (
          ne_eqb p n (λ e. omega (arith, e, high)),
          le-ltb p n (omega (arith, high)),
          le-ltb p
              (n + 1) (omega (arith, high)),
        ) refl
      ]

  pub leading_same : (n : ℕ) → leads_to table places n ≡ false → leading_below table places n
      ≡ leading_below table places (n + 1)
  leading_same n stays =
      same_places _ _ (λ p. contains-leading_below n p ∙ here p ∙ sym (contains-leading_below (n + 1) p))
    where
      here : (p : ℕ) → (nat_lt p n && leads_to table places p) ≡ (nat_lt p (n + 1) && leads_to table places p)
      here p = elim (cases_order p n) [
        | inl same ↦ rw (same, stays)
            (and_right (nat_lt n n) false refl ∙ sym (and_right (nat_lt n (n + 1)) false refl))
        | inr (inl low) ↦ rw (lt-ltb p n low, lt-ltb p (n + 1) (omega (arith, low))) refl
        | inr (inr high) ↦ rw (le-ltb p n (omega (arith, high)), le-ltb p (n + 1) (omega (arith, high))) refl
      ]

module _ (table : Criteria) where
  pub closure_past : (p : ℕ) → map.len table ≤ p → closure_at table p ≡ set.empty
  closure_past p high =
      ap (λ o. option_map_or (λ n. placed table (closure_of table (set.insert set.empty n))) o set.empty)
      (slice_get_past (map.keys table) p (omega (arith, high, len-keys table)))

  pub contains-leading : (places : Places) (p : ℕ) → set.contains (leading_to table places) p ≡ leads_to table places p
  contains-leading places p =
      contains-leading_below table places (map.len table) p
      ∙ elim (cases_lt p (map.len table)) [
        | inl low ↦ ap (λ b. b && leads_to table places p) (lt-ltb p (map.len table) low)
        | inr high ↦ ap (λ b. b && leads_to table places p) (le-ltb p (map.len table) high)
            ∙ sym (ap (λ s. meet s places) (closure_past p high) ∙ empty-meet places)
      ]

  -- where the closures are empty past a number, all that lead to a set stand below it
  pub leading_all : (places : Places) (n : ℕ) → ((p : ℕ) → n ≤ p → closure_at table p ≡ set.empty)
      → leading_below table places n ≡ leading_to table places
  leading_all places n none = same_places _ _ (λ p. contains-leading_below table places n p ∙ elim (cases_lt p n) [
    | inl low ↦ ap (λ b. b && leads_to table places p) (lt-ltb p n low)
    | inr high ↦ ap (λ b. b && leads_to table places p) (le-ltb p n high)
        ∙ sym (ap (λ s. meet s places) (none p high) ∙ empty-meet places)
  ] ∙ sym (contains-leading places p))
