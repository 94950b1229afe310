-- The least of some names that passes a test.
use Rattle.std.proofs.Common.{◌≡◌, ℕ, zero, suc, ◌<◌, ◌⊎◌, Bool, true, false, not, List, [], ◌∷◌, length, get_or}
use Rattle.std.proofs.Common.{Option, Some, None, Ordering, Less, Equal, Greater, refl, sym, ap, ◌∙◌, arith, inl, inr}
use Rattle.std.specs.List.{Contains, find}
use Rattle.std.specs.Ordering.{eq_by_cmp, is_lt}
use Rattle.std.specs.FinSet as set
use Rattle.std.specs.FinMap as map
use Rattle.std.proofs.lemmas.Cmp.{nat_list_cmp_total}
use Rattle.std.proofs.lemmas.Bool.{cases_Bool, cond-false, cond-true, false≢true, not-false, or_cases, or_left}
use Rattle.std.proofs.lemmas.Bool.{or_right}
use Rattle.std.proofs.lemmas.List.Folds.{list_any_at}
use Rattle.std.proofs.lemmas.Option.{same_Some}
use Rattle.vet_base.specs.Criteria.{Criteria, least_unknown}
use Rattle.vet_base.specs.Defined.{lesser}
use Rattle.vet_base.specs.NamesLaws.{any-members}
use Rattle.vet_base.specs.Names.{IsRising, NameSet, bare, members}
use Rattle.vet_base.proofs.Changes.{none_found}
use Rattle.vet_base.proofs.Rising.{R, IsRising-head, IsRising-tail, above, below, eq-itself, only_equal, rising_entries}
use Rattle.vet_base.proofs.Walks.{among_members, find_none}

-- a member of a set is in it
pub member_in : (s : NameSet) (i : ℕ) (d : List ℕ) → i < length (members s) → set.contains s (get_or (members s) i d)
    ≡ true
member_in s i d l =
    let n = get_or (members s) i d in
    sym (any-members s n) ∙ list_any_at (eq_by_cmp R n) (members s) i d l (eq-itself n)

module _ (p : List ℕ → Bool) where
  -- it passes, and no other that does is lesser
  abbrev IsLeast : NameSet → List ℕ → Type 0
  IsLeast s x = (set.contains s x ≡ true) × (p x ≡ true)
      × ((n : List ℕ) → set.contains s n ≡ true → p n ≡ true → (n ≡ x) ⊎ (R x n ≡ Less))

  first_found : (xs : List (List ℕ)) (x : List ℕ) → IsRising xs → find p xs ≡ Some x
      → Contains xs x × (p x ≡ true) × ((n : List ℕ) → Contains xs n → p n ≡ true → (n ≡ x) ⊎ (R x n ≡ Less))
  first_found [] x up e = cc e
  first_found (y ∷ ys) x up e = elim (cases_Bool (p y)) [
    | inl here ↦ (let same : y ≡ x = same_Some y x (sym (cond-true (p y) (Some y) (find p ys) here) ∙ e) in
        ((0, omega arith, same), ap p (sym same) ∙ here, λ n at _. after same n at))
    | inr none ↦ (let rest =
        first_found ys x (IsRising-tail y ys up) (sym (cond-false (p y) (Some y) (find p ys) none) ∙ e) in
        ((suc rest.0.0, omega (arith, rest.0.1), rest.0.2), rest.1, λ n at h. later none rest.2 n at h))
  ]
    where
      after : y ≡ x → (n : List ℕ) → Contains (y ∷ ys) n → (n ≡ x) ⊎ (R x n ≡ Less)
      after same n (zero, l, at) = inl (sym at ∙ same)
      after same n (suc k, l, at) =
          inr (ap (λ z. R z n) (sym same) ∙ ap (R y) (sym at) ∙ IsRising-head y ys up k n (omega (arith, l)))

      later : p y ≡ false → ((n : List ℕ) → Contains ys n → p n ≡ true → (n ≡ x) ⊎ (R x n ≡ Less)) → (n : List ℕ)
          → Contains (y ∷ ys) n → p n ≡ true → (n ≡ x) ⊎ (R x n ≡ Less)
      later none f n (zero, l, at) h = absurd (false≢true (sym none ∙ ap p at ∙ h))
      later none f n (suc k, l, at) h = f n (k, omega (arith, l), at) h

  found_least : (s : NameSet) (x : List ℕ) → find p (members s) ≡ Some x → IsLeast s x
  found_least s x e =
      let m = map.from_entries {R = R} (bare (set.items s)) in
      let h = first_found (members s) x (rising_entries (map.entries m) (map.entries_sorted m)) e in
      (ap (set.contains s) (sym h.0.2) ∙ member_in s h.0.0 x h.0.1, h.1, λ n held t. h.2 n (among_members s n held) t)

  least_found : (s : NameSet) (x : List ℕ) → IsLeast s x → find p (members s) ≡ Some x
  least_found s x h = by (find p (members s)) refl
    where
      clash : (y : List ℕ) → R y x ≡ Less → R x y ≡ Less → ⊥
      clash y l m = cc (sym l ∙ above x y m)

      same : (y : List ℕ) → IsLeast s y → y ≡ x
      same y g = elim (g.2 x h.0 h.1) [
        | inl e ↦ sym e
        | inr low ↦ elim (h.2 y g.0 g.1) [
          | inl e ↦ e
          | inr high ↦ absurd (clash y low high)
        ]
      ]

      by : (o : Option (List ℕ)) → find p (members s) ≡ o → find p (members s) ≡ Some x
      by None e = absurd (false≢true (sym (none_found p (members s) x e (among_members s x h.0)) ∙ h.1))
      by (Some y) e = e ∙ ap Some (same y (found_least s y e))

  -- where none is found, no name of the set passes
  pub none_in : (s : NameSet) → find p (members s) ≡ None → (n : List ℕ) → set.contains s n ≡ true → p n ≡ false
  none_in s e n held = none_found p (members s) n e (among_members s n held)

  -- the least of two sets in one, where what is in the other is not less
  least_of_either : (all s other : NameSet) → ((n : List ℕ) → set.contains s n ≡ true → set.contains all n ≡ true)
      → ((n : List ℕ) → set.contains all n ≡ true → (set.contains s n ≡ true) ⊎ (set.contains other n ≡ true))
      → (x : List ℕ) → find p (members s) ≡ Some x
      → ((n : List ℕ) → set.contains other n ≡ true → p n ≡ true → (n ≡ x) ⊎ (R x n ≡ Less))
      → find p (members all) ≡ Some x
  least_of_either all s other within either x e f =
      let g = found_least s x e in
      least_found all x (
        within x g.0,
        g.1,
        λ n held t. elim (either n held) [
          | inl one ↦ g.2 n one t
          | inr elsewhere ↦ f n elsewhere t
        ],
      )

  -- the least of two sets is the lesser of their least ones
  module _ (a b : NameSet) where
    either : (n : List ℕ) → set.contains (set.union a b) n ≡ true
        → (set.contains a n ≡ true) ⊎ (set.contains b n ≡ true)
    either n h = or_cases _ _ (sym (set.contains-union nat_list_cmp_total a b n) ∙ h)

    in_first : (n : List ℕ) → set.contains a n ≡ true → set.contains (set.union a b) n ≡ true
    in_first n h = set.contains-union nat_list_cmp_total a b n ∙ or_left _ _ h

    in_second : (n : List ℕ) → set.contains b n ≡ true → set.contains (set.union a b) n ≡ true
    in_second n h = set.contains-union nat_list_cmp_total a b n ∙ or_right (set.contains a n) _ h

    -- not above a name that is not above another
    not_above : (x y n : List ℕ) → (y ≡ x) ⊎ (R x y ≡ Less) → (n ≡ y) ⊎ (R y n ≡ Less) → (n ≡ x) ⊎ (R x n ≡ Less)
    not_above x y n (inl e) (inl f) = inl (f ∙ e)
    not_above x y n (inl e) (inr l) = inr (ap (λ z. R z n) (sym e) ∙ l)
    not_above x y n (inr l) (inl f) = inr (ap (R x) f ∙ l)
    not_above x y n (inr l) (inr m) = inr (nat_list_cmp_total.trans x y n l m)

    order : (x y : List ℕ) (r : Ordering) → R y x ≡ r → is_lt r ≡ false → (y ≡ x) ⊎ (R x y ≡ Less)
    order x y Less e h = absurd (false≢true (sym h))
    order x y Equal e h = inl (only_equal y x e)
    order x y Greater e h = inr (below y x e)

    less : (r : Ordering) → is_lt r ≡ true → r ≡ Less
    less Less h = refl
    less Equal h = absurd (false≢true h)
    less Greater h = absurd (false≢true h)

    pub find-union : find p (members (set.union a b)) ≡ lesser (find p (members a)) (find p (members b))
    find-union = by (find p (members a)) refl (find p (members b)) refl
      where
        first : (x : List ℕ) → find p (members a) ≡ Some x
            → ((n : List ℕ) → set.contains b n ≡ true → p n ≡ true → (n ≡ x) ⊎ (R x n ≡ Less))
            → find p (members (set.union a b)) ≡ Some x
        first = least_of_either (set.union a b) a b in_first either

        second : (y : List ℕ) → find p (members b) ≡ Some y
            → ((n : List ℕ) → set.contains a n ≡ true → p n ≡ true → (n ≡ y) ⊎ (R y n ≡ Less))
            → find p (members (set.union a b)) ≡ Some y
        second = least_of_either (set.union a b) b a in_second (λ n held. elim (either n held) [
          | inl one ↦ inr one
          | inr other ↦ inl other
        ])

        by : (o : Option (List ℕ)) → find p (members a) ≡ o → (u : Option (List ℕ)) → find p (members b) ≡ u
            → find p (members (set.union a b)) ≡ lesser o u
        by None d None e = find_none p (members (set.union a b))
            (λ k l. elim (either (get_or (members (set.union a b)) k []) (member_in (set.union a b) k [] l)) [
              | inl one ↦ none_in a d _ one
              | inr other ↦ none_in b e _ other
            ])
        by None d (Some y) e = second y e (λ n held t. absurd (false≢true (sym (none_in a d n held) ∙ t)))
        by (Some x) d None e = first x d (λ n held t. absurd (false≢true (sym (none_in b e n held) ∙ t)))
        by (Some x) d (Some y) e = elim (cases_Bool (is_lt (R y x))) [
          | inl low ↦ second y e (λ n held t. not_above y x n (inr (less (R y x) low)) ((found_least a x d).2 n held t))
              ∙ sym (cond-true (is_lt (R y x)) (Some y) (Some x) low)
          | inr high ↦ first x d
              (λ n held t. not_above x y n (order x y (R y x) refl high) ((found_least b y e).2 n held t))
              ∙ sym (cond-false (is_lt (R y x)) (Some y) (Some x) high)
        ]

-- none is found that a table lacks just where it has each
pub least_none : (table : Criteria) (names : NameSet)
    → ((n : List ℕ) → set.contains names n ≡ true → map.contains_key table n ≡ true) → least_unknown table names ≡ None
least_none table names f =
    find_none (λ n. not (map.contains_key table n)) (members names)
    (λ k l. ap not (f (get_or (members names) k []) (member_in names k [] l)))

pub none_unknown : (table : Criteria) (names : NameSet) → least_unknown table names ≡ None → (n : List ℕ)
    → set.contains names n ≡ true → map.contains_key table n ≡ true
none_unknown table names e n held = not-false _ (none_in (λ n. not (map.contains_key table n)) names e n held)

pub least_of_none : (table : Criteria) → least_unknown table set.empty ≡ None
least_of_none table = least_none table set.empty (λ n h. absurd (false≢true (sym (set.contains-empty R n) ∙ h)))
