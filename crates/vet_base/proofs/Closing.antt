-- The closure of a set of names is the least one.
use Rattle.std.proofs.Common.{◌≡◌, ℕ, ◌↔◌, true, false, ◌||◌, List, [], ◌∷◌, map as mapped, Option, Some, None, Less}
use Rattle.std.proofs.Common.{refl, sym, ap, ◌∙◌, arith, inl, inr}
use Rattle.std.specs.List.{All, Contains}
use Rattle.std.specs.Option.{option_map_or}
use Rattle.std.specs.Ordering.{is_eq, eq_by_cmp}
use Rattle.std.specs.FinSet as set
use Rattle.std.specs.FinMap as map
use Rattle.std.proofs.lemmas.Cmp.{nat_list_cmp_total}
use Rattle.std.proofs.lemmas.Bool.{cases_Bool, false≢true, or_cases, or_left, or_right, cond-true, cond-false}
use Rattle.vet_base.specs.declared.criterion.Criterion.{Criterion}
use Rattle.std.proofs.lemmas.List.{get_or-map, length-map}
use Rattle.vet_base.specs.Names.{NameSet, IsRising}
use Rattle.vet_base.specs.Criteria.{Criteria, implied_by, InClosure, reached_by, closure_of}
use Rattle.vet_base.specs.Criteria.InClosure.{named, implied}
use Rattle.vet_base.proofs.Rising.{R, eq-itself, equal-from_eq, above, IsRising-head, IsRising-tail, rising_entries}
use Rattle.vet_base.proofs.ListLemmas.{Contains-cons_cases, Contains-here, Contains-later}

abbrev pub Entries : Type 0
Entries = List (List ℕ × Criterion)

-- the same by a list of criteria
data Reached (es : Entries) (names : NameSet) : List ℕ → Type 0 where
  first : {n : List ℕ} → set.contains names n ≡ true → Reached es names n
  next : {m n : List ℕ} (c : Criterion) → Reached es names m → Contains es (m, c) → set.contains c.implies n ≡ true
      → Reached es names n

one_more : (e : List ℕ × Criterion) (es : Entries) (names : NameSet) (n : List ℕ) → Reached es names n
    → Reached (e ∷ es) names n
one_more e es names n (first h) = first h
one_more e es names n (next {m = m} c r at h) = next c (one_more e es names m r) (Contains-later e (m, c) es at) h

-- what a criterion's names reach is reached where the criterion is
after : (name : List ℕ) (c : Criterion) (es : Entries) (names : NameSet) → Reached ((name, c) ∷ es) names name
    → (n : List ℕ) → Reached es c.implies n → Reached ((name, c) ∷ es) names n
after name c es names at n (first h) = next c at (Contains-here (name, c) es) h
after name c es names at n (next {m = m} d r in_es h) =
    next d (after name c es names at m r) (Contains-later (name, c) (m, d) es in_es) h

module _ (name : List ℕ) (c : Criterion) (es : Entries) (names : NameSet) where
  pub grown : set.contains (reached_by es names) name ≡ true → reached_by ((name, c) ∷ es) names
      ≡ set.union (reached_by es names) (reached_by es c.implies)
  unfolding reached_by
  grown h = cond-true (set.contains (reached_by es names) name)
      (set.union (reached_by es names) (reached_by es c.implies)) (reached_by es names) h

  pub stayed : set.contains (reached_by es names) name ≡ false → reached_by ((name, c) ∷ es) names ≡ reached_by es names
  unfolding reached_by
  stayed h = cond-false (set.contains (reached_by es names) name)
      (set.union (reached_by es names) (reached_by es c.implies)) (reached_by es names) h

  contains-grown : set.contains (reached_by es names) name ≡ true → (n : List ℕ)
      → set.contains (reached_by ((name, c) ∷ es) names) n
      ≡ (set.contains (reached_by es names) n || set.contains (reached_by es c.implies) n)
  contains-grown h n =
      ap (λ s. set.contains s n) (grown h)
      ∙ set.contains-union nat_list_cmp_total (reached_by es names) (reached_by es c.implies) n

  contains-stayed : set.contains (reached_by es names) name ≡ false → (n : List ℕ)
      → set.contains (reached_by ((name, c) ∷ es) names) n ≡ set.contains (reached_by es names) n
  contains-stayed h n = ap (λ s. set.contains s n) (stayed h)

contains-nil : (names : NameSet) (n : List ℕ) → set.contains (reached_by [] names) n ≡ set.contains names n
unfolding reached_by
contains-nil names n = refl

sound : (es : Entries) (names : NameSet) (n : List ℕ) → set.contains (reached_by es names) n ≡ true → Reached es names n
sound [] names n h = first (sym (contains-nil names n) ∙ h)
sound ((name, c) ∷ es) names n h = elim (cases_Bool (set.contains (reached_by es names) name)) [
  | inl at ↦ elim (or_cases _ _ (sym (contains-grown name c es names at n) ∙ h)) [
    | inl old ↦ one_more (name, c) es names n (sound es names n old)
    | inr new ↦ after name c es names (one_more (name, c) es names name (sound es names name at)) n
        (sound es c.implies n new)
  ]
  | inr none ↦ one_more (name, c) es names n (sound es names n (sym (contains-stayed name c es names none n) ∙ h))
]

holds : (es : Entries) (names : NameSet) (n : List ℕ) → set.contains names n ≡ true
    → set.contains (reached_by es names) n ≡ true
holds [] names n h = contains-nil names n ∙ h
holds ((name, c) ∷ es) names n h = elim (cases_Bool (set.contains (reached_by es names) name)) [
  | inl at ↦ contains-grown name c es names at n ∙ or_left _ _ (holds es names n h)
  | inr none ↦ contains-stayed name c es names none n ∙ holds es names n h
]

closed : (es : Entries) (names : NameSet) (m n : List ℕ) (d : Criterion) → Contains es (m, d)
    → set.contains (reached_by es names) m ≡ true → set.contains d.implies n ≡ true
    → set.contains (reached_by es names) n ≡ true
closed [] names m n d in_es reached h = absurd (omega (arith, in_es.1))
closed ((name, c) ∷ es) names m n d in_es reached h = elim (cases_Bool (set.contains (reached_by es names) name)) [
  | inl at ↦ contains-grown name c es names at n ∙ elim (Contains-cons_cases (name, c) es (m, d) in_es) [
    | inl head ↦ or_right _ _
        (holds es c.implies n (ap (λ (e : List ℕ × Criterion). set.contains e.1.implies n) head ∙ h))
    | inr tail ↦ elim (or_cases _ _ (sym (contains-grown name c es names at m) ∙ reached)) [
      | inl old ↦ or_left _ _ (closed es names m n d tail old h)
      | inr new ↦ or_right _ _ (closed es c.implies m n d tail new h)
    ]
  ]
  | inr none ↦ contains-stayed name c es names none n
      ∙ (let old : set.contains (reached_by es names) m ≡ true =
      sym (contains-stayed name c es names none m) ∙ reached in elim (Contains-cons_cases (name, c) es (m, d) in_es) [
        | inl head ↦ absurd
            (false≢true (sym none ∙ ap (λ (e : List ℕ × Criterion). set.contains (reached_by es names) e.0) head ∙ old))
        | inr tail ↦ closed es names m n d tail old h
      ])
]

complete : (es : Entries) (names : NameSet) (n : List ℕ) → Reached es names n → set.contains (reached_by es names) n
    ≡ true
complete es names n (first h) = holds es names n h
complete es names n (next {m = m} c r at h) = closed es names m n c at (complete es names m r) h

-- ---- what one name alone reaches

abbrev pub alone : List ℕ → NameSet
alone m = set.insert set.empty m

pub in_alone : (m : List ℕ) → set.contains (alone m) m ≡ true
in_alone m = set.contains-insert nat_list_cmp_total set.empty m m
    ∙ or_left (eq_by_cmp R m m) (set.contains set.empty m) (eq-itself m)

pub only_alone : (m x : List ℕ) → set.contains (alone m) x ≡ true → x ≡ m
only_alone m x h = elim (or_cases (eq_by_cmp R x m) (set.contains set.empty x)
    (sym (set.contains-insert nat_list_cmp_total set.empty m x) ∙ h)) [
      | inl same ↦ equal-from_eq x m same
      | inr none ↦ absurd (false≢true (sym (set.contains-empty R x) ∙ none))
    ]

seeded : (es : Entries) (names : NameSet) (n : List ℕ) → Reached es names n → (m : List ℕ)
    × (set.contains names m ≡ true) × Reached es (alone m) n
seeded es names n (first h) = (n, h, first (in_alone n))
seeded es names n (next {m = k} c r at h) = (let s = seeded es names k r in (s.0, s.1, next c s.2 at h))

spread : (es : Entries) (names : NameSet) (m n : List ℕ) → set.contains names m ≡ true → Reached es (alone m) n
    → Reached es names n
spread es names m n held (first h) = first (ap (set.contains names) (only_alone m n h) ∙ held)
spread es names m n held (next {m = k} c r at h) = next c (spread es names m k held r) at h

-- what some names reach is what each of them reaches alone
pub from_one : (es : Entries) (names : NameSet) (n : List ℕ) → set.contains (reached_by es names) n ≡ true
    → (m : List ℕ) × (set.contains names m ≡ true) × (set.contains (reached_by es (alone m)) n ≡ true)
from_one es names n h = (let s = seeded es names n (sound es names n h) in (s.0, s.1, complete es (alone s.0) n s.2))

pub for_all : (es : Entries) (names : NameSet) (m n : List ℕ) → set.contains names m ≡ true
    → set.contains (reached_by es (alone m)) n ≡ true → set.contains (reached_by es names) n ≡ true
for_all es names m n held h = complete es names n (spread es names m n held (sound es (alone m) n h))

-- ---- the criteria of a table

pub found_entry : (n : List ℕ) (es : Entries) (c : Criterion) → map.find R n es ≡ Some c → Contains es (n, c)
found_entry n [] c h = cc h
found_entry n (e ∷ es) c h = elim (cases_Bool (eq_by_cmp R n e.0)) [
  | inl same ↦ (let is : e.1 ≡ c = cc (sym (cond-true (eq_by_cmp R n e.0) (Some e.1) (map.find R n es) same) ∙ h) in
      (0, omega arith, λ i. (sym (equal-from_eq n e.0 same) i, is i)))
  | inr other ↦ Contains-later e (n, c) es
      (found_entry n es c (sym (cond-false (eq_by_cmp R n e.0) (Some e.1) (map.find R n es) other) ∙ h))
]

pub not_tied : (a b : List ℕ) → R b a ≡ Less → eq_by_cmp R a b ≡ false
not_tied a b h = ap is_eq (above b a h)

later_key : (x n : List ℕ) (c : Criterion) (es : Entries) → All (λ y. R x y ≡ Less) (mapped (λ e. e.0) es)
    → Contains es (n, c) → R x n ≡ Less
later_key x n c es h in_es =
    rw (get_or-map (λ e. e.0) es in_es.0 (n, c) n in_es.1 ∙ ap (λ (e : List ℕ × Criterion). e.0) in_es.2) at
    (h in_es.0 n (rw length-map in_es.1))

pub entry_found : (n : List ℕ) (es : Entries) (c : Criterion) → IsRising (mapped (λ e. e.0) es) → Contains es (n, c)
    → map.find R n es ≡ Some c
entry_found n [] c h in_es = absurd (omega (arith, in_es.1))
entry_found n (e ∷ es) c h in_es = elim (Contains-cons_cases e es (n, c) in_es) [
  | inl head ↦ cond-true (eq_by_cmp R n e.0) (Some e.1) (map.find R n es)
      (ap (λ (d : List ℕ × Criterion). eq_by_cmp R n d.0) head ∙ eq-itself n)
      ∙ ap (λ (d : List ℕ × Criterion). Some d.1) head
  | inr tail ↦ cond-false (eq_by_cmp R n e.0) (Some e.1) (map.find R n es)
      (not_tied n e.0 (later_key e.0 n c es (IsRising-head e.0 (mapped (λ d. d.0) es) h) tail))
      ∙ entry_found n es c (IsRising-tail e.0 (mapped (λ d. d.0) es) h) tail
]

module _ (table : Criteria) where
  step_from : (m n : List ℕ) → set.contains (implied_by table m) n ≡ true → (c : Criterion)
      × Contains (map.entries table) (m, c) × (set.contains c.implies n ≡ true)
  step_from m n = by (map.get table m) refl
    where
      by : (o : Option Criterion) → map.get table m ≡ o → set.contains (option_map_or (λ c. c.implies) o set.empty) n
          ≡ true → (c : Criterion) × Contains (map.entries table) (m, c) × (set.contains c.implies n ≡ true)
      by None e h = absurd (false≢true (sym (set.contains-empty R n) ∙ h))
      by (Some c) e h = (c, found_entry m (map.entries table) c (sym (map.get-entries table m) ∙ e), h)

  step_to : (m n : List ℕ) (c : Criterion) → Contains (map.entries table) (m, c) → set.contains c.implies n ≡ true
      → set.contains (implied_by table m) n ≡ true
  step_to m n c in_es h =
      ap (λ o. set.contains (option_map_or (λ c. c.implies) o set.empty) n)
      (map.get-entries table m
      ∙ entry_found m (map.entries table) c (rising_entries (map.entries table) (map.entries_sorted table)) in_es)
      ∙ h

  to_closure : (names : NameSet) (n : List ℕ) → Reached (map.entries table) names n → InClosure table names n
  to_closure names n (first h) = named h
  to_closure names n (next {m = m} c r at h) = implied (to_closure names m r) (step_to m n c at h)

  from_closure : (names : NameSet) (n : List ℕ) → InClosure table names n → Reached (map.entries table) names n
  from_closure names n (named h) = first h
  from_closure names n (implied {m = m} r h) = (let s = step_from m n h in next s.0 (from_closure names m r) s.1 s.2)

  pub closure-law : (names : NameSet) (n : List ℕ)
      → (set.contains (closure_of table names) n ≡ true) ↔ InClosure table names n
  closure-law names n = (
    λ h. to_closure names n (sound (map.entries table) names n h),
    λ r. complete (map.entries table) names n (from_closure names n r),
  )
