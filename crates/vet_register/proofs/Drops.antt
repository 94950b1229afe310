-- An entry that is dropped is the one at its number's place.
use Rattle.std.proofs.Common.{◌≡◌, ℕ, suc, ◌<◌, ◌≤◌, Bool, true, false, not, cond, ltb, is_some, List, [], ◌∷◌, length}
use Rattle.std.proofs.Common.{filter, get_or, Some, None, IfErr, Ok, Err, refl, sym, ap, subst, ◌∙◌, arith, eqb-true}
use Rattle.std.proofs.Common.{inl, inr}
use Rattle.std.specs.List.{All, AllPairs, list_any, position, position_or_len, remove}
use Rattle.std.proofs.lemmas.Bool.{cases_Bool, false≢true, lt-ltb, le-ltb, ltb-true}
use Rattle.std.proofs.lemmas.List.Elements.{All-head, All-tail}
use Rattle.vet_entries.specs.declared.facts.HeldEntry.{HeldEntry}
use Rattle.vet_entries.specs.Numbered.{Rise, has_number, place_of}
use Rattle.vet_base.specs.Day.{DayValue}
use Rattle.vet_base.specs.Gives.{Refuses, Told, ◌>>=◌}
use Rattle.vet_base.specs.declared.refusal.Refusal.TheVariants.{UnknownEntry}
use Rattle.vet_base.proofs.Telling.{never_refuses, not_refused, then_told}
use Rattle.vet_register.specs.declared.command.Action.TheVariants.{DropEntry}
use Rattle.vet_register.specs.State.{State}
use Rattle.vet_register.specs.Verdict.{checked, references, rules, step_limit}
use Rattle.vet_register.proofs.Lists.{AllPairs-head, AllPairs-tail}

module _ {X : Type 0} (p : X → Bool) where
  any_before : (xs : List X) → list_any p xs ≡ true → position_or_len p xs < length xs
  any_before [] h = cc h
  any_before (x ∷ xs) h = elim (cases_Bool (p x)) [
    | inl here ↦ rw here (omega arith)
    | inr other ↦ (let rest = any_before xs (rw other at h) in rw other (omega (arith, rest)))
  ]

  none_before : (xs : List X) → list_any p xs ≡ false → length xs ≤ position_or_len p xs
  none_before [] h = omega arith
  none_before (x ∷ xs) h = elim (cases_Bool (p x)) [
    | inl here ↦ (let h' = rw here at h in cc h')
    | inr other ↦ (let rest = none_before xs (rw other at h) in rw other (omega (arith, rest)))
  ]

  -- there is a place where some element passes
  pub some-position : (xs : List X) → is_some (position p xs) ≡ list_any p xs
  some-position xs = elim (cases_Bool (list_any p xs)) [
    | inl some ↦ rw (some, lt-ltb (position_or_len p xs) (length xs) (any_before xs some)) refl
    | inr none ↦ rw (none, le-ltb (position_or_len p xs) (length xs) (none_before xs none)) refl
  ]

  some_place : (b : Bool) (n i : ℕ) → cond b (Some n) None ≡ Some i → (b ≡ true) × (n ≡ i)
  some_place true n i e = (refl, cc e)
  some_place false n i e = cc e

-- later numbers are others
others_later : (n : ℕ) (held : HeldEntry) (entries : List HeldEntry) → has_number n held ≡ true → All (Rise held)
    entries
    → filter (λ h. not (has_number n h)) entries ≡ entries
others_later n held [] is later = refl
others_later n held (h ∷ entries) is later = elim (cases_Bool (has_number n h)) [
  | inl same ↦ (let above = All-head (Rise held) h entries later in let a : held.number ≡ n = eqb-true held.number n
      is in let b : h.number ≡ n = eqb-true h.number n same in absurd (omega (arith, above, a, b)))
  | inr other ↦ rw other (ap (λ es. h ∷ es) (others_later n held entries is (All-tail (Rise held) h entries later)))
]

remove_here : (h : HeldEntry) (entries : List HeldEntry) (k : ℕ) → remove (h ∷ entries) (suc k) ≡ h ∷ remove entries k
remove_here h entries k = refl

dropped_at : (n : ℕ) (entries : List HeldEntry) → AllPairs Rise entries → position_or_len (has_number n) entries <
    length entries
    → remove entries (position_or_len (has_number n) entries) ≡ filter (λ h. not (has_number n h)) entries
dropped_at n [] rise l = absurd (omega (arith, l))
dropped_at n (h ∷ entries) rise l = elim (cases_Bool (has_number n h)) [
  | inl same ↦ rw same (sym (others_later n h entries same (AllPairs-head Rise h entries rise)))
  | inr other ↦
      (let place : position_or_len (has_number n) (h ∷ entries) ≡ suc (position_or_len (has_number n) entries) = rw
      other (omega arith) in
      let kept : filter (λ x. not (has_number n x)) (h ∷ entries) ≡ h ∷ filter (λ x. not (has_number n x)) entries =
      rw other refl in
      let rest = dropped_at n entries (AllPairs-tail Rise h entries rise) (omega (arith, l, place)) in
      ap (remove (h ∷ entries)) place ∙ remove_here h entries _ ∙ ap (λ es. h ∷ es) rest ∙ sym kept)
]

-- where numbers rise, to remove the entry at the place of a number is to keep those of other numbers
pub dropped : (n place : ℕ) (entries : List HeldEntry) → AllPairs Rise entries → place_of entries n ≡ Some place
    → remove entries place ≡ filter (λ h. not (has_number n h)) entries
dropped n place entries rise e =
    let at = some_place (has_number n) (ltb (position_or_len (has_number n) entries) (length entries))
    (position_or_len (has_number n) entries) place e in
    ap (remove entries) (sym at.1) ∙ dropped_at n entries rise
    (ltb-true (position_or_len (has_number n) entries) (length entries) at.0)

-- none of those later has the number
none_later : (n : ℕ) (held : HeldEntry) (entries : List HeldEntry) → has_number n held ≡ true → All (Rise held) entries
    → filter (has_number n) entries ≡ []
none_later n held [] is later = refl
none_later n held (h ∷ entries) is later = elim (cases_Bool (has_number n h)) [
  | inl same ↦ (let above = All-head (Rise held) h entries later in let a : held.number ≡ n = eqb-true held.number n
      is in let b : h.number ≡ n = eqb-true h.number n same in absurd (omega (arith, above, a, b)))
  | inr other ↦ rw other (none_later n held entries is (All-tail (Rise held) h entries later))
]

alone_at : (n : ℕ) (entries : List HeldEntry) (d : HeldEntry) → AllPairs Rise entries
    → position_or_len (has_number n) entries < length entries
    → filter (has_number n) entries ≡ get_or entries (position_or_len (has_number n) entries) d ∷ []
alone_at n [] d rise l = absurd (omega (arith, l))
alone_at n (h ∷ entries) d rise l = elim (cases_Bool (has_number n h)) [
  | inl same ↦ rw same (ap (λ es. h ∷ es) (none_later n h entries same (AllPairs-head Rise h entries rise)))
  | inr other ↦
      (let place : position_or_len (has_number n) (h ∷ entries) ≡ suc (position_or_len (has_number n) entries) = rw
      other (omega arith) in
      let kept : filter (has_number n) (h ∷ entries) ≡ filter (has_number n) entries = rw other refl in
      let rest = alone_at n entries d (AllPairs-tail Rise h entries rise) (omega (arith, l, place)) in
      kept ∙ rest ∙ sym (ap (λ k. get_or (h ∷ entries) k d ∷ []) place))
]

-- where numbers rise, the entry at the place of a number is the only one of it
pub alone : (n place : ℕ) (entries : List HeldEntry) (d : HeldEntry) → AllPairs Rise entries
    → place_of entries n ≡ Some place → filter (has_number n) entries ≡ get_or entries place d ∷ []
alone n place entries d rise e =
    let at = some_place (has_number n) (ltb (position_or_len (has_number n) entries) (length entries))
    (position_or_len (has_number n) entries) place e in
    alone_at n entries d rise (ltb-true (position_or_len (has_number n) entries) (length entries) at.0)
    ∙ ap (λ k. get_or entries k d ∷ []) at.1

-- ---- what a command that drops an entry is told

-- an entry of a number is held where the number has a place
pub placed : (entries : List HeldEntry) (n place : ℕ) → place_of entries n ≡ Some place → list_any (has_number n)
    entries ≡ true
placed entries n place at = sym (some-position (has_number n) entries) ∙ ap is_some at

unplaced : (entries : List HeldEntry) (n : ℕ) → place_of entries n ≡ None → list_any (has_number n) entries ≡ false
unplaced entries n at = sym (some-position (has_number n) entries) ∙ ap is_some at

-- the place of a number lies within the entries
pub place_within : (entries : List HeldEntry) (n place : ℕ) → place_of entries n ≡ Some place → place < length entries
place_within entries n place e =
    let at = some_place (has_number n) (ltb (position_or_len (has_number n) entries) (length entries))
    (position_or_len (has_number n) entries) place e in
    subst (λ k. k < length entries) at.1 (ltb-true (position_or_len (has_number n) entries) (length entries) at.0)

pub drop_passes : (s : State) (day : DayValue) (n place : ℕ) → step_limit s ≡ Ok tt → place_of s.held.facts.entries n
    ≡ Some place → checked s day (DropEntry n) ≡ Ok tt
drop_passes s day n place step at = rw (step, placed s.held.facts.entries n place at) refl

pub drop_refused : (s : State) (day : DayValue) (n : ℕ) → place_of s.held.facts.entries n ≡ None → checked s day
    (DropEntry n) ≡ Ok tt → ⊥
drop_refused s day n at told =
    let r = then_told (step_limit s) (λ _. references s (DropEntry n) >>= λ _. rules s day (DropEntry n)) tt told in
    let held = not_refused (not (list_any (has_number n) s.held.facts.entries)) UnknownEntry
    (then_told (references s (DropEntry n)) (λ _. rules s day (DropEntry n)) tt r.1).0 in
    false≢true (sym held ∙ ap not (unplaced s.held.facts.entries n at))

-- what is answered without a refusal passed
pub passes : {A : Type 0} (t : Told (Unit {0})) (x : A) → IfErr t (λ e. Refuses e (Ok x)) → t ≡ Ok tt
passes (Ok u) x h = refl
passes (Err e) x h = absurd (never_refuses e x h)
