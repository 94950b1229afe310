-- The places of versions among those to which exempt steps lead.
use Rattle.std.proofs.Common.{◌≡◌, ◌≢◌, ◌&&◌, ◌||◌, ◌==◌, ◌+◌, ◌<◌, ◌≤◌, ℕ, zero, suc, Bool, true, false, not, cond}
use Rattle.std.proofs.Common.{List}
use Rattle.std.proofs.Common.{[], ◌∷◌, ◌++◌, Option, Some, None, get_or, length, option_map, is_some, take, drop}
use Rattle.std.proofs.Common.{set as setn, refl, sym, ap, ◌∙◌, arith, eqb-true, eq-eqb, inl, inr}
use Rattle.std.proofs.lemmas.Bool.{cases_Bool, cases_eq, false≢true, ne_eqb}
use Rattle.std.proofs.lemmas.List.{get_or-set_same, get_or-set_other, length_push, take-append-drop}
use Rattle.vet_masks.specs.declared.exempt.ExemptNumbers.{ExemptNumbers}
use Rattle.vet_masks.specs.declared.index.Ends.{Ends}
use Rattle.vet_masks.specs.Exempt.{AreExemptNumbers, exempt_behind, exempt_versions, is_in, place_in, with_target}
use Rattle.vet_masks.specs.Index.{no_ends}
use Rattle.vet_masks.proofs.Indexing.{some-is}

pub exempt-push : (versions : List ℕ) (ends : List Ends) (e : Ends)
    → exempt_behind versions (ends ++ e ∷ []) ≡ with_target (exempt_behind versions ends) e
unfolding exempt_behind
exempt-push versions [] e = refl
exempt-push versions (f ∷ ends) e = exempt-push (with_target versions f) ends e

pub exempt-append : (versions : List ℕ) (front rest : List Ends)
    → exempt_behind versions (front ++ rest) ≡ exempt_behind (exempt_behind versions front) rest
unfolding exempt_behind
exempt-append versions [] rest = refl
exempt-append versions (e ∷ front) rest = exempt-append (with_target versions e) front rest

-- ---- places

later_some : (o : Option ℕ) → is_some (option_map suc o) ≡ is_some o
later_some None = refl
later_some (Some x) = refl

cond_some : (b : Bool) (o : Option ℕ) → is_some (cond b (Some 0) o) ≡ (b || is_some o)
cond_some true o = refl
cond_some false o = refl

-- a version has a place where it is one of them
pub place-is_in : (n : ℕ) (versions : List ℕ) → is_some (place_in n versions) ≡ is_in n versions
unfolding place_in
place-is_in n [] = refl
place-is_in n (m ∷ rest) = cond_some (m == n) (option_map suc (place_in n rest))
    ∙ ap (λ b. (m == n) || b) (later_some (place_in n rest) ∙ place-is_in n rest)

later_none : (o : Option ℕ) → option_map suc o ≡ None → o ≡ None
later_none None h = refl
later_none (Some x) h = absurd (cc h)

later_is : (o : Option ℕ) (x : ℕ) → option_map suc o ≡ Some x → (y : ℕ) × (x ≡ suc y) × (o ≡ Some y)
later_is None x h = absurd (cc h)
later_is (Some y) x h = (let e : suc y ≡ x = cc h in (y, sym e, refl))

at_by : (n m : ℕ) (rest : List ℕ) (x : ℕ) (b : Bool) → (m == n) ≡ b
    → cond b (Some 0) (option_map suc (place_in n rest)) ≡ Some x
    → ((y : ℕ) → place_in n rest ≡ Some y → (y < length rest) × (get_or rest y 0 ≡ n))
    → (x < suc (length rest)) × (get_or (m ∷ rest) x 0 ≡ n)
at_by n m rest x true is h later =
    let first : x ≡ 0 = sym (cc h) in
    rw first (omega arith, eqb-true m n is)
at_by n m rest x false is h later =
    let k = later_is (place_in n rest) x h in
    let at = later k.0 k.2 in
    rw k.1 (omega (arith, at.0), at.1)

-- there it stands
pub place-at : (n : ℕ) (versions : List ℕ) (x : ℕ) → place_in n versions ≡ Some x
    → (x < length versions) × (get_or versions x 0 ≡ n)
unfolding place_in
place-at n [] x h = absurd (cc h)
place-at n (m ∷ rest) x h = at_by n m rest x (m == n) refl h (λ y e. place-at n rest y e)

-- versions at one place are one
pub place-apart : (n m : ℕ) (versions : List ℕ) (x : ℕ) → place_in n versions ≡ Some x
    → place_in m versions ≡ Some x → n ≡ m
place-apart n m versions x h k = sym (place-at n versions x h).1 ∙ (place-at m versions x k).1

kept_by : (o p : Option ℕ) (x : ℕ) (b : Bool) → cond b (Some 0) (option_map suc o) ≡ Some x
    → ((y : ℕ) → o ≡ Some y → p ≡ Some y) → cond b (Some 0) (option_map suc p) ≡ Some x
kept_by o p x true h later = h
kept_by o p x false h later =
    let k = later_is o x h in
    ap (option_map suc) (later k.0 k.2) ∙ ap (λ (y : ℕ). Some y) (sym k.1)

-- one version more, behind the others
pub place-kept : (n m : ℕ) (versions : List ℕ) (x : ℕ) → place_in n versions ≡ Some x
    → place_in n (versions ++ m ∷ []) ≡ Some x
unfolding place_in
place-kept n m [] x h = absurd (cc h)
place-kept n m (v ∷ rest) x h =
    kept_by (place_in n rest) (place_in n (rest ++ m ∷ [])) x (v == n) h (λ y e. place-kept n m rest y e)

later_cond : (b : Bool) (x : ℕ) → option_map suc (cond b (Some x) None) ≡ cond b (Some (suc x)) None
later_cond true x = refl
later_cond false x = refl

next_by : (o p : Option ℕ) (x : ℕ) (b is : Bool) → cond b (Some 0) (option_map suc o) ≡ None
    → (o ≡ None → p ≡ cond is (Some x) None) → cond b (Some 0) (option_map suc p) ≡ cond is (Some (suc x)) None
next_by o p x true is h later = absurd (cc h)
next_by o p x false is h later = ap (option_map suc) (later (later_none o h)) ∙ later_cond is x

pub place-next : (n m : ℕ) (versions : List ℕ) → place_in n versions ≡ None
    → place_in n (versions ++ m ∷ []) ≡ cond (m == n) (Some (length versions)) None
unfolding place_in
place-next n m [] h = refl
place-next n m (v ∷ rest) h =
    next_by (place_in n rest) (place_in n (rest ++ m ∷ [])) (length rest) (v == n) (m == n) h
    (λ e. place-next n m rest e)

-- ---- one step more

-- a step that isn't exempt adds nothing, and one to a version that is there adds nothing
pub adds-nothing : (versions : List ℕ) (e : Ends) → (e.exempt && not (is_in e.target versions)) ≡ false
    → with_target versions e ≡ versions
adds-nothing versions e h = ap (λ b. cond b (versions ++ e.target ∷ []) versions) h

pub adds-target : (versions : List ℕ) (e : Ends) → (e.exempt && not (is_in e.target versions)) ≡ true
    → with_target versions e ≡ versions ++ e.target ∷ []
adds-target versions e h = ap (λ b. cond b (versions ++ e.target ∷ []) versions) h

-- what has a place keeps it
kept-one : (n : ℕ) (versions : List ℕ) (e : Ends) (x : ℕ) → place_in n versions ≡ Some x
    → place_in n (with_target versions e) ≡ Some x
kept-one n versions e x h = elim (cases_Bool (e.exempt && not (is_in e.target versions))) [
  | inl more ↦ ap (place_in n) (adds-target versions e more) ∙ place-kept n e.target versions x h
  | inr same ↦ ap (place_in n) (adds-nothing versions e same) ∙ h
]

pub kept-behind : (n : ℕ) (versions : List ℕ) (ends : List Ends) (x : ℕ) → place_in n versions ≡ Some x
    → place_in n (exempt_behind versions ends) ≡ Some x
unfolding exempt_behind
kept-behind n versions [] x h = h
kept-behind n versions (e ∷ rest) x h =
    kept-behind n (with_target versions e) rest x (kept-one n versions e x h)

-- numbers among the first steps are numbers among all
pub exempt-onward : (n first : ℕ) (ends : List Ends) (x : ℕ) → place_in n (exempt_versions (take first ends)) ≡ Some x
    → place_in n (exempt_versions ends) ≡ Some x
exempt-onward n first ends x h =
    ap (λ es. place_in n (exempt_versions es)) (sym (take-append-drop first ends))
    ∙ ap (place_in n) (exempt-append [] (take first ends) (drop first ends))
    ∙ kept-behind n (exempt_versions (take first ends)) (drop first ends) x h

push_last : (versions : List ℕ) (m : ℕ) → is_some (place_in m (versions ++ m ∷ [])) ≡ true
push_last versions m = elim (cases_Bool (is_some (place_in m versions))) [
  | inl there ↦ (let k = some-is (place_in m versions) there in
      ap is_some (place-kept m m versions k.0 k.1))
  | inr none ↦ ap is_some (place-next m m versions (is_none (place_in m versions) none)
      ∙ ap (λ b. cond b (Some (length versions)) None) (eq-eqb m m refl))
]
  where
    is_none : (o : Option ℕ) → is_some o ≡ false → o ≡ None
    is_none None h = refl
    is_none (Some x) h = absurd (false≢true (sym h))

-- an exempt step's version has a place
target_in : (versions : List ℕ) (e : Ends) → e.exempt ≡ true
    → is_some (place_in e.target (with_target versions e)) ≡ true
target_in versions e h = elim (cases_Bool (is_in e.target versions)) [
  | inl there ↦ ap (λ vs. is_some (place_in e.target vs)) (adds-nothing versions e
      (λ i. h i && not (there i)))
      ∙ place-is_in e.target versions ∙ there
  | inr new ↦ ap (λ vs. is_some (place_in e.target vs)) (adds-target versions e (λ i. h i && not (new i)))
      ∙ push_last versions e.target
]

pub exempt-has_place : (versions : List ℕ) (ends : List Ends) (p : ℕ) → p < length ends
    → (get_or ends p no_ends).exempt ≡ true
    → is_some (place_in (get_or ends p no_ends).target (exempt_behind versions ends)) ≡ true
unfolding exempt_behind
exempt-has_place versions [] p l h = absurd (omega arith)
exempt-has_place versions (e ∷ rest) zero l h =
    let k = some-is (place_in e.target (with_target versions e)) (target_in versions e h) in
    ap is_some (kept-behind e.target (with_target versions e) rest k.0 k.1)
exempt-has_place versions (e ∷ rest) (suc p) l h =
    exempt-has_place (with_target versions e) rest p (omega (arith, l)) h

-- there are no more of them than steps
most-one : (versions : List ℕ) (e : Ends) → length (with_target versions e) ≤ length versions + 1
most-one versions e = elim (cases_Bool (e.exempt && not (is_in e.target versions))) [
  | inl more ↦ omega (arith, ap length (adds-target versions e more), length_push versions e.target)
  | inr same ↦ omega (arith, ap length (adds-nothing versions e same))
]

pub most-behind : (versions : List ℕ) (ends : List Ends)
    → length (exempt_behind versions ends) ≤ length versions + length ends
unfolding exempt_behind
most-behind versions [] = omega arith
most-behind versions (e ∷ rest) = omega (arith, most-behind (with_target versions e) rest, most-one versions e)

-- ---- numbers

pub numbers-same : (ends : List Ends) (e : Ends) (k : ExemptNumbers)
    → (e.exempt && not (is_in e.target (exempt_versions ends))) ≡ false → AreExemptNumbers ends k
    → AreExemptNumbers (ends ++ e ∷ []) k
numbers-same ends e k none h =
    let same : exempt_versions (ends ++ e ∷ []) ≡ exempt_versions ends =
    exempt-push [] ends e ∙ adds-nothing (exempt_versions ends) e none in
    record { count = h.count ∙ ap length (sym same); numbers = λ n. h.numbers n ∙ ap (place_in n) (sym same) }

-- a version's place is kept, or it is the one behind the others
pushed : (n m : ℕ) (versions : List ℕ) → m ≢ n → (o : Option ℕ) → place_in n versions ≡ o
    → place_in n (versions ++ m ∷ []) ≡ o
pushed n m versions d None h = place-next n m versions h
    ∙ ap (λ b. cond b (Some (length versions)) None) (ne_eqb m n d)
pushed n m versions d (Some x) h = place-kept n m versions x h

module _ (ends : List Ends) (e : Ends) (old : ExemptNumbers) (h : AreExemptNumbers ends old)
    (exempt : e.exempt ≡ true) (empty : get_or old.numbers.items e.target None ≡ None)
    (low : e.target < length old.numbers.items) where
  abbrev versions : List ℕ
  versions = exempt_versions ends

  none : place_in e.target versions ≡ None
  none = sym (h.numbers e.target) ∙ empty

  more : exempt_versions (ends ++ e ∷ []) ≡ versions ++ e.target ∷ []
  more = exempt-push [] ends e ∙ adds-target versions e
      (λ i. exempt i && not ((sym (place-is_in e.target versions) ∙ ap is_some none) i))

  at : (n : ℕ) → get_or (setn old.numbers.items e.target (Some old.count)) n None
      ≡ place_in n (versions ++ e.target ∷ [])
  at n = elim (cases_eq n e.target) [
    | inl same ↦ rw same (get_or-set_same old.numbers.items e.target (Some old.count) None low
        ∙ ap (λ (x : ℕ). Some x) h.count
        ∙ sym (place-next e.target e.target versions none
        ∙ ap (λ b. cond b (Some (length versions)) None) (eq-eqb e.target e.target refl)))
    | inr other ↦ get_or-set_other old.numbers.items e.target n (Some old.count) None other ∙ h.numbers n
        ∙ sym (pushed n e.target versions (λ q. other (sym q)) (place_in n versions) refl)
  ]

  pub numbers-more : (new : ExemptNumbers) → new.numbers.items ≡ setn old.numbers.items e.target (Some old.count)
      → new.count ≡ old.count + 1 → AreExemptNumbers (ends ++ e ∷ []) new
  numbers-more new is one = record {
    count = omega (arith, one, h.count, ap length more, length_push versions e.target);
    numbers = λ n. ap (λ ns. get_or ns n None) is ∙ at n ∙ ap (place_in n) (sym more);
  }

pub none-numbered : (k : ExemptNumbers) → k.numbers.items ≡ [] → k.count ≡ 0 → AreExemptNumbers [] k
unfolding exempt_behind place_in
none-numbered k none zero_of = record { count = zero_of; numbers = λ n. ap (λ ns. get_or ns n None) none }
