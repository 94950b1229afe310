-- How the index of a package's steps grows, and what it tells.
use Rattle.std.proofs.Common.{◌≡◌, ◌⊎◌, ℕ, zero, suc, ◌+◌, ◌<◌, ◌≤◌, Bool, true, false, ◌||◌, cond, List, [], ◌∷◌, ◌++◌}
use Rattle.std.proofs.Common.{Option, Some, None, option_map, unwrap_or, is_some, length, get_or, map, refl, sym, ap}
use Rattle.std.proofs.Common.{◌∙◌, subst}
use Rattle.std.proofs.Common.{arith, inl, inr, eqb-true, eq-eqb}
use Rattle.std.specs.BTreeMap.{get}
use Rattle.std.specs.List.{All, Contains}
use Rattle.std.proofs.lemmas.Bool.{cases_Bool, cases_lt, false≢true}
use Rattle.std.proofs.lemmas.List.{get_or-map, length-map, map_push}
use Rattle.std.proofs.lemmas.List.Elements.{All-head, All-tail, All-push, All-weaker}
use Rattle.std.proofs.lemmas.List.Folds.{list_any-append}
use Rattle.vet_base.proofs.ListLemmas.{Contains-here, Contains-later, Contains-cons_cases}
use Rattle.vet_base.specs.CriteriaSet.{has}
use Rattle.vet_base.specs.Version.{VersionValue}
use Rattle.vet_base.specs.VersionOrder.{version_cmp, version_eq}
use Rattle.vet_base.specs.VersionOrderLaws.{version_eq-Decides}
use Rattle.vet_demand.specs.Spread.{lists_in}
use Rattle.vet_entries.specs.declared.step.Step.{Step}
use Rattle.vet_graph.specs.Links.{Knows}
use Rattle.vet_masks.specs.declared.index.Ends.{Ends}
use Rattle.vet_masks.specs.declared.index.Index.{Index}
use Rattle.vet_masks.specs.Index.{IsIndex, IsNamed, IsNumbering, IsOrigin, Keeps, Numbers, ends_of, is_from}
use Rattle.vet_masks.specs.Index.{is_used, no_ends, number_of, places_from}
use Rattle.vet_masks.specs.Masks.{Numbered, no_step, numbered, numbered_by, origin_at}

-- ---- the places of the steps from a version

from-is : (n : ℕ) (o : Option ℕ) → is_from n o ≡ true → o ≡ Some n
from-is n None h = absurd (false≢true h)
from-is n (Some m) h = ap (λ (k : ℕ). Some k) (eqb-true m n h)

is-from : (n : ℕ) (o : Option ℕ) → o ≡ Some n → is_from n o ≡ true
is-from n o e = rw e (eq-eqb n n refl)

cond_push : (b : Bool) (x : ℕ) (ps qs more : List ℕ) → ps ≡ qs ++ more → cond b (x ∷ ps) ps ≡ cond b (x ∷ qs) qs ++ more
cond_push true x ps qs more h = ap (λ zs. x ∷ zs) h
cond_push false x ps qs more h = h

pub places-push : (place n : ℕ) (ends : List Ends) (e : Ends) → places_from place n (ends ++ e ∷ [])
    ≡ places_from place n ends ++ cond (is_from n e.origin) ((place + length ends) ∷ []) []
unfolding places_from
places-push place n [] e = ap (λ q. cond (is_from n e.origin) (q ∷ []) []) (omega arith)
places-push place n (f ∷ rest) e =
    cond_push (is_from n f.origin) place (places_from (place + 1) n (rest ++ e ∷ [])) (places_from (place + 1) n rest)
    (cond (is_from n e.origin) ((place + suc (length rest)) ∷ []) [])
    (places-push (place + 1) n rest e
    ∙ ap (λ q. places_from (place + 1) n rest ++ cond (is_from n e.origin) (q ∷ []) []) (omega arith))

-- a place is that of a step that starts at the version of a number
abbrev IsPlace : ℕ → ℕ → List Ends → ℕ → Type 0
IsPlace place n ends q = (j : ℕ) × (q ≡ place + j) × (j < length ends) × ((get_or ends j no_ends).origin ≡ Some n)

place_later : (place n : ℕ) (e : Ends) (rest : List Ends) (q : ℕ) → IsPlace (place + 1) n rest q
    → IsPlace place n (e ∷ rest) q
place_later place n e rest q at = (suc at.0, omega (arith, at.1), omega (arith, at.2), at.3)

place_of : (place n : ℕ) (e : Ends) (rest : List Ends) (q : ℕ) (ps : List ℕ) → (b : Bool) → is_from n e.origin ≡ b
    → (Contains ps q → IsPlace (place + 1) n rest q) → Contains (cond b (place ∷ ps) ps) q
    → IsPlace place n (e ∷ rest) q
place_of place n e rest q ps true is more k = elim (Contains-cons_cases place ps q k) [
  | inl here ↦ (0, omega (arith, here), omega arith, from-is n e.origin is)
  | inr later ↦ place_later place n e rest q (more later)
]
place_of place n e rest q ps false is more k = place_later place n e rest q (more k)

-- each of them is the place of such a step
pub places-in : (place n : ℕ) (ends : List Ends) (q : ℕ) → Contains (places_from place n ends) q
    → (j : ℕ) × (q ≡ place + j) × (j < length ends) × ((get_or ends j no_ends).origin ≡ Some n)
unfolding places_from
places-in place n [] q h = absurd (omega (arith, h.1))
places-in place n (e ∷ rest) q h =
    place_of place n e rest q (places_from (place + 1) n rest) (is_from n e.origin) refl
    (λ k. places-in (place + 1) n rest q k) h

cond_most : (b : Bool) (x : ℕ) (ps : List ℕ) (m : ℕ) → length ps ≤ m → length (cond b (x ∷ ps) ps) ≤ suc m
cond_most true x ps m h = omega (arith, h)
cond_most false x ps m h = omega (arith, h)

-- there are no more of them than steps
pub places-most : (place n : ℕ) (ends : List Ends) → length (places_from place n ends) ≤ length ends
unfolding places_from
places-most place n [] = omega arith
places-most place n (e ∷ rest) =
    cond_most (is_from n e.origin) place (places_from (place + 1) n rest) (length rest) (places-most (place + 1) n rest)

cond_later : (b : Bool) (x q : ℕ) (ps : List ℕ) → Contains ps q → Contains (cond b (x ∷ ps) ps) q
cond_later true x q ps h = Contains-later x q ps h
cond_later false x q ps h = h

-- and the place of each such step is one of them
pub places-has : (place n : ℕ) (ends : List Ends) (j : ℕ) → j < length ends
    → (get_or ends j no_ends).origin ≡ Some n → Contains (places_from place n ends) (place + j)
unfolding places_from
places-has place n [] j l h = absurd (omega arith)
places-has place n (e ∷ rest) zero l h =
    let at : place + 0 ≡ place = omega arith in
    rw (is-from n e.origin h, at) (Contains-here place (places_from (place + 1) n rest))
places-has place n (e ∷ rest) (suc j) l h =
    let at : place + suc j ≡ (place + 1) + j = omega arith in
    rw at (cond_later (is_from n e.origin) place ((place + 1) + j) (places_from (place + 1) n rest)
    (places-has (place + 1) n rest j (omega arith) h))

-- ---- one step more

map-same : {X Y : Type 0} (f g : X → Y) (xs : List X) → All (λ x. f x ≡ g x) xs → map f xs ≡ map g xs
map-same f g [] h = refl
map-same f g (x ∷ xs) h = (λ i. (All-head (λ y. f y ≡ g y) x xs h) i ∷
    map-same f g xs (All-tail (λ y. f y ≡ g y) x xs h) i)

pub some-is : {X : Type 0} (o : Option X) → is_some o ≡ true → (x : X) × (o ≡ Some x)
some-is None h = absurd (false≢true h)
some-is (Some x) h = (x, refl)

pub keeps-number : (old new : Numbers) → Keeps old new → (v : VersionValue) → is_some (old v) ≡ true
    → number_of new v ≡ number_of old v
keeps-number old new keeps v h = (let at = some-is (old v) h in
    ap (λ o. unwrap_or o 0) (keeps v at.0 at.1 ∙ sym at.1))

pub keeps-some : (old new : Numbers) → Keeps old new → (v : VersionValue) → is_some (old v) ≡ true
    → is_some (new v) ≡ true
keeps-some old new keeps v h = (let at = some-is (old v) h in ap is_some (keeps v at.0 at.1))

pub keeps-named : (old new : Numbers) → Keeps old new → (s : Step) → IsNamed old s → IsNamed new s
keeps-named old new keeps s h = record {
  target = keeps-some old new keeps s.target h.target;
  origin = λ v e. keeps-some old new keeps v (h.origin v e);
}

pub keeps-origin : (old new : Numbers) → Keeps old new → (o : Option VersionValue)
    → ((v : VersionValue) → o ≡ Some v → is_some (old v) ≡ true)
    → option_map (number_of old) o ≡ option_map (number_of new) o
keeps-origin old new keeps None h = refl
keeps-origin old new keeps (Some v) h = ap (λ (k : ℕ). Some k) (sym (keeps-number old new keeps v (h v refl)))

pub keeps-ends : (old new : Numbers) → Keeps old new → (s : Step) → IsNamed old s → ends_of old s ≡ ends_of new s
keeps-ends old new keeps s h = λ i. record {
  origin = keeps-origin old new keeps s.origin h.origin i;
  target = sym (keeps-number old new keeps s.target h.target) i;
  exempt = s.exempt;
}

pub ends-kept : (steps : List Step) (old new : Numbers) → Keeps old new → All (IsNamed old) steps
    → map (ends_of old) steps ≡ map (ends_of new) steps
ends-kept steps old new keeps named = map-same (ends_of old) (ends_of new) steps
    (All-weaker (IsNamed old) (λ t. ends_of old t ≡ ends_of new t) (keeps-ends old new keeps) steps named)

-- the numbers of an index
abbrev pub numbers_in : Index → Numbers
numbers_in index = get version_cmp index.numbers

pub IsIndex-more : (steps : List Step) (s : Step) (old new : Index) → IsIndex steps old
    → IsNumbering (numbers_in new) (length new.after.items) → Keeps (numbers_in old) (numbers_in new)
    → IsNamed (numbers_in new) s
    → new.ends.items ≡ old.ends.items ++ ends_of (numbers_in new) s ∷ []
    → ((n : ℕ) → get_or (lists_in new.after.items) n []
    ≡ get_or (lists_in old.after.items) n []
    ++ cond (is_from n (ends_of (numbers_in new) s).origin) (length steps ∷ []) [])
    → ((c : ℕ) → has c new.used ≡ (has c old.used || has c s.criteria))
    → IsIndex (steps ++ s ∷ []) new
IsIndex-more steps s old new h numbering keeps named ends filed used = record {
  numbering = numbering;
  named = All-push (IsNamed (numbers_in new)) steps s (All-weaker (IsNamed (numbers_in old)) (IsNamed (numbers_in new))
      (keeps-named (numbers_in old) (numbers_in new) keeps) steps h.named) named;
  ends = ends ∙ (λ i. (h.ends ∙ map-same (ends_of (numbers_in old)) (ends_of (numbers_in new)) steps
      (All-weaker (IsNamed (numbers_in old)) (λ t. ends_of (numbers_in old) t ≡ ends_of (numbers_in new) t)
      (keeps-ends (numbers_in old) (numbers_in new) keeps) steps h.named)) i ++ ends_of (numbers_in new) s ∷ [])
      ∙ sym (map_push (ends_of (numbers_in new)) steps s);
  filed = λ n. filed n ∙ (λ i. (h.filed n) i
      ++ cond (is_from n (ends_of (numbers_in new) s).origin) (long i ∷ []) [])
      ∙ sym (ap (places_from 0 n) ends ∙ places-push 0 n old.ends.items (ends_of (numbers_in new) s));
  used = λ c. used c ∙ ap (λ b. b || has c s.criteria) (h.used c)
      ∙ sym (list_any-append (λ t. has c t.criteria) steps (s ∷ []) ∙ one (is_used steps c) (has c s.criteria));
}
  where
    long : length steps ≡ 0 + length old.ends.items
    long = omega (arith, ap length h.ends, length-map steps (ends_of (numbers_in old)))

    one : (a b : Bool) → (a || (b || false)) ≡ (a || b)
    one true b = refl
    one false true = refl
    one false false = refl

pub no-places : (n : ℕ) → places_from 0 n [] ≡ []
unfolding places_from
no-places n = refl

-- ---- what an index tells of a step

pub number-below : (numbers : Numbers) (m : ℕ) → IsNumbering numbers m → (v : VersionValue) → is_some (numbers v) ≡ true
    → number_of numbers v < m
number-below numbers m h v k =
    let at = some-is (numbers v) k in
    rw (← (ap (λ o. unwrap_or o 0) at.1)) at (h.below v at.0 at.1)

module _ (steps : List Step) (index : Index) (h : IsIndex steps index) (p : ℕ) (l : p < length steps) where
  -- the step at the place
  abbrev pub step_at : Step
  step_at = get_or steps p no_step.step

  pub named-at : IsNamed (numbers_in index) step_at
  named-at = h.named p no_step.step l

  pub ends-at : (d : Ends) → get_or index.ends.items p d ≡ ends_of (numbers_in index) step_at
  ends-at d = ap (λ es. get_or es p d) h.ends ∙ get_or-map (ends_of (numbers_in index)) steps p no_step.step d l

  pub numbered-at : (d : Numbered) → get_or (numbered_by index steps) p d ≡ numbered (numbers_in index) step_at
  numbered-at d = get_or-map (numbered (numbers_in index)) steps p no_step.step d l

  pub origin-same : origin_at (numbered_by index steps) p ≡ (get_or index.ends.items p no_ends).origin
  origin-same = ap (λ (t : Numbered). t.origin) (numbered-at no_step)
      ∙ sym (ap (λ (e : Ends). e.origin) (ends-at no_ends))

  pub target-at : (e : Ends) → e ≡ get_or index.ends.items p e → e.target ≡ number_of (numbers_in index) step_at.target
  target-at e is = ap (λ (x : Ends). x.target) (is ∙ ends-at e)

  pub target-below : number_of (numbers_in index) step_at.target < length index.after.items
  target-below = number-below (numbers_in index) (length index.after.items) h.numbering step_at.target named-at.target

  pub origin-below : (n : ℕ) → origin_at (numbered_by index steps) p ≡ Some n → n < length index.after.items
  origin-below n e = by step_at.origin refl (sym (ap (λ (t : Numbered). t.origin) (numbered-at no_step)) ∙ e)
    where
      by : (o : Option VersionValue) → step_at.origin ≡ o → option_map (number_of (numbers_in index)) o ≡ Some n
          → n < length index.after.items
      by None is k = absurd (cc k)
      by (Some v) is k =
          let same : number_of (numbers_in index) v ≡ n = cc k in
          rw same at (number-below (numbers_in index) (length index.after.items) h.numbering v (named-at.origin v is))

-- ---- one version more

module _ (old new : Numbers) (v : VersionValue) (n : ℕ) (none : old v ≡ None) (knows : Knows v n old new) where
  -- whether a version is the new one
  cases : (w : VersionValue) → ((v ≡ w) × (new w ≡ Some n)) ⊎ (new w ≡ old w)
  cases w = elim (cases_Bool (version_eq v w)) [
    | inl tied ↦ inl ((version_eq-Decides v w).0 tied, knows w ∙ ap (λ b. cond b (Some n) (old w)) tied)
    | inr other ↦ inr (knows w ∙ ap (λ b. cond b (Some n) (old w)) other)
  ]

  pub Keeps-next : Keeps old new
  Keeps-next w k e = elim (cases w) [
    | inl here ↦ absurd (let q = sym none ∙ ap old here.0 ∙ e in cc q)
    | inr same ↦ same ∙ e
  ]

  pub IsNumbering-next : IsNumbering old n → IsNumbering new (n + 1)
  IsNumbering-next h = record {
    below = λ w k e. elim (cases w) [
      | inl here ↦ (let same : n ≡ k = cc (sym here.1 ∙ e) in omega (arith, same))
      | inr same ↦ omega (arith, h.below w k (sym same ∙ e))
    ];
    apart = λ u w k d e. elim (cases u) [
      | inl first ↦ elim (cases w) [
        | inl second ↦ sym first.0 ∙ second.0
        | inr same ↦ (let is : n ≡ k = cc (sym first.1 ∙ d) in absurd (omega (arith, is, h.below w k (sym same ∙ e))))
      ]
      | inr same ↦ elim (cases w) [
        | inl second ↦ (let is : n ≡ k = cc (sym second.1 ∙ e)
            in absurd (omega (arith, is, h.below u k (sym same ∙ d))))
        | inr too ↦ h.apart u w k (sym same ∙ d) (sym too ∙ e)
      ]
    ];
    each = λ k l. elim (cases_lt k n) [
      | inl low ↦ (let at = h.each k low in (at.0, Keeps-next at.0 k at.1))
      | inr high ↦ (let last : n ≡ k = omega (arith, l, high) in (
        v,
        knows v ∙ ap (λ b. cond b (Some n) (old v)) ((version_eq-Decides v v).1 refl) ∙ ap (λ (j : ℕ). Some j) last,
      ))
    ];
  }

-- ---- one like another

pub IsIndex-alike : (steps : List Step) (old new : Index) → IsIndex steps old
    → ((v : VersionValue) → numbers_in new v ≡ numbers_in old v) → new.ends.items ≡ old.ends.items
    → lists_in new.after.items ≡ lists_in old.after.items → new.used ≡ old.used → IsIndex steps new
IsIndex-alike steps old new h same ends after used =
    let numbers : numbers_in old ≡ numbers_in new = λ i v. sym (same v) i in
    let long : length old.after.items ≡ length new.after.items = omega (
      arith,
      ap length after,
      length-map old.after.items (λ l. l.items),
      length-map new.after.items (λ l. l.items),
    ) in
    record {
      numbering = subst (λ n. IsNumbering (numbers_in new) n) long
          (subst (λ (ns : Numbers). IsNumbering ns (length old.after.items)) numbers h.numbering);
      named = subst (λ (ns : Numbers). All (IsNamed ns) steps) numbers h.named;
      ends = ends ∙ h.ends ∙ ap (λ (ns : Numbers). map (ends_of ns) steps) numbers;
      filed = λ n. ap (λ ls. get_or ls n []) after ∙ h.filed n ∙ ap (places_from 0 n) (sym ends);
      used = λ c. ap (has c) used ∙ h.used c;
    }

-- ---- what stands for where a step starts

pub origin-number : (numbers : Numbers) (o : Option VersionValue) (origin : Option ℕ) → IsOrigin numbers o origin
    → origin ≡ option_map (number_of numbers) o
origin-number numbers None origin h = h
origin-number numbers (Some v) origin h = h.1 ∙ ap (λ (n : ℕ). Some n) (sym (ap (λ k. unwrap_or k 0) h.2))

pub origin-named : (numbers : Numbers) (o : Option VersionValue) (origin : Option ℕ) → IsOrigin numbers o origin
    → (v : VersionValue) → o ≡ Some v → is_some (numbers v) ≡ true
origin-named numbers None origin h v e = absurd (cc e)
origin-named numbers (Some w) origin h v e =
    let same : w ≡ v = cc e in
    ap is_some (ap numbers (sym same) ∙ h.2)

pub origin-keeps : (old new : Numbers) → Keeps old new → (o : Option VersionValue) (origin : Option ℕ)
    → IsOrigin old o origin → IsOrigin new o origin
origin-keeps old new keeps None origin h = h
origin-keeps old new keeps (Some v) origin h = (h.0, h.1, keeps v h.0 h.2)

pub origin-low : (numbers : Numbers) (m : ℕ) → IsNumbering numbers m → (o : Option VersionValue) (origin : Option ℕ)
    → IsOrigin numbers o origin → (n : ℕ) → origin ≡ Some n → n < m
origin-low numbers m numbering None origin h n e = absurd (let q = sym h ∙ e in cc q)
origin-low numbers m numbering (Some v) origin h n e =
    let same : h.0 ≡ n = cc (sym h.1 ∙ e) in
    rw same at (numbering.below v h.0 h.2)

-- ---- numbers that were given before

-- a number that was given is of the version that had it
pub number-kept : (old new : Numbers) (m n : ℕ) → IsNumbering old m → IsNumbering new n → Keeps old new
    → (v : VersionValue) (k : ℕ) → new v ≡ Some k → k < m → old v ≡ Some k
number-kept old new m n h g keeps v k e l =
    let at = h.each k l in
    let same : at.0 ≡ v = g.apart at.0 v k (keeps at.0 k at.1) e in
    ap old (sym same) ∙ at.1
