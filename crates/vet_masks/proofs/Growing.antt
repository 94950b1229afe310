-- What was found of a package, once further steps came to it.
use Rattle.std.proofs.Common.{◌≡◌, ◌+◌, ◌*◌, ◌<◌, ◌≤◌, ◌&&◌, ◌++◌, ℕ, Bool, true, false, not, List, []}
use Rattle.std.proofs.Common.{◌∷◌, Option, Some, None, Vec, Global, Result, Ok, Err, IfOk, cond, drop, get_or, length}
use Rattle.std.proofs.Common.{map, replicate, take, unwrap_or}
use Rattle.std.proofs.Common.{refl, sym, ap, subst, ◌∙◌, arith, inl, inr}
use Rattle.std.specs.FinSet as set
use Rattle.std.specs.Ordering.{nat_cmp}
use Rattle.std.specs.List.{All, Contains}
use Rattle.std.proofs.lemmas.Bool.{cases_Bool, cases_lt, false≢true}
use Rattle.std.proofs.Math.Nat.{add-mul, mul-le-mul}
use Rattle.std.proofs.lemmas.List.{get_or_append_left, get_or-map, get_or_default, get_or_push, length-map}
use Rattle.std.proofs.lemmas.List.{length-take-le}
use Rattle.std.proofs.lemmas.List.{length_push, map-append, take-append-drop, take_more}
use Rattle.std.proofs.lemmas.List.Elements.{All-contains, Contains-get_or}
use Rattle.vet_base.specs.CriteriaSet.{has, Places}
use Rattle.vet_base.specs.declared.criteria_set.CriteriaSet.{CriteriaSet}
use Rattle.vet_base.specs.declared.limits.TheConstants.{MOST_CRITERIA as most}
use Rattle.vet_base.specs.Version.{VersionValue}
use Rattle.vet_base.proofs.ListLemmas.{all_alike}
use Rattle.vet_entries.specs.declared.step.Step.{Step}
use Rattle.vet_graph.specs.Chain.{Condemned}
use Rattle.vet_masks.specs.declared.classes.PackageClasses.{PackageClasses}
use Rattle.vet_masks.specs.declared.grown.Shared.{Shared}
use Rattle.vet_masks.specs.declared.index.Ends.{Ends}
use Rattle.vet_masks.specs.declared.index.Index.{Index}
use Rattle.vet_masks.specs.declared.rule.Rule.{Rule}
use Rattle.vet_masks.specs.Classes.{AreReached, IsFound, LeadToNone, bars_nothing, exempt_number, held_by, is_taken_by}
use Rattle.vet_masks.specs.Classes.{held_by_all, held_if_any, spent_by, takes_each}
use Rattle.vet_masks.specs.Exempt.{exempt_behind, exempt_versions, is_in, place_in, with_target}
use Rattle.vet_masks.specs.Growing.{IsShared, is_taken_now}
use Rattle.vet_masks.specs.Index.{IsIndex, IsNamed, Keeps, ends_of, no_ends, number_of}
use Rattle.vet_masks.specs.Masks.{IsReaching, Numbered, Open, bars_at, is_open, is_taken_at, no_step, numbered}
use Rattle.vet_masks.specs.Masks.{numbered_by, size, spent}
use Rattle.vet_masks.specs.Reached.{AreBarredAlike, AreTakenAlike}
use Rattle.vet_masks.specs.Rules.{AreEnough, rule_of, skips}
use Rattle.vet_masks.proofs.Classing.{numbered as exempt-numbered}
use Rattle.vet_masks.proofs.ExemptVersions.{exempt-append, exempt-onward}
use Rattle.vet_masks.proofs.Extended.{first-ends, first-steps, spent-before}
use Rattle.vet_masks.proofs.Extending.{reaches-onward}
use Rattle.vet_masks.proofs.Indexing.{ends-at, keeps-number, numbers_in, some-is}
use Rattle.vet_masks.proofs.Sizes.{size-most, spent-le}

-- ---- searches that take the same steps

-- what is open alike is reached alike
pub reaching-alike : (steps : List Numbered) (a b : Open) → ((c : ℕ) → All (λ t. a c t ≡ b c t) steps) → (n : ℕ)
    → n ≤ length steps → (held : List Places) → IsReaching steps a n held → IsReaching steps b n held
reaching-alike steps a b same n l held h = record {
  sound = λ c v e. (let k = h.sound c v e in (
    k.0,
    record {
      of_package = k.1.of_package;
      each_open = λ i d j. sym (All-contains (λ t. a c t ≡ b c t) steps _ (same c) (k.1.of_package i d j))
          ∙ k.1.each_open i d j;
      leads = k.1.leads;
      once = k.1.once;
    },
    k.2,
  ));
  done = λ c p j st o. h.done c p j st (same c p no_step (omega (arith, j, l)) ∙ o);
}

-- steps that are barred and taken alike are open alike
pub open-alike : (index : Index) (steps : List Step) (bar other : Condemned) (taken takes : Step → Bool)
    → AreBarredAlike steps bar other → AreTakenAlike steps taken takes → (c : ℕ)
    → All (λ t. is_open bar taken c t ≡ is_open other takes c t) (numbered_by index steps)
open-alike index steps bar other taken takes alike same c k d l =
    let numbers = numbers_in index in
    let low : k < length steps = omega (arith, l, length-map steps (numbered numbers)) in
    let t = get_or (numbered_by index steps) k d in
    let step : t.step ≡ get_or steps k no_step.step =
    ap (λ (u : Numbered). u.step) (get_or-map (numbered numbers) steps k no_step.step d low) in
    let bars : bar c t.step.target ≡ other c t.step.target = subst (λ (s : Step). bar c s.target ≡ other c s.target)
    (sym step) (alike k no_step.step low c) in
    let takes_it : taken t.step ≡ takes t.step = subst (λ (s : Step). taken s ≡ takes s) (sym step)
    (same k no_step.step low) in
    λ i. has c t.step.criteria && (not (bars i) && takes_it i)

-- the same of the index of steps
pub reaching-on : (index : Index) (steps : List Step) (bar other : Condemned) (taken takes : Step → Bool)
    → AreBarredAlike steps bar other → AreTakenAlike steps taken takes → (n : ℕ) → n ≤ length steps
    → (held : List Places) → IsReaching (numbered_by index steps) (is_open bar taken) n held
    → IsReaching (numbered_by index steps) (is_open other takes) n held
reaching-on index steps bar other taken takes alike same n l held h = reaching-alike (numbered_by index steps)
    (is_open bar taken) (is_open other takes) (open-alike index steps bar other taken takes alike same) n
    (omega (arith, l, length-map steps (numbered (numbers_in index)))) held h

-- where the bars of the one are those of the other, those of the other are those of the one
pub barred-back : (steps : List Step) (bar other : Condemned) → AreBarredAlike steps bar other
    → AreBarredAlike steps other bar
barred-back steps bar other h k d l c = sym (h k d l c)

pub taken-back : (steps : List Step) (taken takes : Step → Bool) → AreTakenAlike steps taken takes
    → AreTakenAlike steps takes taken
taken-back steps taken takes h k d l = sym (h k d l)

-- by no steps nothing is reached
pub reaches-nothing : (steps : List Numbered) (open_step : Open) → IsReaching steps open_step 0 []
reaches-nothing steps open_step = record {
  sound = λ c v e. absurd (false≢true (sym (set.contains-empty nat_cmp c) ∙ e));
  done = λ c p l. absurd (omega (arith, l));
}

-- empty sets bar nothing, and flags that are all false skip nothing
pub bars-none : (steps : List Step) (index : Index) (bars : List Places) (m : ℕ) → bars ≡ replicate m set.empty
    → AreBarredAlike steps bars_nothing (bars_at index bars)
bars-none steps index bars m is k d l c = sym (ap (λ bs. has c (get_or bs n set.empty)) is
    ∙ ap (has c) (all_alike set.empty m n) ∙ set.contains-empty nat_cmp c)
  where
    n : ℕ
    n = number_of (numbers_in index) (get_or steps k d).target

takes_it : (e : Bool) → not (e && false) ≡ true
takes_it true = refl
takes_it false = refl

pub takes-any : (steps : List Step) (index : Index) (flags : List Bool) (m : ℕ) → flags ≡ replicate m false
    → AreTakenAlike steps takes_each (is_taken_at index flags)
takes-any steps index flags m is k d l = sym (ap (λ fs. not (s.exempt && get_or fs n false)) is
    ∙ ap (λ b. not (s.exempt && b)) (all_alike false m n) ∙ takes_it s.exempt)
  where
    s : Step
    s = get_or steps k d

    n : ℕ
    n = number_of (numbers_in index) s.target

-- ---- what the first steps say of all

unfolds_not : (b x y : Bool) → b ≡ false → not (b && x) ≡ not (b && y)
unfolds_not b x y e = ap (λ q. not (q && x)) e ∙ sym (ap (λ q. not (q && y)) e)

module _ (steps : List Step) (condemned : Condemned) (p : PackageClasses) (s : Shared)
    (h : IsShared steps condemned p s) where
  abbrev front : List Step
  front = take s.first steps

  abbrev numbers : VersionValue → Option ℕ
  numbers = numbers_in s.index.now

  -- the number of a version among those with exempt steps, before and now
  abbrev was_exempt : VersionValue → Option ℕ
  was_exempt = exempt_number p.index p.exempt.numbers.items

  abbrev is_exempt : VersionValue → Option ℕ
  is_exempt = exempt_number s.index.now s.exempt.now.numbers.items

  was : IsFound front h.found.0 p
  was = h.found.1

  pub long-front : length front ≡ s.first
  long-front = length-take-le s.first steps h.first

  pub front-ends : p.index.ends.items ≡ take s.first s.index.now.ends.items
  front-ends = first-ends steps s.first p.index s.index.now was.index h.index h.keeps

  -- among the versions with exempt steps, one keeps its number
  exempt-kept : (t : Step) → Contains front t → t.exempt ≡ true → was_exempt t.target ≡ is_exempt t.target
  exempt-kept t k e =
      let n = exempt-numbered front h.found.0 p was t k e in
      let old = number_of (numbers_in p.index) t.target in
      let known = (All-contains (IsNamed (numbers_in p.index)) front t was.index.named k).target in
      let same : number_of numbers t.target ≡ old =
      keeps-number (numbers_in p.index) numbers h.keeps t.target known in
      let at : place_in old (exempt_versions (take s.first s.index.now.ends.items)) ≡ Some n.0 =
      ap (λ es. place_in old (exempt_versions es)) (sym front-ends) ∙ sym (was.exempt.numbers old) ∙ n.1 in
      n.1 ∙ sym (h.exempt.numbers (number_of numbers t.target)
      ∙ ap (λ m. place_in m (exempt_versions s.index.now.ends.items)) same
      ∙ exempt-onward old s.first s.index.now.ends.items n.0 at)

  -- so a search takes the first steps as it did
  taken-first : (rule : Rule) → AreTakenAlike front (is_taken_by was_exempt rule) (is_taken_now s rule)
  taken-first rule k d l =
      let t = get_or front k d in
      elim (cases_Bool t.exempt) [
        | inl e ↦ ap (λ o. not (t.exempt && skips rule o)) (exempt-kept t (Contains-get_or front k d l) e)
        | inr e ↦ unfolds_not t.exempt (skips rule (was_exempt t.target)) (skips rule (is_exempt t.target)) e
      ]

  barred-first : AreBarredAlike front h.found.0 condemned
  barred-first k d l c =
      let t = get_or front k d in
      let at = some-is (numbers_in p.index t.target) (was.index.named k d l).target in
      h.found.2 t.target at.0 c at.1

  barred-now : AreBarredAlike steps condemned (bars_at s.index.now s.condemned.now)
  barred-now k d l c =
      let t = get_or steps k d in
      let at = some-is (numbers t.target) (h.index.named k d l).target in
      sym (ap (λ n. has c (get_or s.condemned.now n set.empty)) (ap (λ o. unwrap_or o 0) at.1)
      ∙ h.judged.judged t.target at.0 c at.1)

  taken-now : (rule : Rule) (flags : List Bool) → flags ≡ map (skips rule) s.exempt.now.numbers.items
      → AreTakenAlike steps (is_taken_now s rule) (is_taken_at s.index.now flags)
  taken-now rule flags is k d l =
      let t = get_or steps k d in
      let n = number_of numbers t.target in
      let at = some-is (numbers t.target) (h.index.named k d l).target in
      let low : n < length s.exempt.now.numbers.items = omega (
        arith,
        h.versions,
        h.index.numbering.below t.target at.0 at.1,
        ap (λ o. unwrap_or o 0) at.1,
      ) in
      ap (λ b. not (t.exempt && b)) (sym (ap (λ fs. get_or fs n false) is
      ∙ get_or-map (skips rule) s.exempt.now.numbers.items n None false low))

  -- a search goes on from what it reached by the first steps
  pub goes-on : (place : ℕ) → place < length p.clean.items → (flags : List Bool)
      → flags ≡ map (skips (rule_of place)) s.exempt.now.numbers.items
      → IsReaching (numbered_by s.index.now steps)
      (is_open (bars_at s.index.now s.condemned.now) (is_taken_at s.index.now flags)) s.first
      (held_by p.clean.items place)
  goes-on place l flags is =
      let rule = rule_of place in
      let held = held_by p.clean.items place in
      reaching-on s.index.now steps condemned (bars_at s.index.now s.condemned.now) (is_taken_now s rule)
      (is_taken_at s.index.now flags) barred-now (taken-now rule flags is) s.first h.first held
      (subst (λ n. IsReaching (numbered_by s.index.now steps) (is_open condemned (is_taken_now s rule)) n held)
      long-front
      (reaches-onward front steps (first-steps steps s.first h.first) (numbers_in p.index) numbers h.keeps
      was.index.named h.found.0 condemned barred-first (is_taken_by was_exempt rule) (is_taken_now s rule)
      (taken-first rule) held (was.clean place l).reaches))

  -- and what it reaches by all of them is what is wanted
  pub comes-to : (rule : Rule) (flags : List Bool) → flags ≡ map (skips rule) s.exempt.now.numbers.items
      → (held : List Places) → length held ≡ length s.index.now.after.items
      → IsReaching (numbered_by s.index.now steps)
      (is_open (bars_at s.index.now s.condemned.now) (is_taken_at s.index.now flags)) (length steps) held
      → AreReached steps s.index.now condemned (is_taken_now s rule) held
  comes-to rule flags is held long r = record {
    count = long;
    reaches = reaching-on s.index.now steps (bars_at s.index.now s.condemned.now) condemned
        (is_taken_at s.index.now flags) (is_taken_now s rule)
        (barred-back steps condemned (bars_at s.index.now s.condemned.now) barred-now)
        (taken-back steps (is_taken_now s rule) (is_taken_at s.index.now flags) (taken-now rule flags is))
        (length steps) (omega arith) held r;
  }

  -- the sets by version of a search are no more than the versions
  pub clean-short : (place : ℕ) → place < length p.clean.items
      → length (held_by p.clean.items place) ≤ length s.index.now.after.items
  clean-short place l = omega (arith, (was.clean place l).count, h.more)

  -- a search through any version goes on alike
  pub any-goes_on : (held : List Places) → AreReached front p.index bars_nothing takes_each held
      → IsReaching (numbered_by s.index.now steps) (is_open bars_nothing takes_each) s.first held
  any-goes_on held r =
      subst (λ n. IsReaching (numbered_by s.index.now steps) (is_open bars_nothing takes_each) n held) long-front
      (reaches-onward front steps (first-steps steps s.first h.first) (numbers_in p.index) numbers h.keeps
      was.index.named bars_nothing bars_nothing (λ k d l c. refl) takes_each takes_each (λ k d l. refl) held r.reaches)

  -- where no step leads to a condemned version
  pub none-condemned : All (λ (e : Ends). get_or s.condemned.now e.target set.empty ≡ set.empty) s.index.now.ends.items
      → LeadToNone condemned steps
  none-condemned none k d l c =
      let t = get_or steps k d in
      let at = some-is (numbers t.target) (h.index.named k d l).target in
      let low : k < length s.index.now.ends.items =
      omega (arith, l, ap length h.index.ends, length-map steps (ends_of numbers)) in
      let is : (get_or s.index.now.ends.items k no_ends).target ≡ at.0 =
      ap (λ (e : Ends). e.target) (ends-at steps s.index.now h.index k l no_ends)
      ∙ ap (λ (u : Step). number_of numbers u.target) (same-step k d l) ∙ ap (λ o. unwrap_or o 0) at.1 in
      sym (h.judged.judged t.target at.0 c at.1)
      ∙ ap (λ n. has c (get_or s.condemned.now n set.empty)) (sym is)
      ∙ ap (has c) (none k no_ends low) ∙ set.contains-empty nat_cmp c
    where
      same-step : (k : ℕ) (d : Step) → k < length steps → get_or steps k no_step.step ≡ get_or steps k d
      same-step k d l = get_or_default steps k no_step.step d l

-- ---- searches of a list

-- where some searches are enough, more are
pub enough-more : (count a b : ℕ) → a ≤ b → AreEnough count a → AreEnough count b
enough-more count a b l h = record {
  some = omega (arith, l, h.some);
  each = λ n k. (let at = h.each n k in (at.0, omega (arith, l, at.1), at.2));
  apart = λ m n k j d. (let at = h.apart m n k j d in (at.0, omega (arith, l, at.1), at.2, at.3));
}

-- what a search behind the others reached, and what the others did
pub held-last : (all : List (Vec CriteriaSet Global)) (x : Vec CriteriaSet Global)
    → held_by (all ++ x ∷ []) (length all) ≡ x.items
held-last all x = get_or-map (λ v. v.items) (all ++ x ∷ []) (length all) x [] (omega (arith, length_push all x))
    ∙ ap (λ v. v.items) (get_or_push all x x (length all) refl)

pub held-before : (all : List (Vec CriteriaSet Global)) (x : Vec CriteriaSet Global) (i : ℕ) → i < length all
    → held_by (all ++ x ∷ []) i ≡ held_by all i
held-before all x i l = get_or-map (λ v. v.items) (all ++ x ∷ []) i x [] (omega (arith, l, length_push all x))
    ∙ ap (λ v. v.items) (get_or_append_left all (x ∷ []) x i l)
    ∙ sym (get_or-map (λ v. v.items) all i x [] l)

-- so what holds of the others and of the last holds of each
pub clean-more : (P : ℕ → List Places → Type 0) (all : List (Vec CriteriaSet Global)) (x : Vec CriteriaSet Global)
    → ((i : ℕ) → i < length all → P i (held_by all i)) → P (length all) x.items
    → (i : ℕ) → i < length (all ++ x ∷ []) → P i (held_by (all ++ x ∷ []) i)
clean-more P all x h last i l = elim (cases_lt i (length all)) [
  | inl low ↦ subst (P i) (sym (held-before all x i low)) (h i low)
  | inr high ↦ (let same : i ≡ length all = omega (arith, high, l, length_push all x) in
      subst (λ k. P k (held_by (all ++ x ∷ []) k)) (sym same) (subst (P (length all)) (sym (held-last all x)) last))
]

-- steps to versions that have no exempt one yet only add to those that have
with_more : (b : Bool) (versions : List ℕ) (n : ℕ) → length versions ≤ length (cond b (versions ++ n ∷ []) versions)
with_more true versions n = omega (arith, length_push versions n)
with_more false versions n = omega arith

exempt-grow : (versions : List ℕ) (ends : List Ends) → length versions ≤ length (exempt_behind versions ends)
unfolding exempt_behind
exempt-grow versions [] = omega arith
exempt-grow versions (e ∷ rest) = omega (
  arith,
  with_more (e.exempt && not (is_in e.target versions)) versions e.target,
  exempt-grow (with_target versions e) rest,
)

pub exempt-more : (first : ℕ) (ends : List Ends)
    → length (exempt_versions (take first ends)) ≤ length (exempt_versions ends)
exempt-more first ends = omega (
  arith,
  ap (λ es. length (exempt_versions es)) (take-append-drop first ends),
  ap length (exempt-append [] (take first ends) (drop first ends)),
  exempt-grow (exempt_versions (take first ends)) (drop first ends),
)

-- ---- what is spent

pub spent_by-none : (u : ℕ) (ends : List Ends) → spent_by u [] ends ≡ 0
unfolding spent_by
spent_by-none u ends = refl

pub spent_by-append : (u : ℕ) (xs ys : List (List Places)) (ends : List Ends)
    → spent_by u (xs ++ ys) ends ≡ spent_by u xs ends + spent_by u ys ends
unfolding spent_by
spent_by-append u [] ys ends = omega arith
spent_by-append u (x ∷ xs) ys ends = omega (arith, spent_by-append u xs ys ends)

pub spent_by-one : (u : ℕ) (held : List Places) (ends : List Ends)
    → spent_by u (held ∷ []) ends ≡ spent u held ends
unfolding spent_by
spent_by-one u held ends = omega arith

-- one search behind the others
pub spent-last : (u : ℕ) (all : List (Vec CriteriaSet Global)) (x : Vec CriteriaSet Global) (ends : List Ends)
    → spent_by u (held_by_all (all ++ x ∷ [])) ends ≡ spent_by u (held_by_all all) ends + spent_by u (x.items ∷ []) ends
spent-last u all x ends =
    ap (λ hs. spent_by u hs ends) (map-append (λ (v : Vec CriteriaSet Global). v.items) all (x ∷ []))
    ∙ spent_by-append u (held_by_all all) (x.items ∷ []) ends

pub spent-next : (u : ℕ) (all : List (Vec CriteriaSet Global)) (d : Vec CriteriaSet Global) (p : ℕ) (ends : List Ends)
    → p < length all → spent_by u (held_by_all (take (p + 1) all)) ends
    ≡ spent_by u (held_by_all (take p all)) ends + spent_by u (held_by all p ∷ []) ends
spent-next u all d p ends l = ap (λ xs. spent_by u (held_by_all xs) ends) (take_more all p d l)
    ∙ spent-last u (take p all) (get_or all p d) ends
    ∙ ap (λ h. spent_by u (held_by_all (take p all)) ends + spent_by u (h ∷ []) ends)
    (sym (get_or-map (λ v. v.items) all p d [] l))

pub le-next : (a b : ℕ) → a ≤ b → a ≤ b + 1
le-next a b l = omega (arith, l)

-- a search that goes on, among others
pub counts-on : (before was now first next one all more here : ℕ) → was + first ≤ before + all → now + one ≤ was + here
    → next ≡ first + one → more ≡ all + here → now + next ≤ before + more
counts-on before was now first next one all more here h k e f = omega (arith, h, k, e, f)

-- and one that begins
pub counts-begin : (before was now first next all more here : ℕ) → was + first ≤ before + all → now ≤ was + here
    → next ≡ first → more ≡ all + here → now + next ≤ before + more
counts-begin before was now first next all more here h k e f = omega (arith, h, k, e, f)

-- what the searches spent by the first steps, they spent at these
pub spent_by-before : (steps : List Step) (n : ℕ) (old new : Index) (helds : List (List Places))
    → IsIndex (take n steps) old → IsIndex steps new → Keeps (numbers_in old) (numbers_in new)
    → spent_by (size most old.used) helds old.ends.items ≤ spent_by (size most new.used) helds (take n new.ends.items)
unfolding spent_by
spent_by-before steps n old new [] h k keeps = omega arith
spent_by-before steps n old new (x ∷ xs) h k keeps =
    omega (arith, spent-before steps n old new x h k keeps, spent_by-before steps n old new xs h k keeps)

pub times-next : (n x : ℕ) → (n + 1) * x ≡ n * x + x
times-next n x = omega (arith, add-mul n 1 x)

-- each search spends at most as many looks a step as there are criteria
pub spent_by-most : (u : ℕ) (helds : List (List Places)) (ends : List Ends) → u ≤ most
    → spent_by u helds ends ≤ length helds * (most * length ends)
unfolding spent_by
spent_by-most u [] ends l = omega arith
spent_by-most u (x ∷ xs) ends l = omega (
  arith,
  spent-le most u x ends l (λ i. size-most most _),
  spent_by-most u xs ends l,
  times-next (length xs) (most * length ends),
)

-- what was found took few looks
pub found-few : (steps : List Step) (condemned : Condemned) (p : PackageClasses) → IsFound steps condemned p
    → p.looks.count ≤ length steps + 131 * (most * length steps)
found-few steps condemned p f =
    let u = size most p.index.used in
    let ends = p.index.ends.items in
    let any = held_if_any p.any in
    let clean = held_by_all p.clean.items in
    let long : length ends ≡ length steps = ap length f.index.ends ∙ length-map steps (ends_of (numbers_in p.index)) in
    let one = any-one p.any in
    let all : length any + length clean ≤ 131 = omega (
      arith,
      one,
      f.below,
      length-map p.clean.items (λ (v : Vec CriteriaSet Global). v.items),
    ) in
    rw (← long) (omega (
      arith,
      f.looks,
      long,
      spent_by-append u any clean ends,
      spent_by-most u any ends (size-most most p.index.used),
      spent_by-most u clean ends (size-most most p.index.used),
      mul-add (length any) (length clean) (most * length ends),
      mul-le-mul all (same-le (most * length ends)),
    ))
  where
    any-one : (o : Option (Vec CriteriaSet Global)) → length (held_if_any o) ≤ 1
    any-one None = omega arith
    any-one (Some l) = omega arith

    same-le : (x : ℕ) → x ≤ x
    same-le x = omega arith

    mul-add : (a b x : ℕ) → (a + b) * x ≡ a * x + b * x
    mul-add a b x = add-mul a b x

-- what the searches spent, one call after the other: n looks were made by the first steps, as many as they are
pub looks-found : (held index clean any n steps any_was clean_was any_first clean_first any_now clean_now was now : ℕ)
    → held ≤ n + was → was ≡ any_was + clean_was → any_was ≤ any_first → clean_was ≤ clean_first
    → index + n ≡ held + steps → clean + clean_first ≤ index + clean_now → any + any_first ≤ clean + any_now
    → now ≡ any_now + clean_now → any ≤ steps + now
looks-found held index clean any n steps any_was clean_was any_first clean_first any_now clean_now was now
    a b c d e f g h = omega (arith, a, b, c, d, e, f, g, h)

-- ---- two clauses of one result

pub both-ok : {T E : Type 0} (r : Result T E) (P Q R : T → Type 0) → ((x : T) → P x → Q x → R x) → IfOk r P → IfOk r Q
    → IfOk r R
both-ok (Ok x) P Q R f p q = f x p q
both-ok (Err e) P Q R f p q = tt
