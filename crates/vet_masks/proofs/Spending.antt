-- How many looks the searches of a package take.
use Rattle.std.proofs.Common.{◌≡◌, ◌+◌, ◌*◌, ◌<◌, ◌≤◌, ℕ, Bool, List, [], ◌∷◌, Option, Some, None, Vec, Global, get_or}
use Rattle.std.proofs.Common.{length, ap, subst, ◌∙◌, arith}
use Rattle.std.specs.FinSet as set
use Rattle.std.specs.List.{All}
use Rattle.std.proofs.Math.Nat.{mul-add, mul-le-mul, mul_comm}
use Rattle.std.proofs.lemmas.List.{get_or_default, length-append, length-map}
use Rattle.std.proofs.lemmas.List.Elements.{All-append, All-cons, All-head, All-nil, All-tail}
use Rattle.vet_base.specs.CriteriaSet.{Places}
use Rattle.vet_base.specs.declared.criteria_set.CriteriaSet.{CriteriaSet}
use Rattle.vet_base.specs.declared.limits.TheConstants.{MOST_CRITERIA as most}
use Rattle.vet_entries.specs.declared.step.Step.{Step}
use Rattle.vet_graph.specs.Chain.{Condemned}
use Rattle.vet_masks.specs.declared.classes.PackageClasses.{PackageClasses}
use Rattle.vet_masks.specs.declared.index.Ends.{Ends}
use Rattle.vet_masks.specs.declared.index.Index.{Index}
use Rattle.vet_masks.specs.Classes.{AreClasses, AreReached, IsAny, IsFound, all_held, bars_nothing, exempt_number}
use Rattle.vet_masks.specs.Classes.{held_by, held_by_all, held_if_any, is_taken_by, spent_by, takes_each}
use Rattle.vet_masks.specs.Index.{IsIndex, ends_of}
use Rattle.vet_masks.specs.Masks.{size}
use Rattle.vet_masks.specs.Reached.{used_below}
use Rattle.vet_masks.specs.Rules.{rule_of}
use Rattle.vet_masks.proofs.Growing.{times-next}
use Rattle.vet_masks.proofs.Indexing.{numbers_in}
use Rattle.vet_masks.proofs.Sizes.{size-le, spent-le}
use Rattle.vet_masks.proofs.Used.{reached-used, size-used}

-- no version has more criteria than k
abbrev pub IsWithin : ℕ → List Places → Type 0
IsWithin k held = (i : ℕ) → size most (get_or held i set.empty) ≤ k

-- then each search spends at most k looks a step
spent_by-within : (k : ℕ) (helds : List (List Places)) (ends : List Ends) → All (IsWithin k) helds
    → spent_by k helds ends ≤ length helds * (k * length ends)
unfolding spent_by
spent_by-within k [] ends h = omega arith
spent_by-within k (x ∷ xs) ends h = omega (
  arith,
  spent-le k k x ends (omega arith) (All-head (IsWithin k) x xs h),
  spent_by-within k xs ends (All-tail (IsWithin k) x xs h),
  times-next (length xs) (k * length ends),
)

-- what a search reaches, some step has
reached-within : (steps : List Step) (index : Index) → IsIndex steps index → (bar : Condemned)
    (taken : Step → Bool) (held : List Places) → AreReached steps index bar taken held
    → IsWithin (size most index.used) held
reached-within steps index h bar taken held r i = size-le most (get_or held i set.empty) index.used
    (λ c at. h.used c ∙ reached-used (numbers_in index) steps bar taken held r.reaches.sound c i at)

any-within : (steps : List Step) (condemned : Condemned) (index : Index) → IsIndex steps index
    → (any : Option (Vec CriteriaSet Global)) → IsAny steps condemned index any
    → All (IsWithin (size most index.used)) (held_if_any any)
any-within steps condemned index h None r = All-nil (IsWithin (size most index.used))
any-within steps condemned index h (Some held) r = All-cons (IsWithin (size most index.used)) held.items []
    (reached-within steps index h bars_nothing takes_each held.items r) (All-nil (IsWithin (size most index.used)))

clean-within : (steps : List Step) (condemned : Condemned) (p : PackageClasses) → IsFound steps condemned p
    → All (IsWithin (size most p.index.used)) (held_by_all p.clean.items)
clean-within steps condemned p f k d l =
    let clean = p.clean.items in
    let low : k < length clean = omega (arith, l, length-map clean (λ (v : Vec CriteriaSet Global). v.items)) in
    subst (IsWithin (size most p.index.used)) (get_or_default (held_by_all clean) k [] d l)
    (reached-within steps p.index f.index condemned
    (is_taken_by (exempt_number p.index p.exempt.numbers.items) (rule_of k)) (held_by clean k) (f.clean k low))

looks_few : (s n m k : ℕ) → 0 < n → n ≤ m → s + n * (k * s) ≤ m * (s * (k + 1))
looks_few s n m k some few =
    let each : n * (s * (k + 1)) ≡ n * (s * k) + n * s =
    ap (λ x. n * x) (mul-add s k 1 ∙ (let one : s * k + s * 1 ≡ s * k + s = omega arith in one))
    ∙ mul-add n (s * k) s in
    let same : n * (k * s) ≡ n * (s * k) = ap (λ x. n * x) (mul_comm k s) in
    let first : 1 * s ≤ n * s = mul-le-mul some (omega arith) in
    let all : n * (s * (k + 1)) ≤ m * (s * (k + 1)) = mul-le-mul few (omega arith) in
    omega (arith, each, same, first, all)

pub looks-few : (steps : List Step) (condemned : Condemned) (p : PackageClasses) → AreClasses steps condemned p
    → p.looks.count ≤ (p.exempt.count + 3) * (length steps * (used_below most steps + 1))
looks-few steps condemned p h =
    let f = h.found in
    let u = size most p.index.used in
    let ends = p.index.ends.items in
    let any = held_if_any p.any in
    let clean = held_by_all p.clean.items in
    let long : length ends ≡ length steps = ap length f.index.ends ∙ length-map steps (ends_of (numbers_in p.index)) in
    let each : All (IsWithin u) (all_held p) = All-append (IsWithin u) any clean
    (any-within steps condemned p.index f.index p.any f.any) (clean-within steps condemned p f) in
    let spends = rw long at (spent_by-within u (all_held p) ends each) in
    let many = length-append any clean in
    let searches = length-map p.clean.items (λ (v : Vec CriteriaSet Global). v.items) in
    rw (← size-used most p.index.used steps f.index.used) (omega (
      arith,
      f.looks,
      spends,
      looks_few (length steps) (length (all_held p)) (p.exempt.count + 3) u
          (omega (arith, many, searches, h.enough.some))
          (omega (arith, many, searches, any-one p.any, f.few)),
    ))
  where
    any-one : (o : Option (Vec CriteriaSet Global)) → length (held_if_any o) ≤ 1
    any-one None = omega arith
    any-one (Some l) = omega arith
