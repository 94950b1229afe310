-- How a search grows what it reached, and what it has reached in the end.
use Rattle.std.proofs.Common.{◌≡◌, ◌≢◌, ℕ, ◌+◌, ◌<◌, ◌≤◌, Bool, true, false, not, ◌&&◌, List, [], ◌∷◌, ◌++◌, Option}
use Rattle.std.proofs.Common.{Some, None, map, length, take, get_or, refl, sym, ◌∙◌, ap, inl, inr, ◌↔◌, arith}
use Rattle.std.proofs.Common.{below_more, zero, suc}
use Rattle.std.specs.List.{All, AllPairs, Contains}
use Rattle.std.specs.Cmp.{decided}
use Rattle.std.proofs.lemmas.List.Elements.{All-nil, All-cons, All-head, All-tail, All-map, All-push, All-weaker}
use Rattle.std.proofs.lemmas.List.Elements.{All-contains, Contains-append_left, Contains-push}
use Rattle.std.proofs.lemmas.List.Elements.{Contains-push_cases, Contains-get_or}
use Rattle.std.proofs.lemmas.List.Quantifiers.{all_pairs_push}
use Rattle.std.proofs.lemmas.List.Kept.{AllPairs-cons}
use Rattle.std.proofs.lemmas.List.{take-take, length-take, get_or-take, length-map, get_or-map, get_or_default}
use Rattle.std.proofs.lemmas.List.{map-append}
use Rattle.std.proofs.lemmas.Map.Made.{IsDistinct-from_AllPairs, length-le_from_is_member, is_member-Decides}
use Rattle.std.proofs.lemmas.Bool.{and_parts, and_from, not-true, not_from_false}
use Rattle.vet_base.specs.CriteriaSet.{has}
use Rattle.vet_base.specs.Version.{VersionValue}
use Rattle.vet_base.specs.VersionOrder.{version_eq}
use Rattle.vet_base.specs.VersionOrderLaws.{version_eq-Decides}
use Rattle.vet_graph.specs.declared.guarded.GuardedStep.{GuardedStep}
use Rattle.vet_graph.specs.declared.search.Terms.{Terms}
use Rattle.vet_graph.specs.Chain.{Leads}
use Rattle.vet_demand.proofs.Lists.{Contains-kept}
use Rattle.vet_graph.specs.ListLaws.{Contains-map}
use Rattle.vet_base.proofs.ItemLemmas.{pairs_head, pairs_tail}
use Rattle.vet_base.proofs.ListLemmas.{Contains-cons_cases, Contains-here, Contains-later}
use Rattle.vet_graph.specs.Reaching.{IsDone, IsOpenChain, IsSound, LeadsFrom, Stands}
use Rattle.vet_graph.specs.Search.{may_take, is_barred, is_open, IsReached, steps_in, versions_at, version_at}

-- a walk goes on by one step
Leads-push : (at : Option VersionValue) (chain : List GuardedStep) (v : VersionValue) (g : GuardedStep)
    → Leads at (steps_in chain) v → g.step.origin ≡ Some v → Leads at (steps_in (chain ++ g ∷ [])) g.step.target
Leads-push at [] v g l o = (o ∙ sym l, refl)
Leads-push at (t ∷ chain) v g l o = (l.0, Leads-push (Some t.step.target) chain v g l.1 o)

-- no more versions, none twice, than there are in a list that has them all
length-le_from_distinct : (xs ys : List VersionValue) → AllPairs (λ v w. v ≢ w) xs → All (Contains ys) xs
    → length xs ≤ length ys
length-le_from_distinct xs ys once among =
    length-le_from_is_member (decided version_eq version_eq-Decides) xs ys
    (IsDistinct-from_AllPairs version_eq-Decides xs once)
    (λ q m. (is_member-Decides version_eq-Decides ys q).1
    (All-contains (Contains ys) xs q among ((is_member-Decides version_eq-Decides xs q).0 m)))

pub AllPairs-mapped : {X Y : Type 0} (R : Y → Y → Type 0) (f : X → Y) (xs : List X) → AllPairs (λ x y. R (f x) (f y)) xs
    → AllPairs R (map f xs)
AllPairs-mapped R f [] h = λ i j d l m. absurd (omega arith)
AllPairs-mapped R f (x ∷ xs) h = AllPairs-cons R (f x) (map f xs)
    (All-map (R (f x)) f xs (pairs_head (λ a b. R (f a) (f b)) x xs h))
    (AllPairs-mapped R f xs (pairs_tail (λ a b. R (f a) (f b)) x xs h))

module _ (steps : List GuardedStep) (open_step : GuardedStep → Bool) where
  -- a chain goes on by an open step to a version that isn't on it
  pub IsOpenChain-push : (chain : List GuardedStep) (v : VersionValue) (s : GuardedStep)
      → IsOpenChain steps open_step v chain → Contains steps s → open_step s ≡ true → s.step.origin ≡ Some v
      → All (λ t. t.step.target ≢ s.step.target) chain → IsOpenChain steps open_step s.step.target (chain ++ s ∷ [])
  IsOpenChain-push chain v s h c e o n = record {
    of_package = All-push (Contains steps) chain s h.of_package c;
    each_open = All-push (λ t. open_step t ≡ true) chain s h.each_open e;
    leads = Leads-push None chain v s h.leads o;
    once = all_pairs_push (λ t u. t.step.target ≢ u.step.target) chain s h.once (λ k d l. n k d l);
  }

  -- a chain of one step from nothing
  pub IsOpenChain-one : (s : GuardedStep) → Contains steps s → open_step s ≡ true → s.step.origin ≡ None
      → IsOpenChain steps open_step s.step.target (s ∷ [])
  IsOpenChain-one s c e o = record {
    of_package = All-cons (Contains steps) s [] c (All-nil _);
    each_open = All-cons (λ t. open_step t ≡ true) s [] e (All-nil _);
    leads = (o, refl);
    once = λ i j d l m. absurd (omega arith);
  }

  -- the new version's chain
  new_chain : (reached : List VersionValue) (at : Option VersionValue) (s : GuardedStep)
      → IsSound steps open_step reached → Contains steps s → open_step s ≡ true → s.step.origin ≡ at → Stands reached at
      → (Contains reached s.step.target → ⊥) → (chain : List GuardedStep)
      × IsOpenChain steps open_step s.step.target chain
      × All (λ t. Contains (reached ++ s.step.target ∷ []) t.step.target) chain
  new_chain reached None s h c e o st n = (
    s ∷ [],
    IsOpenChain-one s c e o,
    All-cons (λ t. Contains (reached ++ s.step.target ∷ []) t.step.target) s []
        (Contains-push reached s.step.target) (All-nil _),
  )
  new_chain reached (Some v) s h c e o st n =
      let old = h.chains v st in (
        old.0 ++ s ∷ [],
        IsOpenChain-push old.0 v s old.1 c e o
            (All-weaker (λ t. Contains reached t.step.target) (λ t. t.step.target ≢ s.step.target)
            (λ t w q. n (rw q at w)) old.0 old.2),
        All-push (λ t. Contains (reached ++ s.step.target ∷ []) t.step.target) old.0 s
            (All-weaker (λ t. Contains reached t.step.target)
            (λ t. Contains (reached ++ s.step.target ∷ []) t.step.target)
            (λ t w. Contains-append_left reached _ t.step.target w) old.0 old.2)
            (Contains-push reached s.step.target),
      )

  -- reaching one version more
  pub IsSound-push : (reached : List VersionValue) (at : Option VersionValue) (s : GuardedStep)
      → IsSound steps open_step reached → Contains steps s → open_step s ≡ true → s.step.origin ≡ at → Stands reached at
      → (Contains reached s.step.target → ⊥) → IsSound steps open_step (reached ++ s.step.target ∷ [])
  IsSound-push reached at s h c e o st n = record {
    chains = λ v w. elim (Contains-push_cases reached s.step.target v w) [
      | inl old ↦ let k =
          h.chains v old in (
            k.0,
            k.1,
            All-weaker (λ t. Contains reached t.step.target)
                (λ t. Contains (reached ++ s.step.target ∷ []) t.step.target)
                (λ t q. Contains-append_left reached _ t.step.target q) k.0 k.2,
          )
      | inr same ↦ rw (← same) (new_chain reached at s h c e o st n)
    ];
    once = all_pairs_push (λ v w. v ≢ w) reached s.step.target h.once
        (λ k d l q. let here : Contains reached (get_or reached k d) = Contains-get_or reached k d l in n
        (rw q at here));
    of_steps = All-push (Contains (map (λ t. t.step.target) steps)) reached s.step.target h.of_steps
        (Contains-map (λ t. t.step.target) steps s c);
  }

  pub IsSound-nil : IsSound steps open_step []
  IsSound-nil = record {
    chains = λ v w. absurd (omega (arith, w.1));
    once = λ i j d l m. absurd (omega arith);
    of_steps = All-nil _;
  }

  -- where each open step from what was reached leads into it, each walk of open steps ends in it
  pub walk_ends_reached : (reached : List VersionValue)
      → ((at : Option VersionValue) → Stands reached at → All (LeadsFrom open_step reached at) steps)
      → (at : Option VersionValue) (chain : List GuardedStep) (v : VersionValue) → Stands reached at
      → Leads at (steps_in chain) v → All (Contains steps) chain → All (λ s. open_step s ≡ true) chain
      → Stands reached (Some v)
  walk_ends_reached reached closed at [] v st l c e = rw l at st
  walk_ends_reached reached closed at (s ∷ chain) v st l c e =
      walk_ends_reached reached closed (Some s.step.target) chain v
      (All-contains (LeadsFrom open_step reached at) steps s (closed at st) (All-head (Contains steps) s chain c)
      (All-head (λ t. open_step t ≡ true) s chain e) l.0)
      l.1 (All-tail (Contains steps) s chain c) (All-tail (λ t. open_step t ≡ true) s chain e)

  -- there are no more versions than steps
  pub length-le_from_IsSound : (reached : List VersionValue) → IsSound steps open_step reached
      → length reached ≤ length steps
  length-le_from_IsSound reached h =
      rw length-map at (length-le_from_distinct reached (map (λ s. s.step.target) steps) h.once h.of_steps)

-- what is open is for the criterion, not barred and not skipped
pub IsReached-from_open : (steps : List GuardedStep) (terms : Terms) (v : VersionValue) (chain : List GuardedStep)
    → IsOpenChain steps (is_open terms) v chain → IsReached steps terms v
IsReached-from_open steps terms v chain h =
    let parts : (s : GuardedStep) → is_open terms s ≡ true → (has terms.place s.step.criteria ≡ true)
    × (is_barred terms s ≡ false) × (may_take terms.skip s.step ≡ true) =
    λ s e. (let a : (has terms.place s.step.criteria ≡ true)
    × ((not (is_barred terms s) && may_take terms.skip s.step) ≡ true) = and_parts _ _ e in
    let b : (not (is_barred terms s) ≡ true) × (may_take terms.skip s.step ≡ true) = and_parts _ _ a.1 in
    (a.0, not-true _ b.0, b.1)) in (
      chain,
      h.of_package,
      record {
        of_package = All-map (Contains (steps_in steps))
            (λ s. s.step) chain (All-weaker (Contains steps) (λ s. Contains (steps_in steps) s.step)
            (λ s. Contains-map (λ t. t.step) steps s) chain h.of_package);
        for_criterion = All-map (λ s. has terms.place s.criteria ≡ true)
            (λ s. s.step) chain (All-weaker (λ s. is_open terms s ≡ true) (λ s. has terms.place s.step.criteria ≡ true)
            (λ s e. (parts s e).0) chain h.each_open);
        leads = h.leads;
        once = AllPairs-mapped (λ s t. s.target ≢ t.target) (λ s. s.step) chain h.once;
      },
      All-weaker (λ s. is_open terms s ≡ true) (λ s. is_barred terms s ≡ false)
          (λ s e. (parts s e).1) chain h.each_open,
      All-weaker (λ s. is_open terms s ≡ true) (λ s. may_take terms.skip s.step ≡ true)
          (λ s e. (parts s e).2) chain h.each_open,
    )

-- what holds of a step holds of the guarded step
pub All-unmapped : {X Y : Type 0} (P : Y → Type 0) (f : X → Y) (xs : List X) → All P (map f xs) → All (λ x. P (f x)) xs
All-unmapped P f [] h = All-nil _
All-unmapped P f (x ∷ xs) h = All-cons (λ y. P (f y)) x xs (All-head P (f x) (map f xs) h)
    (All-unmapped P f xs (All-tail P (f x) (map f xs) h))

All-both : {X : Type 0} (p q r : X → Bool) (xs : List X) → All (λ x. p x ≡ true) xs → All (λ x. q x ≡ false) xs
    → All (λ x. r x ≡ true) xs → All (λ x. (p x && (not (q x) && r x)) ≡ true) xs
All-both p q r xs a b c k d l = and_from _ _ (a k d l) (and_from _ _ (not_from_false _ (b k d l)) (c k d l))

-- a search that is closed has reached exactly the versions to which a chain leads
pub reached-iff : (steps : List GuardedStep) (terms : Terms) (reached : List VersionValue)
    → IsSound steps (is_open terms) reached
    → ((at : Option VersionValue) → Stands reached at → All (LeadsFrom (is_open terms) reached at) steps)
    → (v : VersionValue) → Contains reached v ↔ IsReached steps terms v
reached-iff steps terms reached sound closed v = (
  λ w. (let k = sound.chains v w in IsReached-from_open steps terms v k.0 k.1),
  λ r. walk_ends_reached steps (is_open terms) reached closed None r.0 v tt r.2.leads r.1
      (All-both (λ g. has terms.place g.step.criteria) (is_barred terms) (λ g. may_take terms.skip g.step) r.0
      (All-unmapped (λ s. has terms.place s.criteria ≡ true) (λ g. g.step) r.0 r.2.for_criterion) r.3 r.4),
)

-- ---- what stays while a search goes on

take-map : {X Y : Type 0} (f : X → Y) (n : ℕ) (xs : List X) → take n (map f xs) ≡ map f (take n xs)
take-map f zero xs = refl
take-map f (suc n) [] = refl
take-map f (suc n) (x ∷ xs) = ap (λ l. f x ∷ l) (take-map f n xs)

-- the versions at places that stay, stay
pub versions-kept : (steps : List GuardedStep) (old new : List ℕ) → take (length old) new ≡ old
    → take (length (versions_at steps old)) (versions_at steps new) ≡ versions_at steps old
versions-kept steps old new kept = rw length-map
    (take-map (version_at steps) (length old) new ∙ ap (versions_at steps) kept)

pub LeadsFrom-kept : (open_step : GuardedStep → Bool) (old new : List VersionValue) (at : Option VersionValue)
    (s : GuardedStep) → take (length old) new ≡ old → LeadsFrom open_step old at s → LeadsFrom open_step new at s
LeadsFrom-kept open_step old new at s kept h e o = Contains-kept old new s.step.target kept (h e o)

-- what begins with the middle list begins with the first
pub take-kept : {X : Type 0} (first middle last : List X) → take (length first) middle ≡ first
    → take (length middle) last ≡ middle → take (length first) last ≡ first
take-kept first middle last a b =
    let short : length first ≤ length middle = omega (arith, length-take (length first) middle, ap length a) in
    sym (take-take (length first) (length middle) last short) ∙ ap (take (length first)) b ∙ a

-- a step leads into what was reached later, at each place
All-LeadsFrom-kept : (open_step : GuardedStep → Bool) (old new : List VersionValue) (at : Option VersionValue)
    (steps : List GuardedStep) → take (length old) new ≡ old → All (LeadsFrom open_step old at) steps
    → All (LeadsFrom open_step new at) steps
All-LeadsFrom-kept open_step old new at steps kept h =
    All-weaker (LeadsFrom open_step old at) (LeadsFrom open_step new at)
    (λ s. LeadsFrom-kept open_step old new at s kept) steps h

same_place : {X : Type 0} (old new : List X) (k : ℕ) (d : X) → take (length old) new ≡ old → k < length old
    → get_or new k d ≡ get_or old k d
same_place old new k d kept l = sym (get_or-take (length old) new k d l) ∙ ap (λ xs. get_or xs k d) kept

pub Stands-kept : (old new : List VersionValue) (at : Option VersionValue) → take (length old) new ≡ old → Stands old at
    → Stands new at
Stands-kept old new None kept h = tt
Stands-kept old new (Some v) kept h = Contains-kept old new v kept h

IsDone-more : (steps : List GuardedStep) (open_step : GuardedStep → Bool) (old new : List VersionValue) (n : ℕ)
    (v : VersionValue) → n < length old → v ≡ get_or old n v → take (length old) new ≡ old
    → IsDone steps open_step old n → All (LeadsFrom open_step new (Some v)) steps → IsDone steps open_step new (n + 1)
IsDone-more steps open_step old new n v l at kept h here = record {
  start = All-LeadsFrom-kept open_step old new None steps kept h.start;
  below = λ k d m. below_more (λ k. All (LeadsFrom open_step new (Some (get_or new k d))) steps) n
      (λ k m. let o : k < length old = omega arith in rw (same_place old new k d kept o)
      (All-LeadsFrom-kept open_step old new (Some (get_or old k d)) steps kept (h.below k d m)))
      (rw (same_place old new n d kept l ∙ get_or_default old n d v l ∙ sym at) here) k m;
}

pub closed-from_IsDone : (steps : List GuardedStep) (open_step : GuardedStep → Bool) (reached : List VersionValue)
    (n : ℕ) → length reached ≤ n → IsDone steps open_step reached n → (at : Option VersionValue) → Stands reached at
    → All (LeadsFrom open_step reached at) steps
closed-from_IsDone steps open_step reached n l h None st = h.start
closed-from_IsDone steps open_step reached n l h (Some v) st =
    rw (st.2) at (h.below st.0 v (omega (arith, st.1, l)))

-- ---- places and versions

-- the version of one place more
pub versions-push : (steps : List GuardedStep) (places : List ℕ) (p : ℕ)
    → versions_at steps (places ++ p ∷ []) ≡ versions_at steps places ++ version_at steps p ∷ []
versions-push steps places p = map-append (version_at steps) places (p ∷ [])

pub Contains-unmapped : {X Y : Type 0} (f : X → Y) (xs : List X) (y : Y) → Contains (map f xs) y
    → (x : X) × Contains xs x × (f x ≡ y)
Contains-unmapped f [] y h = absurd (omega (arith, h.1))
Contains-unmapped f (x ∷ xs) y h = elim (Contains-cons_cases (f x) (map f xs) y h) [
  | inl here ↦ (x, Contains-here x xs, here)
  | inr later ↦ let r = Contains-unmapped f xs y later in (r.0, Contains-later x r.0 xs r.1, r.2)
]

-- no place leads to the version
pub leads_nowhere : (steps : List GuardedStep) (places : List ℕ) (v : VersionValue)
    → All (λ p. version_at steps p ≢ v) places → Contains (versions_at steps places) v → ⊥
leads_nowhere steps places v none h =
    let r = Contains-unmapped (version_at steps) places v h in
    All-contains (λ p. version_at steps p ≢ v) places r.0 none r.1 r.2

-- the place leads to the version
pub leads_there : (steps : List GuardedStep) (places : List ℕ) (v : VersionValue) (p : ℕ) → Contains places p
    → version_at steps p ≡ v → Contains (versions_at steps places) v
leads_there steps places v p h e = rw (← e) (Contains-map (version_at steps) places p h)

-- there are no more places than steps
pub length-le_from_places : (steps : List GuardedStep) (open_step : GuardedStep → Bool) (places : List ℕ)
    → IsSound steps open_step (versions_at steps places) → length places ≤ length steps
length-le_from_places steps open_step places h =
    rw length-map at (length-le_from_IsSound steps open_step (versions_at steps places) h)

-- one version more is done with
pub IsDone-next : (steps : List GuardedStep) (open_step : GuardedStep → Bool) (old new : List ℕ) (n from : ℕ)
    → n < length old → from ≡ get_or old n from → take (length old) new ≡ old
    → IsDone steps open_step (versions_at steps old) n
    → All (LeadsFrom open_step (versions_at steps new) (Some (version_at steps from))) steps
    → IsDone steps open_step (versions_at steps new) (n + 1)
IsDone-next steps open_step old new n from l at kept h here =
    IsDone-more steps open_step (versions_at steps old) (versions_at steps new) n (version_at steps from)
    (rw length-map l)
    (ap (version_at steps) at ∙ sym (get_or-map (version_at steps) old n from (version_at steps from) l))
    (versions-kept steps old new kept) h here

pub closed-from_done : (steps : List GuardedStep) (open_step : GuardedStep → Bool) (places : List ℕ) (n : ℕ)
    → length places ≤ n → IsDone steps open_step (versions_at steps places) n → (at : Option VersionValue)
    → Stands (versions_at steps places) at → All (LeadsFrom open_step (versions_at steps places) at) steps
closed-from_done steps open_step places n l h = closed-from_IsDone steps open_step (versions_at steps places) n
    (rw length-map l) h
