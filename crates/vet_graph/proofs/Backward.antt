-- The steps that chains to a version take, found by a walk back from it.
use Rattle.std.proofs.Common.{◌≡◌, ◌≢◌, ◌↔◌, ℕ, Bool, true, false, List, [], ◌∷◌, ◌++◌, Option, Some, None, filter}
use Rattle.std.proofs.Common.{refl, sym, ap, subst, rules, ◌∙◌}
use Rattle.std.specs.Cmp.{nat_cmp_total}
use Rattle.std.specs.FinSet as set
use Rattle.std.specs.List.{All, AllPairs, Contains}
use Rattle.std.specs.Option.{option_map_or}
use Rattle.std.proofs.lemmas.List.Elements.{All-nil, All-cons, All-head, All-tail, All-weaker, All-push, All-filter}
use Rattle.std.proofs.lemmas.List.Elements.{All-contains, All-contains_itself}
use Rattle.vet_base.specs.Criteria.{place_of}
use Rattle.vet_base.specs.CriteriaSet.{has}
use Rattle.vet_base.specs.Version.{VersionValue}
use Rattle.vet_base.proofs.ItemLemmas.{pairs_head, pairs_tail}
use Rattle.vet_base.proofs.ListLemmas.{Contains-here, Contains-later}
use Rattle.vet_demand.proofs.Lists.{to_filter}
use Rattle.vet_demand.specs.declared.pair.Pair.{Pair}
use Rattle.vet_entries.specs.Condemned.{ViolationsCondemn, condemned_by, violations_of}
use Rattle.vet_entries.specs.Facts.{Facts}
use Rattle.vet_entries.specs.Step.{steps_of}
use Rattle.vet_entries.specs.declared.step.Step.{Step}
use Rattle.vet_graph.specs.Chain.{Condemned, HasChain, HasCleanChain, IsChain, Leads}
use Rattle.vet_graph.specs.Class.{IsClass}
use Rattle.vet_graph.specs.ClassAt.{class_at}
use Rattle.vet_graph.specs.ClassAtLaws.{class_at-unique}
use Rattle.vet_graph.specs.Leading.{AreStepsTo, KeepChains, turned, turned_steps, walk_start}
use Rattle.vet_graph.specs.ListLaws.{Contains-flat_map}
use Rattle.vet_graph.specs.Reaching.{IsOpenChain}
use Rattle.vet_graph.specs.Search.{IsReached, is_open, steps_in}
use Rattle.vet_graph.specs.StandingOf.{class_of_pair, condemned_of}
use Rattle.vet_graph.specs.declared.class.Class.{Class}
use Rattle.vet_graph.specs.declared.class.Class.TheVariants.{Conflicting, Full, Partial, Exempted, Unvetted}
use Rattle.vet_graph.specs.declared.guarded.GuardedStep.{GuardedStep}
use Rattle.vet_graph.specs.declared.package_steps.PackageSteps.{PackageSteps}
use Rattle.vet_graph.specs.declared.search.Terms.{Terms}
use Rattle.vet_graph.specs.declared.skip.Skip.TheVariants.{Nothing}
use Rattle.vet_graph.proofs.Reach.{Contains-unmapped, IsOpenChain-one, IsOpenChain-push, IsReached-from_open}

-- the terms of the walk back
abbrev pub back_terms : ℕ → Terms
back_terms c = record { place = c; barred = false; skip = Nothing }

open_for : (c : ℕ) (g : GuardedStep) → has c g.step.criteria ≡ true → is_open (back_terms c) g ≡ true
open_for c g e = rw e refl

has_start : (c : ℕ) → has c (set.insert set.empty c) ≡ true
has_start c = set.contains-insert nat_cmp_total set.empty c c ∙ search rules

-- a step from one version to another is turned around
turned_there : (s : Step) (o : VersionValue) → s.origin ≡ Some o
    → Contains (turned s) (record { origin = Some s.target; target = o; criteria = s.criteria; exempt = s.exempt })
turned_there s o e = rw e (Contains-here _ [])

module _ (steps : List Step) (c : ℕ) (v : VersionValue) (guarded : List GuardedStep)
    (is : steps_in guarded ≡ turned_steps c v steps) where
  start_there : (g : GuardedStep) × Contains guarded g × (g.step ≡ walk_start c v)
  start_there = Contains-unmapped (λ (g : GuardedStep). g.step) guarded (walk_start c v)
      (subst (λ l. Contains l (walk_start c v)) (sym is) (Contains-here (walk_start c v) _))

  back_there : (s : Step) (o : VersionValue) → Contains steps s → s.origin ≡ Some o → (g : GuardedStep)
      × Contains guarded g
      × (g.step ≡ record { origin = Some s.target; target = o; criteria = s.criteria; exempt = s.exempt })
  back_there s o among e =
      let t : Step = record { origin = Some s.target; target = o; criteria = s.criteria; exempt = s.exempt } in
      Contains-unmapped (λ (g : GuardedStep). g.step) guarded t
      (subst (λ l. Contains l t) (sym is) (Contains-later (walk_start c v) t _
      (Contains-flat_map turned steps s t among (turned_there s o e))))

  -- a walk back to w, which arrives at no version but w and those to which the rest of the chain leads
  abbrev Walks : VersionValue → List Step → Type 0
  Walks w rest = (walk : List GuardedStep) × IsOpenChain guarded (is_open (back_terms c)) w walk
      × ((u : VersionValue) → w ≢ u → All (λ (s : Step). s.target ≢ u) rest
      → All (λ (g : GuardedStep). g.step.target ≢ u) walk)

  -- from where a chain leads on to v, there is a walk back
  walk_back : (w : VersionValue) (rest : List Step) → Leads (Some w) rest v → All (Contains steps) rest
      → All (λ (s : Step). has c s.criteria ≡ true) rest → AllPairs (λ (s t : Step). s.target ≢ t.target) rest
      → All (λ (s : Step). s.target ≢ w) rest → Walks w rest
  walk_back w [] leads among for once apart =
      let same : w ≡ v = (let e = leads in cc e) in
      let g = start_there.0 in
      let target : g.step.target ≡ w = ap (λ (s : Step). s.target) start_there.2 ∙ sym same in
      let taken = open_for c g (ap (λ (s : Step). has c s.criteria) start_there.2 ∙ has_start c) in (
        g ∷ [],
        subst (λ u. IsOpenChain guarded (is_open (back_terms c)) u (g ∷ [])) target
            (IsOpenChain-one guarded (is_open (back_terms c)) g start_there.1 taken
            (ap (λ (s : Step). s.origin) start_there.2)),
        λ u other _. All-cons (λ (h : GuardedStep). h.step.target ≢ u) g [] (λ e. other (sym target ∙ e)) (All-nil _),
      )
  walk_back w (s ∷ rest) leads among for once apart =
      let Apart = λ (t u : Step). t.target ≢ u.target in
      let old : Walks s.target rest = walk_back s.target rest leads.1 (All-tail (Contains steps) s rest among)
      (All-tail (λ (t : Step). has c t.criteria ≡ true) s rest for) (pairs_tail Apart s rest once)
      (All-weaker (λ (t : Step). s.target ≢ t.target) (λ (t : Step). t.target ≢ s.target) (λ t n e. n (sym e)) rest
      (pairs_head Apart s rest once)) in
      let there = back_there s w (All-head (Contains steps) s rest among) leads.0 in
      let g = there.0 in
      let target : g.step.target ≡ w = ap (λ (t : Step). t.target) there.2 in
      let taken = open_for c g (ap (λ (t : Step). has c t.criteria) there.2
      ∙ All-head (λ (t : Step). has c t.criteria ≡ true) s rest for) in
      let new = old.2 w (All-head (λ (t : Step). t.target ≢ w) s rest apart)
      (All-tail (λ (t : Step). t.target ≢ w) s rest apart) in (
        old.0 ++ g ∷ [],
        subst (λ u. IsOpenChain guarded (is_open (back_terms c)) u (old.0 ++ g ∷ [])) target
            (IsOpenChain-push guarded (is_open (back_terms c)) old.0 s.target g old.1 there.1 taken
            (ap (λ (t : Step). t.origin) there.2)
            (All-weaker (λ (h : GuardedStep). h.step.target ≢ w) (λ (h : GuardedStep). h.step.target ≢ g.step.target)
            (λ h n e. n (e ∙ target)) old.0 new)),
        λ u other all. All-push (λ (h : GuardedStep). h.step.target ≢ u) old.0 g
            (old.2 u (All-head (λ (t : Step). t.target ≢ u) s rest all)
            (All-tail (λ (t : Step). t.target ≢ u) s rest all))
            (λ e. other (sym target ∙ e)),
      )

  -- a walk back reaches each version of a chain
  all_reached : (at : Option VersionValue) (chain : List Step) → Leads at chain v → All (Contains steps) chain
      → All (λ (s : Step). has c s.criteria ≡ true) chain → AllPairs (λ (s t : Step). s.target ≢ t.target) chain
      → All (λ (s : Step). IsReached guarded (back_terms c) s.target) chain
  all_reached at [] leads among for once = All-nil _
  all_reached at (s ∷ rest) leads among for once =
      let Apart = λ (t u : Step). t.target ≢ u.target in
      let walk : Walks s.target rest = walk_back s.target rest leads.1 (All-tail (Contains steps) s rest among)
      (All-tail (λ (t : Step). has c t.criteria ≡ true) s rest for) (pairs_tail Apart s rest once)
      (All-weaker (λ (t : Step). s.target ≢ t.target) (λ (t : Step). t.target ≢ s.target) (λ t n e. n (sym e)) rest
      (pairs_head Apart s rest once)) in
      All-cons (λ (t : Step). IsReached guarded (back_terms c) t.target) s rest
      (IsReached-from_open guarded (back_terms c) s.target walk.0 walk.1)
      (all_reached (Some s.target) rest leads.1 (All-tail (Contains steps) s rest among)
      (All-tail (λ (t : Step). has c t.criteria ≡ true) s rest for) (pairs_tail Apart s rest once))

  -- the steps to what it reaches keep the chains
  pub chains_kept : (is_in : VersionValue → Bool)
      → ((w : VersionValue) → IsReached guarded (back_terms c) w → is_in w ≡ true)
      → KeepChains steps c v (filter (λ (s : Step). is_in s.target) steps)
  chains_kept is_in reached = record {
    some = All-filter (λ (s : Step). is_in s.target) (Contains steps) steps (All-contains_itself steps);
    chains = λ chain h k d l. to_filter (λ (s : Step). is_in s.target) steps _ (h.of_package k d l)
        (reached _ (all_reached None chain h.leads h.of_package h.for_criterion h.once k d l));
  }

-- ---- the class by the steps that are kept

module _ (steps kept : List Step) (c : ℕ) (v : VersionValue) (keep : KeepChains steps c v kept) where
  to_kept : (chain : List Step) → IsChain steps c v chain → IsChain kept c v chain
  to_kept chain h = record {
    of_package = keep.chains chain h;
    for_criterion = h.for_criterion;
    leads = h.leads;
    once = h.once;
  }

  from_kept : (chain : List Step) → IsChain kept c v chain → IsChain steps c v chain
  from_kept chain h = record {
    of_package = All-weaker (Contains kept) (Contains steps)
        (λ s w. All-contains (Contains steps) kept s keep.some w) chain h.of_package;
    for_criterion = h.for_criterion;
    leads = h.leads;
    once = h.once;
  }

  chain_to : HasChain steps c v → HasChain kept c v
  chain_to h = (h.0, to_kept h.0 h.1)

  chain_from : HasChain kept c v → HasChain steps c v
  chain_from h = (h.0, from_kept h.0 h.1)

  module _ (condemned : Condemned) (P : List Step → Type 0) where
    clean_to : HasCleanChain steps condemned c v P → HasCleanChain kept condemned c v P
    clean_to h = (h.0, to_kept h.0 h.1, h.2, h.3)

    clean_from : HasCleanChain kept condemned c v P → HasCleanChain steps condemned c v P
    clean_from h = (h.0, from_kept h.0 h.1, h.2, h.3)

  pub class_kept : (condemned : Condemned) (k : Class) → IsClass kept condemned c v k → IsClass steps condemned c v k
  class_kept condemned Conflicting h = (h.0, chain_from h.1)
  class_kept condemned Full h = (λ q. h.0 (q.0, chain_to q.1), clean_from condemned _ h.1)
  class_kept condemned Partial h = (
    λ q. h.0 (q.0, chain_to q.1),
    λ q. h.1 (clean_to condemned _ q),
    clean_from condemned _ h.2,
  )
  class_kept condemned Exempted h = (
    λ q. h.0 (q.0, chain_to q.1),
    λ q. h.1 (clean_to condemned _ q),
    λ q. h.2 (clean_to condemned _ q),
    clean_from condemned _ h.3,
  )
  class_kept condemned Unvetted h = (
    λ q. h.0 (q.0, chain_to q.1),
    λ q. h.1 (clean_to condemned _ q),
    λ q. h.2 (clean_to condemned _ q),
    λ q. h.3 (clean_to condemned _ q),
  )

-- the class that the kept steps give a pair whose criterion has a place
pub class_by_kept : ViolationsCondemn → (facts : Facts) (p : Pair) (held : PackageSteps) (c : ℕ)
    → AreStepsTo facts p c held → Some c ≡ place_of facts.criteria p.criterion → (k : Class)
    → IsClass (steps_in held.steps) (condemned_by held.violations.items) c p.version k → k ≡ class_of_pair facts p
class_by_kept law facts p held c h found k is =
    let same : ◌≡◌ {A = Condemned} (condemned_by held.violations.items) (condemned_of facts p.«package») =
    ap (λ vs. condemned_by vs) h.violations ∙ (λ i e v. law facts p.«package» e v i) in
    class_at-unique (steps_of facts p.«package») (condemned_of facts p.«package») c p.version k
    (subst (λ (condemned : Condemned). IsClass (steps_of facts p.«package») condemned c p.version k) same
    (class_kept (steps_of facts p.«package») (steps_in held.steps) c p.version h.steps
    (condemned_by held.violations.items) k is))
    ∙ ap (λ place. option_map_or
    (λ e. class_at (steps_of facts p.«package») (condemned_of facts p.«package») e p.version) place Unvetted) found
