-- The invariants of a search for chains (ours).
use Rattle.std.specs.Prelude.{◌≡◌, ◌≢◌, ◌↔◌, ℕ, ◌<◌, Bool, true, false, List, Option, Some, None, map, get_or, length}
use Rattle.std.specs.List.{All, AllPairs, Contains}
use Rattle.vet_base.specs.Version.{VersionValue}
use Rattle.vet_graph.specs.declared.guarded.GuardedStep.{GuardedStep}
use Rattle.vet_graph.specs.declared.links.Links.{Links}
use Rattle.vet_graph.specs.declared.search.Terms.{Terms}
use Rattle.vet_graph.specs.Chain.{Leads}
use Rattle.vet_graph.specs.Links.{origin_at}
use Rattle.vet_graph.specs.Search.{is_open, no_step, steps_in, version_at, versions_at}

-- a chain of open steps
pub record IsOpenChain (guarded : List GuardedStep) (open_step : GuardedStep → Bool) (v : VersionValue)
    (chain : List GuardedStep) : Type 0 where
  pub of_package : All (Contains guarded) chain
  pub each_open : All (λ g. open_step g ≡ true) chain
  pub leads : Leads None (steps_in chain) v
  pub once : AllPairs (λ g h. g.step.target ≢ h.step.target) chain

-- a search may go on from here: from nothing, or from a version that it reached
abbrev pub Stands : {X : Type 0} → List X → Option X → Type 0
Stands reached None = Unit {0}
Stands reached (Some v) = Contains reached v

-- each version that was reached has a chain of versions that were reached, and is among them once
pub record IsSound (guarded : List GuardedStep) (open_step : GuardedStep → Bool)
    (reached : List VersionValue) : Type 0 where
  pub chains : (v : VersionValue) → Contains reached v
      → (chain : List GuardedStep) × IsOpenChain guarded open_step v chain
      × All (λ g. Contains reached g.step.target) chain
  pub once : AllPairs (λ v w. v ≢ w) reached
  pub of_steps : All (Contains (map (λ g. g.step.target) guarded)) reached

-- if this step is open and starts here, it leads to a version that was reached
abbrev pub LeadsFrom : (GuardedStep → Bool) → List VersionValue → Option VersionValue → GuardedStep → Type 0
LeadsFrom open_step reached at g = open_step g ≡ true → g.step.origin ≡ at → Contains reached g.step.target

-- the open steps from nothing and from the first n versions lead to versions that were reached
pub record IsDone (guarded : List GuardedStep) (open_step : GuardedStep → Bool) (reached : List VersionValue)
    (n : ℕ) : Type 0 where
  pub start : All (LeadsFrom open_step reached None) guarded
  pub below : (k : ℕ) (d : VersionValue) → k < n → All (LeadsFrom open_step reached (Some (get_or reached k d))) guarded

-- the step at a place starts from nothing, or at a version that was reached
abbrev pub StandsBefore : List GuardedStep → List ℕ → ℕ → Type 0
StandsBefore guarded reached place = Stands (versions_at guarded reached) (origin_at guarded place)

-- if the step at a place is open, it leads to a version that was reached
abbrev pub LeadsOn : List GuardedStep → Terms → List ℕ → ℕ → Type 0
LeadsOn guarded terms reached place = is_open terms (get_or guarded place no_step) ≡ true
    → Contains (versions_at guarded reached) (version_at guarded place)

-- the places that were reached are heads, marked as seen, and the versions to which they lead are soundly reached
pub record IsReaching (guarded : List GuardedStep) (links : Links) (terms : Terms) (reached : List ℕ)
    (seen : List Bool) : Type 0 where
  pub within : All (λ p. p < length guarded) reached
  pub are_heads : All (λ p. get_or links.heads.items p 0 ≡ p) reached
  pub count : length seen ≡ length guarded
  pub marked : (p : ℕ) → p < length guarded → (get_or seen p false ≡ true) ↔ Contains reached p
  pub sound : IsSound guarded (is_open terms) (versions_at guarded reached)
