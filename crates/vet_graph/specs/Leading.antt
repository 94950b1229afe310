-- The steps that chains to a version can take (ours).
use Rattle.std.specs.Prelude.{◌≡◌, ℕ, ◌∷◌, [], List, Option, None, Some, false}
use Rattle.std.specs.FinSet as set
use Rattle.std.specs.List.{All, Contains, flat_map}
use Rattle.vet_base.specs.Version.{VersionValue}
use Rattle.vet_entries.specs.declared.step.Step.{Step}
use Rattle.vet_entries.specs.Condemned.{condemned_by, violations_of}
use Rattle.vet_entries.specs.Facts.{Facts}
use Rattle.vet_entries.specs.Step.{steps_of}
use Rattle.vet_demand.specs.declared.pair.Pair.{Pair}
use Rattle.vet_graph.specs.Chain.{IsChain}
use Rattle.vet_graph.specs.declared.package_steps.PackageSteps.{PackageSteps}
use Rattle.vet_graph.specs.Search.{AreGuarded, steps_in}

-- these are some of the steps, and each chain for criterion c to version v consists of them
pub record KeepChains (steps : List Step) (c : ℕ) (v : VersionValue) (kept : List Step) : Type 0 where
  pub some : All (Contains steps) kept
  pub chains : (chain : List Step) → IsChain steps c v chain → All (Contains kept) chain

-- this is enough for the class of a pair whose criterion has this place: the steps of its package that chains to its
-- version can take, with the criteria for which their targets are condemned, and the violations
pub record AreStepsTo (facts : Facts) (p : Pair) (c : ℕ) (held : PackageSteps) : Type 0 where
  pub steps : KeepChains (steps_of facts p.«package») c p.version (steps_in held.steps)
  pub guards : AreGuarded (condemned_by held.violations.items) held.steps
  pub violations : held.violations.items ≡ violations_of facts p.«package»

-- ---- steps turned around

-- a step from a version, turned around; a step from nothing cannot be turned
abbrev pub turned_from : Step → Option VersionValue → List Step
turned_from s None = []
turned_from s (Some origin) =
    record { origin = Some s.target; target = origin; criteria = s.criteria; exempt = s.exempt } ∷ []

abbrev pub turned : Step → List Step
turned s = turned_from s s.origin

-- the first step of a walk back from a version
abbrev pub walk_start : ℕ → VersionValue → Step
walk_start c v = record { origin = None; target = v; criteria = set.insert set.empty c; exempt = false }

-- the steps of walks back from a version
abbrev pub turned_steps : ℕ → VersionValue → List Step → List Step
turned_steps c v steps = walk_start c v ∷ flat_map turned steps
