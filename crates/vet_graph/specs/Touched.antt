-- The packages that a command does not touch stay the same (ours).
use Rattle.std.specs.Prelude.{◌≡◌, ℕ, false, List, [], filter}
use Rattle.std.specs.FinSet as set
use Rattle.std.specs.Str.{bytes_eq}
use Rattle.vet_base.specs.Names.{NameSet}
use Rattle.vet_base.specs.Version.{VersionValue}
use Rattle.vet_base.specs.Words.{Name}
use Rattle.vet_demand.specs.declared.pair.Pair.{Pair}
use Rattle.vet_entries.specs.Facts.{Facts}
use Rattle.vet_entries.specs.Step.{steps_of}
use Rattle.vet_graph.specs.declared.touched.Touched.{Touched}
use Rattle.vet_graph.specs.declared.touched.Touched.TheVariants.{All, Packages}
use Rattle.vet_graph.specs.StandingOf.{condemned_of}

-- the demanded pairs of a package
abbrev pub pairs_at : Name → List Pair → List Pair
pairs_at name demand = filter (λ p. bytes_eq p.«package» name) demand

-- a package has the same steps, condemned versions and demanded pairs before and after
pub record IsSameAt (name : Name) (old_facts : Facts) (old_demand : List Pair) (facts : Facts)
    (demand : List Pair) : Type 0 where
  pub steps : steps_of old_facts name ≡ steps_of facts name
  pub condemned : (c : ℕ) (v : VersionValue) → condemned_of old_facts name c v ≡ condemned_of facts name c v
  pub pairs : pairs_at name old_demand ≡ pairs_at name demand

-- the criteria are the same, and so is each package that is not named
pub record IsSameBeside (names : NameSet) (old_facts : Facts) (old_demand : List Pair) (facts : Facts)
    (demand : List Pair) : Type 0 where
  pub criteria : old_facts.criteria ≡ facts.criteria
  pub packages : (name : Name) → set.contains names name ≡ false → IsSameAt name old_facts old_demand facts demand

-- these facts give no package a step, and condemn no version
pub record GiveNothing (facts : Facts) : Type 0 where
  pub steps : (name : Name) → steps_of facts name ≡ []
  pub condemned : (name : Name) (c : ℕ) (v : VersionValue) → condemned_of facts name c v ≡ false

-- everything that is not touched is the same before and after; if all packages are touched, nothing is required
abbrev pub SameOutside : Touched → Facts → List Pair → Facts → List Pair → Type 0
SameOutside All old_facts old_demand facts demand = Unit {0}
SameOutside (Packages names) old_facts old_demand facts demand = IsSameBeside names old_facts old_demand facts demand
