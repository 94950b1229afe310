-- The steps of one package, as the code holds them (ours).
use Rattle.std.specs.Prelude.{◌≡◌, List}
use Rattle.vet_base.specs.Words.{Name}
use Rattle.vet_entries.specs.Condemned.{condemned_by, violations_of}
use Rattle.vet_entries.specs.Facts.{Facts}
use Rattle.vet_entries.specs.Step.{steps_of}
use Rattle.vet_entries.specs.declared.condemned.Violation.{Violation}
use Rattle.vet_entries.specs.declared.step.Step.{Step}
use Rattle.vet_graph.specs.declared.package_steps.PackageSteps.{PackageSteps}
use Rattle.vet_graph.specs.Search.{AreGuarded, steps_in}

-- a package of this name has these steps, with the criteria for which these violations condemn their targets
pub record AreLinked (name : Name) (all : List Step) (condemning : List Violation) (held : PackageSteps)
    : Type 0 where
  pub named : held.«package» ≡ name
  pub steps : steps_in held.steps ≡ all
  pub guards : AreGuarded (condemned_by held.violations.items) held.steps
  pub violations : held.violations.items ≡ condemning

-- this package has its steps, with the criteria for which their targets are condemned, and its violations
pub record AreStepsOf (facts : Facts) (name : Name) (held : PackageSteps) : Type 0 where
  pub named : held.«package» ≡ name
  pub steps : steps_in held.steps ≡ steps_of facts name
  pub guards : AreGuarded (condemned_by held.violations.items) held.steps
  pub violations : held.violations.items ≡ violations_of facts name
