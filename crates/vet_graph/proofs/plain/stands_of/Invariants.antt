-- The pairs so far, each with its class, the steps of the last one's package, and what was found of the words.
use Rattle.std.proofs.Common.{◌≡◌, IfSome, take}
use Rattle.vet_entries.specs.LocalCriteria.{AreLocal}
use Rattle.vet_graph.specs.PackageSteps.{AreStepsOf}
use Rattle.vet_graph.specs.StandingOf.{standing_of}
use Rattle.vet_graph.proofs.plain.stands_of.Given as goal

abbrev pub invariant-pairs : goal.invariant-pairs
invariant-pairs l =
    (l.standing.items ≡ standing_of l.facts.content (take l.pair-index l.demand))
    × IfSome l.held (λ h. AreStepsOf l.facts.content h.«package» h)
    × AreLocal l.facts.content l.local
