-- The heads of the steps so far.
use Rattle.std.specs.BTreeMap.{get}
use Rattle.vet_base.specs.VersionOrder.{version_cmp}
use Rattle.vet_graph.specs.Links.{AreHeads}
use Rattle.vet_graph.proofs.links.heads_of.Given as goal

abbrev pub invariant-steps : goal.invariant-steps
invariant-steps l = AreHeads l.steps (get version_cmp l.numbers) l.heads.items l.place
