-- The steps so far are filed.
use Rattle.vet_graph.specs.Links.{AreFiled, lists_in}
use Rattle.vet_graph.proofs.links.filed_of.Given as goal

abbrev pub invariant-steps : goal.invariant-steps
invariant-steps l = AreFiled l.steps l.found.heads.items l.filed.first.items (lists_in l.filed.after.items) l.place
