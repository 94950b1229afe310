-- The names of the nodes so far.
use Rattle.std.proofs.Common.{◌≡◌, map, take}
use Rattle.vet_item_rows.proofs.read.projects.names_of.Given as goal

abbrev pub invariant-nodes : goal.invariant-nodes
invariant-nodes l = l.names.items ≡ map (λ f. f.key) (take l.node-index l.nodes)
