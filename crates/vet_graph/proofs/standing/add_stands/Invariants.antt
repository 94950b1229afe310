-- The stands so far come behind those that were there.
use Rattle.std.proofs.Common.{◌≡◌, ◌++◌, map, take}
use Rattle.vet_graph.proofs.standing.add_stands.Given as goal

abbrev pub invariant-stands : goal.invariant-stands
invariant-stands l = map (λ s. s.now) l.all.items ≡ map (λ s. s.now) l.fn.all.items ++ take l.stand-index l.stands
