-- The steps from nothing, and from the versions so far, lead into what was reached.
use Rattle.std.proofs.Common.{◌≤◌, ◌-◌, length}
use Rattle.vet_graph.specs.Reaching.{IsDone, IsReaching}
use Rattle.vet_graph.specs.Search.{is_open, versions_at}
use Rattle.vet_graph.proofs.search.reach.Given as goal

abbrev pub invariant-versions : goal.invariant-versions
invariant-versions l =
    record {
      reaching : IsReaching l.steps l.links l.terms l.reached.places.items l.reached.seen.items;
      in_range : l.next ≤ length l.reached.places.items;
      done : IsDone l.steps (is_open l.terms) (versions_at l.steps l.reached.places.items) l.next;
    }

abbrev pub decreases-versions : goal.decreases-versions
decreases-versions l = length l.steps - l.next
