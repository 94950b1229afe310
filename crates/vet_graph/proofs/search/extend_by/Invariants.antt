-- What was reached stays, and the steps so far lead into it.
use Rattle.std.proofs.Common.{◌≡◌, length, take}
use Rattle.std.specs.List.{All}
use Rattle.vet_graph.specs.Reaching.{IsReaching, LeadsOn}
use Rattle.vet_graph.proofs.search.extend_by.Given as goal

abbrev pub invariant-places : goal.invariant-places
invariant-places l =
    record {
      reaching : IsReaching l.steps l.links l.terms l.reached.places.items l.reached.seen.items;
      kept : take (length l.fn.reached.places.items) l.reached.places.items ≡ l.fn.reached.places.items;
      taken : All (LeadsOn l.steps l.terms l.reached.places.items) (take l.place-index l.places);
    }
