-- The rows of the pairs so far.
use Rattle.std.proofs.Common.{◌≡◌, map, take}
use Rattle.vet_graph.specs.StandingOf.{standing_of}
use Rattle.vet_item_rows.specs.StandingRows.{standing_row}
use Rattle.vet_register.specs.State.{demanded}
use Rattle.vet_rows.proofs.rows_of.standing_rows.all_standing.Given as goal

abbrev pub invariant-pairs : goal.invariant-pairs
invariant-pairs g l =
    l.rows.items
    ≡ map standing_row (standing_of l.register.state.held.facts (take l.pair-index (demanded l.register.state)))
