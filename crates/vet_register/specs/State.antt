-- The state of the machine, and where it begins (ours).
--
-- A state (State) is what is held (HeldValue), the desk (DeskState), the step and the next entry number. It is also the
-- moves limit, the first counts and the recorded moves. The desk has the next number of a review. The demand is no part
-- of the state, since what is held gives it (demanded). The first state (start) holds only the built-in criteria
-- (nothing_held), and its desk is empty (empty_desk). It has step 0, next number 1, five zeros and no recorded moves.
use Rattle.std.specs.Prelude.{ℕ, List, [], map}
use Rattle.vet_demand.specs.declared.pair.Pair.{Pair}
use Rattle.vet_desk.specs.Desk.{DeskState, empty_desk}
use Rattle.vet_graph.specs.declared.moves.Move.{Move}
use Rattle.vet_graph.specs.declared.standing.Counts.{Counts}
use Rattle.vet_graph.specs.declared.standing.Stand.{Stand}
use Rattle.vet_register.specs.declared.moves.RecordedMove.{RecordedMove}
use Rattle.vet_register.specs.Held.{HeldValue, demand_in, nothing_held, standing_in}

-- the things held, the desk, the number of accepted commands, the next entry's number, the moves limit, the first
-- counts, the moves
pub record State : Type 0 where
  pub held : HeldValue
  pub desk : DeskState
  pub step : ℕ
  pub next_entry : ℕ
  pub moves_limit : ℕ
  pub first : Counts
  pub moves : List RecordedMove

-- the pairs that the projects demand
abbrev pub demanded : State → List Pair
demanded s = demand_in s.held

-- the class of each demanded pair
abbrev pub standing : State → List Stand
standing s = standing_in s.held

-- no pair in any class
abbrev pub no_counts : Counts
no_counts = record { conflicting = 0; full = 0; partial = 0; exempted = 0; unvetted = 0 }

-- nothing is held, and so nothing is demanded; the desk is empty
abbrev pub start : ℕ → State
start limit = record {
  held = nothing_held;
  desk = empty_desk;
  step = 0;
  next_entry = 1;
  moves_limit = limit;
  first = no_counts;
  moves = [];
}

-- the moves as they were when they were made
abbrev pub changes_of : List RecordedMove → List Move
changes_of moves = map (λ m. m.change) moves
