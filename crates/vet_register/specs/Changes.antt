-- The state after a prepared change (ours): one equation for all commands.
use Rattle.std.specs.Prelude.{ℕ, ◌++◌, ◌≤◌, List, [], Option, Some, None, length}
use Rattle.vet_demand.specs.declared.pair.Pair.{Pair}
use Rattle.vet_desk.specs.Desk.{DeskState}
use Rattle.vet_desk.specs.DeskView.{desk_changed}
use Rattle.vet_graph.specs.declared.standing.Counts.{Counts}
use Rattle.vet_register.specs.declared.change.Change.{Change}
use Rattle.vet_register.specs.declared.change.DeskEdit.{DeskEdit}
use Rattle.vet_register.specs.declared.moves.RecordedMove.{RecordedMove}
use Rattle.vet_register.specs.declared.moves.Recording.{Recording}
use Rattle.vet_register.specs.declared.moves.Recording.TheVariants.{Behind, Anew}
use Rattle.vet_register.specs.Held.{edited}
use Rattle.vet_register.specs.State.{State}

-- the other demand, if there is one, otherwise this one
abbrev pub demand_by : Option (List Pair) → List Pair → List Pair
demand_by None demand = demand
demand_by (Some other) demand = other

-- the desk after an edit, if there is one
abbrev pub desk_edited : Option DeskEdit → DeskState → DeskState
desk_edited None desk = desk
desk_edited (Some edit) desk = desk_changed edit.change edit.entry desk

-- the recorded moves, and the first counts, after a recording
abbrev pub moves_by : Recording → List RecordedMove → List RecordedMove
moves_by (Behind more) moves = moves ++ more.items
moves_by (Anew counts) moves = []

abbrev pub first_by : Recording → Counts → Counts
first_by (Behind more) first = first
first_by (Anew counts) first = counts

-- the state after a change
abbrev pub changed : {K U : Type 0} → Change K U → State → State
changed change s = record {
  held = edited change.edit s.held;
  desk = desk_edited change.desk s.desk;
  step = change.step;
  next_entry = change.next_entry;
  moves_limit = s.moves_limit;
  first = first_by change.recording s.first;
  moves = moves_by change.recording s.moves;
}

-- there is room for a recording
abbrev pub FitsMoves : Recording → ℕ → Type 0
FitsMoves (Behind more) room = length more.items ≤ room
FitsMoves (Anew counts) room = Unit {0}
