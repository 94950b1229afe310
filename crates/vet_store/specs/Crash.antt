-- What a crash leaves of a store, after a command and after a list of them (ours).
use Rattle.std.specs.Prelude.{◌≡◌, ◌⊎◌, ◌++◌, ◌∷◌, Bool, false, IsTrue, List}
use Rattle.sqlite.specs.State.{HasCleanDisk}
use Rattle.sqlite.specs.State as sqlite
use Rattle.sqlite_trees.specs.Tree.{Trees}
use Rattle.vet_base.specs.Gives.{Told}
use Rattle.vet_register.specs.declared.command.Command.{Command}
use Rattle.vet_register.specs.declared.command.Outcome.{Outcome}
use Rattle.vet_register.specs.Runs.{after}
use Rattle.vet_register.specs.State.{State}
use Rattle.vet_rows.specs.RowsOf.{rows_of}
use Rattle.vet_store.specs.Committed.{AreTreesOf}
use Rattle.vet_store.specs.Exact.{IsExactTurn, WouldBeDone}
use Rattle.vet_store.specs.Runs.{AreRefused, Each, Fails, Ran}
use Rattle.vet_store.specs.Tied.{Leaves}

-- a crash leaves the rows of this state, or of the state after the command
abbrev pub LeavesEither : sqlite.State → State → Command → Type 0
LeavesEither c s command =
    (trees : Trees) → c.may_leave trees → AreTreesOf (rows_of s) trees ⊎ AreTreesOf (rows_of (after s command)) trees

-- the commit of one command failed, which would be done: those before it ran and left the last state, each with its
-- exact answer, and each after it was refused
pub record EndsShut (s : State) (commands : List Command) (answers : List (Told Outcome)) (last : State) : Type 0 where
  pub front : List Command
  pub command : Command
  pub behind : List Command
  pub earlier : List (Told Outcome)
  pub answer : Told Outcome
  pub later : List (Told Outcome)
  pub commands_are : commands ≡ front ++ command ∷ behind
  pub answers_are : answers ≡ earlier ++ answer ∷ later
  pub ran : Ran s front earlier last
  pub exact : Each IsExactTurn s front earlier last
  pub would_be_done : WouldBeDone last command
  pub fails : Fails answer
  pub refused : AreRefused later

-- After commands, while the store is not shut, a crash leaves the rows of the last state. Once it is, a crash leaves
-- these, or the rows of the state after the command whose commit failed
abbrev pub LeavesRun : sqlite.State → Bool → State → List Command → List (Told Outcome) → State → Type 0
LeavesRun c shut s commands answers last =
    ((shut ≡ false) × (HasCleanDisk c → Leaves c (rows_of last)))
    ⊎ (IsTrue shut × (ends : EndsShut s commands answers last) × (HasCleanDisk c → LeavesEither c last ends.command))
