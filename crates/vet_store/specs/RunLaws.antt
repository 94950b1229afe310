-- Laws of runs (ours).
use Rattle.std.specs.Prelude.{List, ◌++◌}
use Rattle.vet_base.specs.Gives.{Told}
use Rattle.vet_register.specs.declared.command.Command.{Command}
use Rattle.vet_register.specs.declared.command.Outcome.{Outcome}
use Rattle.vet_register.specs.State.{State}
use Rattle.vet_store.specs.Runs.{IsOfDone, Ran}

-- a run, and another from the state that it left, are one run of the commands of both
abbrev pub TwoRunsAreOne : Type 0
TwoRunsAreOne =
    (s mid last : State) (xs ys : List Command) (answers more : List (Told Outcome))
    → Ran s xs answers mid → Ran mid ys more last → Ran s (xs ++ ys) (answers ++ more) last

-- each run leaves the state of the machine after only the commands that were done
abbrev pub RunsKeepDone : Type 0
RunsKeepDone =
    (s last : State) (commands : List Command) (answers : List (Told Outcome))
    → Ran s commands answers last → IsOfDone s commands answers last
