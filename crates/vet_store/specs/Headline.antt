-- The headline over commands (ours).
use Rattle.std.specs.Prelude.{List}
use Rattle.vet_base.specs.Gives.{Told}
use Rattle.vet_register.specs.Sound.{IsBalanced}
use Rattle.vet_register.specs.State.{State}
use Rattle.vet_register.specs.declared.command.Command.{Command}
use Rattle.vet_register.specs.declared.command.Outcome.{Outcome}
use Rattle.vet_store.specs.Classes.{AddsUp, HasClassesOfChains}
use Rattle.vet_store.specs.Repeats.{IsTurnWithRepeats}
use Rattle.vet_store.specs.Runs.{Each, IsOfDone}

-- each pair of the least demand has the class that chains of entries give it, the five classes add up to the demand,
-- and each has what it had at first, plus arrivals, minus departures
pub record HasClasses (s : State) : Type 0 where
  pub classes : HasClassesOfChains s
  pub adds_up : AddsUp s
  pub balance : IsBalanced s

-- commands with these answers led from one state to another: the last state is that of the machine after only the
-- commands that were done, with the same outcomes; it has its classes; and what is held in its turn changed nothing
pub record HasHeadline (s : State) (commands : List Command) (answers : List (Told Outcome)) (last : State) : Type 0
  where
    pub machine : IsOfDone s commands answers last
    pub classes : HasClasses last
    pub repeats : Each IsTurnWithRepeats s commands answers last
