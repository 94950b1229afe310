-- Everything that a command does not touch stays (ours).
--
-- Outside of what a command touches, the steps, the condemned versions and the demanded pairs are the same before and
-- after it, and unless it touches all packages, so are the criteria (UntouchedStays, SameOutside). So each pair of a
-- package that it does not touch (IsUntouched) has the same class before and after it (UntouchedClassesStay).
use Rattle.std.specs.Prelude.{◌≡◌, false}
use Rattle.std.specs.FinSet as set
use Rattle.vet_base.specs.Day.{DayValue}
use Rattle.vet_base.specs.Words.{Name}
use Rattle.vet_demand.specs.declared.pair.Pair.{Pair}
use Rattle.vet_graph.specs.declared.touched.Touched.{Touched}
use Rattle.vet_graph.specs.declared.touched.Touched.TheVariants.{All, Packages}
use Rattle.vet_graph.specs.StandingOf.{class_of_pair}
use Rattle.vet_graph.specs.Touched.{SameOutside}
use Rattle.vet_register.specs.declared.command.Action.{Action}
use Rattle.vet_register.specs.Held.{demand_in}
use Rattle.vet_register.specs.Machine.{held_after, touched_by}
use Rattle.vet_register.specs.Sound.{IsSound}
use Rattle.vet_register.specs.State.{State, demanded}

-- outside of what a command touches, all that classes depend on is the same before and after it
abbrev pub UntouchedStays : Type 0
UntouchedStays = (s : State) (day : DayValue) (a : Action) → IsSound s
    → SameOutside (touched_by s day a) s.held.facts (demanded s) (held_after s day a).facts
    (demand_in (held_after s day a))

-- a package is not among those that are touched
abbrev pub IsUntouched : Touched → Name → Type 0
IsUntouched All name = ⊥
IsUntouched (Packages names) name = set.contains names name ≡ false

-- outside of what a command touches, each pair has the same class before and after it
abbrev pub UntouchedClassesStay : Type 0
UntouchedClassesStay = (s : State) (day : DayValue) (a : Action) → IsSound s → (p : Pair)
    → IsUntouched (touched_by s day a) p.«package»
    → class_of_pair s.held.facts p ≡ class_of_pair (held_after s day a).facts p
