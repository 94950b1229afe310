-- Which of two faults of a command to the desk is returned (ours). Limits of steps and numbers that no list of commands
-- reaches are returned in their place too.
use Rattle.std.specs.Prelude.{◌≡◌, ℕ, Ok, Err}
use Rattle.vet_base.specs.Day.{DayValue}
use Rattle.vet_base.specs.Gives.{◌>>=◌}
use Rattle.vet_base.specs.Names.{NameSet}
use Rattle.vet_base.specs.Version.{VersionValue}
use Rattle.vet_base.specs.Words.{Name}
use Rattle.vet_base.specs.declared.refusal.Refusal.{Refusal}
use Rattle.vet_desk.specs.declared.command.DeskCommand.TheVariants.{FinishReview, OpenReview}
use Rattle.vet_desk.specs.declared.command.Reviewed.{Reviewed}
use Rattle.vet_desk.specs.DeskVerdict.{both_held, review_limit, review_number_limit}
use Rattle.vet_register.specs.declared.command.Action.TheVariants.{ClosePeriod, Desk}
use Rattle.vet_register.specs.declared.verdict.Answer.TheVariants.{Accepted}
use Rattle.vet_register.specs.State.{State}
use Rattle.vet_register.specs.Verdict.{judged, step_limit}

-- for a review that is opened: too many reviews before the step
abbrev pub ReviewsBeforeStep : Type 0
ReviewsBeforeStep =
    (s : State) (day : DayValue) (name : Name) (version : VersionValue) (criteria : NameSet) (e : Refusal)
    → review_limit s.desk ≡ Err e → judged s day (Desk (OpenReview name version criteria)) ≡ Err e

-- the step before the number of a review, and before what it refers to
abbrev pub StepBeforeNumber : Type 0
StepBeforeNumber =
    (s : State) (day : DayValue) (name : Name) (version : VersionValue) (criteria : NameSet) (e : Refusal)
    → review_limit s.desk ≡ Ok tt → step_limit s ≡ Err e
    → judged s day (Desk (OpenReview name version criteria)) ≡ Err e

abbrev pub NumberBeforeCriteria : Type 0
NumberBeforeCriteria =
    (s : State) (day : DayValue) (name : Name) (version : VersionValue) (criteria : NameSet) (e : Refusal)
    → review_limit s.desk ≡ Ok tt → step_limit s ≡ Ok tt → review_number_limit s.desk ≡ Err e
    → judged s day (Desk (OpenReview name version criteria)) ≡ Err e

-- for a review that is finished: member and review before the step
abbrev pub FinishedIsHeldBeforeStep : Type 0
FinishedIsHeldBeforeStep = (s : State) (day : DayValue) (n : ℕ) (member : Name) (reviewed : Reviewed) (e : Refusal)
    → both_held s.desk n member ≡ Err e → judged s day (Desk (FinishReview n member reviewed)) ≡ Err e

-- the verdict on closing a period is only that on its step
abbrev pub PeriodAsksForStep : Type 0
PeriodAsksForStep = (s : State) (day : DayValue) → judged s day ClosePeriod ≡ (step_limit s >>= λ _. Ok Accepted)
