-- The order in which a command to the desk is told of its faults.
use Rattle.std.proofs.Common.{◌≡◌, None, Ok, Err, refl, ap}
use Rattle.vet_base.specs.Day.{DayValue}
use Rattle.vet_base.specs.Gives.{Told, ◌>>=◌}
use Rattle.vet_desk.specs.declared.command.DeskCommand.{DeskCommand}
use Rattle.vet_desk.specs.declared.command.DeskCommand.TheVariants.{FinishReview, OpenReview}
use Rattle.vet_desk.specs.DeskVerdict.{desk_rules, review_number_limit}
use Rattle.vet_register.specs.declared.command.Action.TheVariants.{Desk}
use Rattle.vet_register.specs.declared.verdict.Answer.{Answer}
use Rattle.vet_register.specs.declared.verdict.Answer.TheVariants.{Accepted}
use Rattle.vet_register.specs.State.{State, demanded}
use Rattle.vet_register.specs.ToldInOrder.{FinishedIsHeldBeforeStep, NumberBeforeCriteria, PeriodAsksForStep}
use Rattle.vet_register.specs.ToldInOrder.{ReviewsBeforeStep, StepBeforeNumber}
use Rattle.vet_register.specs.Verdict.{held_or, limits_after_rules, references, rules, step_limit}

-- what a review that is opened is told, by what is told of reviews, step and number
abbrev opened_by : State → DayValue → DeskCommand → Told (Unit {0}) → Told (Unit {0}) → Told (Unit {0}) → Told Answer
opened_by s day command reviews step number =
    held_or None ((reviews >>= λ _. step >>= λ _. number) >>= λ _. references s (Desk command) >>= λ _. rules s day
    (Desk command))

pub reviews_before_step : ReviewsBeforeStep
reviews_before_step s day name version criteria e many =
    ap (λ t. opened_by s day (OpenReview name version criteria) t (step_limit s) (review_number_limit s.desk)) many

pub step_before_number : StepBeforeNumber
step_before_number s day name version criteria e few last =
    (λ i. opened_by s day (OpenReview name version criteria) (few i) (last i) (review_number_limit s.desk))

pub number_before_criteria : NumberBeforeCriteria
number_before_criteria s day name version criteria e few step last =
    (λ i. opened_by s day (OpenReview name version criteria) (few i) (step i) (last i))

pub held_before_step : FinishedIsHeldBeforeStep
held_before_step s day n member reviewed e unheld =
    ap (λ t. held_or None
    (t >>= λ _. desk_rules (demanded s) s.desk (FinishReview n member reviewed) >>= λ _. limits_after_rules s
    (FinishReview n member reviewed))) unheld

pub period_asks_for_step : PeriodAsksForStep
period_asks_for_step s day = by (step_limit s)
  where
    by : (t : Told (Unit {0})) → held_or None (t >>= λ _. Ok tt) ≡ (t >>= λ _. Ok Accepted)
    by (Ok u) = refl
    by (Err e) = refl
