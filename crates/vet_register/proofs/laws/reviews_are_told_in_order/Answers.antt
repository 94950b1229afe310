use Rattle.vet_register.proofs.Orders.{held_before_step, number_before_criteria, reviews_before_step}
use Rattle.vet_register.proofs.Orders.{step_before_number}
use Rattle.vet_register.proofs.laws.reviews_are_told_in_order.Goals as goal

pub returns-clause-reviews : goal.returns-clause-reviews
returns-clause-reviews c = reviews_before_step

pub returns-clause-step : goal.returns-clause-step
returns-clause-step c = step_before_number

pub returns-clause-number : goal.returns-clause-number
returns-clause-number c = number_before_criteria

pub returns-clause-finished : goal.returns-clause-finished
returns-clause-finished c = held_before_step
