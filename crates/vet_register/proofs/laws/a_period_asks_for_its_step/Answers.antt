use Rattle.vet_register.proofs.Orders.{period_asks_for_step}
use Rattle.vet_register.proofs.laws.a_period_asks_for_its_step.Goals as goal

pub returns : goal.returns
returns c = period_asks_for_step
