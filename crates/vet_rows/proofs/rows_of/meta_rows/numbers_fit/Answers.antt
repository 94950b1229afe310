use Rattle.vet_rows.proofs.NumbersFit.{numbers_fit}
use Rattle.vet_rows.proofs.rows_of.meta_rows.numbers_fit.Goals as goal

pub returns : goal.returns
returns g c = numbers_fit c.args.register.now.state c.facts.ensures.sound
