use Rattle.vet_desk.proofs.Prepared.{withdrawing}
use Rattle.vet_desk.proofs.desk.Desk.withdraw.Goals as goal

pub returns : goal.returns
returns c = withdrawing c.args.self.now c.place_held.ensures.sound c.args.number c.place_held.result
    c.place_held.ensures.place
