use Rattle.std.proofs.Common.{arith}
use Rattle.vet_masks.proofs.Spending.{looks-few}
use Rattle.vet_masks.proofs.kept.KeptPackage.looks.Goals as goal

pub returns-clause-bound : goal.returns-clause-bound
returns-clause-bound c steps condemned h =
    omega (arith, c.count.ensures, looks-few steps condemned c.args.self.now.classes h.classes)
