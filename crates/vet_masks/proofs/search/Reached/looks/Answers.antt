use Rattle.vet_masks.proofs.Used.{looks-bound}
use Rattle.vet_masks.proofs.search.Reached.looks.Goals as goal

pub returns-clause-bound : goal.returns-clause-bound
returns-clause-bound c steps bar taken h = looks-bound steps bar taken c.args.self.now h
