use Rattle.vet_files.proofs.TableKeys.{keys-rise}
use Rattle.vet_files.proofs.read.walk.each_member.Goals as goal

pub returns-in_err-found-clause-rises : goal.returns-in_err-found-clause-rises
returns-in_err-found-clause-rises g c = keys-rise c.args.table.now.entries c.iter-key-items.ensures.ordered

pub returns-clause-rises : goal.returns-clause-rises
returns-clause-rises g c = keys-rise c.args.table.now.entries c.iter-key-items.ensures.ordered
