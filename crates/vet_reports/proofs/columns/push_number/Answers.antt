use Rattle.std.proofs.Common.{arith}
use Rattle.vet_reports.proofs.ColumnLemmas.{laid_number}
use Rattle.vet_reports.proofs.columns.push_number.Goals as goal

pub returns : goal.returns
returns c = rw (c.laid_out.ensures, laid_number c.args.width c.args.number (omega arith)) at c.write.ensures.bytes
