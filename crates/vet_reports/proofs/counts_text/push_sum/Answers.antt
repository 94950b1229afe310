use Rattle.std.proofs.Common.{arith}
use Rattle.vet_reports.proofs.ColumnLemmas.{laid_number}
use Rattle.vet_reports.proofs.counts_text.push_sum.Goals as goal

pub returns : goal.returns
returns c = rw (c.laid_out.ensures, laid_number 10 c.args.sum (omega arith)) at c.write.ensures.bytes
