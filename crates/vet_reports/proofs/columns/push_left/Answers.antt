use Rattle.std.proofs.Common.{◌<◌, ◌^◌, arith, length}
use Rattle.vet_reports.proofs.ColumnLemmas.{laid_left}
use Rattle.vet_reports.proofs.columns.push_left.Goals as goal

pub returns : goal.returns
returns c =
    let short : length c.args.column.now < 2 ^ 64 = omega arith in
    rw (c.laid_out.ensures, laid_left c.args.width c.args.column.now short) at c.write.ensures.bytes
