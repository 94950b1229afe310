use Rattle.std.proofs.Common.{ap, Ok}
use Rattle.vet_base.proofs.criteria_table.CriteriaTable.closure.Goals as goal

pub returns-clause-known : goal.returns-clause-known
returns-clause-known c none =
    ap Ok (c.close.ensures.closure c.args.self.now c.args.names.now c.closures.ensures c.set_of.ensures)
