use Rattle.vet_desk.proofs.Demanded.{told_among}
use Rattle.vet_desk.proofs.verdict.is_demanded.Goals as goal

pub returns : goal.returns
returns c =
    told_among c.contains.result (record {
      «package» = c.args.«package».now;
      version = c.args.version.now;
      criterion = c.args.criterion.now;
    }) c.args.demand.now
    c.contains.ensures
