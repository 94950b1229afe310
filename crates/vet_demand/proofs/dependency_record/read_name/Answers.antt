use Rattle.std.proofs.Common.{sym}
use Rattle.vet_demand.proofs.FieldLemmas.{no_name}
use Rattle.vet_demand.proofs.dependency_record.read_name.Goals as goal

pub returns-in-Err : goal.returns-in-Err
returns-in-Err c = sym (no_name c.args.bytes.now c.in-Err.ensures.cases.0)
