use Rattle.std.proofs.Common.{sym}
use Rattle.vet_demand.proofs.FieldLemmas.{no_version, text_version}
use Rattle.vet_demand.proofs.dependency_record.read_version.Goals as goal

pub returns-in-Ok : goal.returns-in-Ok
returns-in-Ok c = rw (text_version c.args.bytes.now c.in-Ok.ensures.cases.1, ← c.in-Ok.ensures.cases.0)
    c.read.ensures.ok

pub returns-in-Err : goal.returns-in-Err
returns-in-Err c = sym (no_version c.args.bytes.now c.in-Err.ensures.cases.0)
