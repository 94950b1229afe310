use Rattle.vet_files.proofs.CriteriaRead.{criterion_read}
use Rattle.vet_files.proofs.write.criteria_tables.criterion_table.Goals as goal

pub returns-clause-read : goal.returns-clause-read
returns-clause-read c =
    criterion_read c.args.criterion.now c.as_str.ensures.name
    (rw c.as_ref.ensures.value at c.in_ok-put_some.ensures.read)
    (rw c.as_ref-2.ensures.value at c.in_ok-put_some-2.ensures.read) c.in_ok-put_names.ensures.read
