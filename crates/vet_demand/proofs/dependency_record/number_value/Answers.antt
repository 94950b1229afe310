use Rattle.vet_demand.proofs.FieldLemmas.{number_step}
use Rattle.vet_demand.proofs.dependency_record.number_value.Goals as goal

pub digits-preserved : goal.digits-preserved
digits-preserved c =
    number_step c.args.digits.now c.digits.place c.digits.value c.from.result c.requires c.digits-test.true
    c.digits.invariant c.from.ensures
