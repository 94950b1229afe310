use Rattle.std.proofs.Common.{◌∙◌, [], ap, map, refl}
use Rattle.vet_base.specs.Keyed.{all_set}
use Rattle.vet_base.proofs.Rising.{R}
use Rattle.vet_demand.specs.DependencyCriteria.{item_name}
use Rattle.vet_item_rows.proofs.DependenciesRead.{dependencies_read, dependencies_written, filed_of}
use Rattle.vet_item_rows.proofs.Reading.{passed_on}
use Rattle.vet_item_rows.proofs.read.policies.dependencies.Goals as goal

pub returns-in_err-filed : goal.returns-in_err-filed
returns-in_err-filed c xs (are, is) =
    rw (passed_on c.from_residual.result c.in_err-filed.field-0.0 c.from_residual.ensures.1
    (c.in_err-filed.ensures (map filed_of xs) (dependencies_written xs are c.args.bytes.now is))) refl

pub returns : goal.returns
returns c xs (are, is) =
    dependencies_read xs are c.in_ok-filed.filed.items
    (c.in_ok-filed.ensures (map filed_of xs) (dependencies_written xs are c.args.bytes.now is)) c.in_ok-of.field-0
    (c.in_ok-of.ensures ∙ ap (all_set R item_name []) c.in_ok-dependency_items.ensures)
