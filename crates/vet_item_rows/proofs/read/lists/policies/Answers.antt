use Rattle.std.proofs.Common.{◌∙◌, refl}
use Rattle.vet_base.proofs.KeyedItems.{all_set_is}
use Rattle.vet_demand.specs.Policies.{key_of}
use Rattle.vet_demand.specs.PolicyKey.{policy_key_cmp}
use Rattle.vet_demand.specs.PolicyKeyLaws.{policy_key_cmp-IsAntisymmetric, policy_key_total}
use Rattle.vet_item_rows.specs.HeldValues.{IsKeyedPolicy}
use Rattle.vet_item_rows.specs.SettingRows.{policy_row}
use Rattle.vet_item_rows.proofs.Reading.{passed_on}
use Rattle.vet_item_rows.proofs.SetsRead.{items_read, they_stand}
use Rattle.vet_item_rows.proofs.read.lists.policies.Goals as goal

pub returns-in_err-policies : goal.returns-in_err-policies
returns-in_err-policies c list up held same =
    let stand = they_stand IsKeyedPolicy policy_row c.args.rows.now list held same in
    rw (passed_on c.from_residual.result c.in_err-policies.field-0.0 c.from_residual.ensures.1
    (c.in_err-policies.ensures stand.0 stand.1)) refl

pub returns : goal.returns
returns c list up held same =
    c.in_ok-of.ensures ∙ all_set_is policy_key_cmp policy_key_total policy_key_cmp-IsAntisymmetric key_of list
    c.in_ok-policies.policies.items up
    (items_read IsKeyedPolicy policy_row c.args.rows.now list held same c.in_ok-policies.policies.items
    c.in_ok-policies.ensures)
