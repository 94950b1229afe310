use Rattle.std.proofs.Common.{◌∙◌, refl}
use Rattle.std.specs.Cmp.Lexicographic.{nat_list_cmp_total}
use Rattle.vet_base.proofs.KeyedItems.{all_set_is}
use Rattle.vet_base.proofs.Rising.{R, only_equal}
use Rattle.vet_desk.specs.Desk.{own_name}
use Rattle.vet_item_rows.specs.DeskRows.{member_row}
use Rattle.vet_item_rows.specs.Values.{IsName}
use Rattle.vet_item_rows.proofs.Reading.{passed_on}
use Rattle.vet_item_rows.proofs.SetsRead.{items_read, they_stand}
use Rattle.vet_item_rows.proofs.read.lists.members.Goals as goal

pub returns-in_err-members : goal.returns-in_err-members
returns-in_err-members c list up held same =
    let stand = they_stand IsName member_row c.args.rows.now list held same in
    rw (passed_on c.from_residual.result c.in_err-members.field-0.0 c.from_residual.ensures.1
    (c.in_err-members.ensures stand.0 stand.1)) refl

pub returns : goal.returns
returns c list up held same =
    c.in_ok-of.ensures ∙ all_set_is R nat_list_cmp_total only_equal own_name list c.in_ok-members.members.items up
    (items_read IsName member_row c.args.rows.now list held same c.in_ok-members.members.items c.in_ok-members.ensures)
