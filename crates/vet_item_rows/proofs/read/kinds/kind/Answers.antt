use Rattle.std.proofs.Common.{◌≡◌}
use Rattle.vet_item_rows.specs.EntryRows.{unused, with_kind}
use Rattle.vet_item_rows.proofs.read.kinds.kind.Goals as goal

pub returns-in_err-kind_cells : goal.returns-in_err-kind_cells
returns-in_err-kind_cells c held (can, is) =
    cc (c.in_err-kind_cells.ensures held is)

pub returns : goal.returns
returns c held (can, is) =
    let cells : c.in_ok-kind_cells.field-0 ≡ with_kind held.entry.kind unused = cc (c.in_ok-kind_cells.ensures held is)
    in
    c.kind_of.ensures held.entry.kind can.1 (can.0.kind, (unused, cells))
