use Rattle.std.proofs.Common.{◌<◌, ◌^◌, arith, length}
use Rattle.vet_base.specs.Name.{read_name}
use Rattle.vet_item_rows.specs.PackedItems.{as_text}
use Rattle.vet_item_rows.proofs.ColumnsRead.{set_back}
use Rattle.vet_item_rows.proofs.Reading.{reads_found}
use Rattle.vet_item_rows.proofs.read.columns.names.Goals as goal

pub returns : goal.returns
returns c s (can, is) =
    let fits : length c.args.bytes.now < 2 ^ 63 = omega arith in
    reads_found c.in_ok-unpack_names.field-0 s c.found.result c.found.ensures
    (set_back (as_text read_name) s c.args.bytes.now c.in_ok-unpack_names.field-0 can fits is
    c.in_ok-unpack_names.ensures)
