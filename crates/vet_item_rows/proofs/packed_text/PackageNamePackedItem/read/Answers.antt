use Rattle.std.proofs.Common.{sym}
use Rattle.vet_base.specs.Name.{read_package_name}
use Rattle.vet_item_rows.proofs.PackedTexts.{no_text, text_is_read}
use Rattle.vet_item_rows.proofs.packed_text.PackageNamePackedItem.read.Goals as goal

pub returns-in-Ok : goal.returns-in-Ok
returns-in-Ok c =
    let read = text_is_read read_package_name c.args.bytes.now c.in-Ok.ensures.cases.1 in
    rw (read, ← c.in-Ok.ensures.cases.0) c.read.ensures.ok

pub returns-in-Err : goal.returns-in-Err
returns-in-Err c = sym (no_text read_package_name c.args.bytes.now c.in-Err.ensures.cases.0)
