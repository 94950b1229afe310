use Rattle.std.proofs.Common.{sym}
use Rattle.vet_base.specs.Text.{read_text}
use Rattle.vet_item_rows.proofs.PackedTexts.{no_text, text_is_read}
use Rattle.vet_item_rows.proofs.packed_text.TextPackedItem.read.Goals as goal

pub returns-in-Ok : goal.returns-in-Ok
returns-in-Ok c = rw (text_is_read read_text c.args.bytes.now c.in-Ok.ensures.cases.1, ← c.in-Ok.ensures.cases.0)
    c.read.ensures

pub returns-in-Err : goal.returns-in-Err
returns-in-Err c = sym (no_text read_text c.args.bytes.now c.in-Err.ensures.cases.0)
