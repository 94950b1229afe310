use Rattle.std.proofs.Common.{length, nat_le}
use Rattle.std.proofs.lemmas.Bool.{le-leb}
use Rattle.vet_base.specs.declared.limits.TheConstants.{MOST_TEXT_BYTES}
use Rattle.vet_item_rows.proofs.PackedTexts.{read_as_itself}
use Rattle.vet_rows.proofs.held_register.values.TextCanBeHeld.is_held.Goals as goal

pub returns : goal.returns
returns c =
    read_as_itself (λ t. nat_le (length t) MOST_TEXT_BYTES) c.args.self.now c.as_str.result.now c.as_str.utf8
    c.as_str.ensures.value (le-leb (length c.args.self.now) MOST_TEXT_BYTES c.as_str.ensures.short)
