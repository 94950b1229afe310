use Rattle.std.proofs.Common.{sym}
use Rattle.vet_masks.proofs.Tabling.{same-within, within-itself}
use Rattle.vet_masks.proofs.table.is_same_table.Goals as goal

pub returns-then-are_within : goal.returns-then-are_within
returns-then-are_within c = (
  λ t. same-within c.args.table.now c.args.other.now (c.are_within.ensures.0 c.if-are_within.true)
      (c.are_within-then-are_within.ensures.0 t),
  λ e. c.are_within-then-are_within.ensures.1 (within-itself c.args.other.now c.args.table.now (sym e)),
)
