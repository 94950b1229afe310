-- Two comparisons, one after the other (ours).
use Rattle.std.specs.Prelude.{◌≡◌}
use Rattle.std.specs.Ordering.{ordering_then}
use Rattle.std.specs.declared.cmp.Ordering.{Ordering}
use Rattle.std.specs.declared.cmp.Ordering.TheVariants.{Less, Equal, Greater}
use Rattle.std.proofs.Common.{refl}

-- if two comparisons, one after the other, tie, then so does the first
pub then_first : (r s : Ordering) → ordering_then r s ≡ Equal → r ≡ Equal
then_first Less s e = cc e
then_first Equal s e = refl
then_first Greater s e = cc e

-- and so does the second
pub then_second : (r s : Ordering) → ordering_then r s ≡ Equal → s ≡ Equal
then_second Less s e = cc e
then_second Equal s e = e
then_second Greater s e = cc e
