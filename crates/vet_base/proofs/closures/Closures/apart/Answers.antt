use Rattle.std.proofs.Common.{ap, ◌∙◌, arith, get_or, replicate, refl}
use Rattle.vet_base.proofs.ListLemmas.{all_alike}
use Rattle.std.specs.FinSet as set
use Rattle.vet_base.specs.declared.limits.TheConstants.{MOST_CRITERIA as most}
use Rattle.vet_base.proofs.closures.Closures.apart.Goals as goal

pub loop-place-init : goal.loop-place-init
loop-place-init c = record {
  long = refl;
  below = λ p l. absurd (omega (arith, l));
  rest = λ p _. ap (λ s. get_or (replicate most s) p set.empty) c.empty-closed.ensures ∙ all_alike set.empty most p;
}
