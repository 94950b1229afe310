use Rattle.std.proofs.Common.{length, sym, ap, ◌∙◌, arith}
use Rattle.std.proofs.lemmas.Bool.{false≢true}
use Rattle.std.specs.FinSet as set
use Rattle.std.specs.Ordering.{nat_cmp}
use Rattle.vet_masks.specs.Masks.{reached}
use Rattle.vet_masks.proofs.search.Reached.nothing.Goals as goal

pub returns-clause-answer : goal.returns-clause-answer
returns-clause-answer c bar taken = record {
  index = c.nothing.ensures.index;
  count = ap length c.new.ensures.items ∙ sym (ap length c.nothing.ensures.after);
  reaches =
      record {
        sound = λ q v h. absurd (false≢true
            (sym (ap (λ hs. reached hs q v) c.new.ensures.items ∙ set.contains-empty nat_cmp q) ∙ h));
        done = λ q p l. absurd (omega (arith, l));
      };
  looks = omega arith;
}
