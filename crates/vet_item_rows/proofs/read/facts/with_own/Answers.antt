use Rattle.std.proofs.Common.{List, refl, sym, subst}
use Rattle.vet_base.specs.FurtherCriteria.{further}
use Rattle.vet_base.specs.Items.{SameItems}
use Rattle.vet_base.specs.declared.criterion.Criterion.{Criterion}
use Rattle.vet_item_rows.proofs.Reading.{passed_on}
use Rattle.vet_item_rows.proofs.read.facts.with_own.Goals as goal

pub returns-in_err-criteria-clause-back : goal.returns-in_err-criteria-clause-back
returns-in_err-criteria-clause-back c facts form criteria entries peers =
    rw (passed_on c.from_residual-in_err-criteria.result c.in_err-criteria.field-0.0
    c.from_residual-in_err-criteria.ensures.1 (c.in_err-criteria.ensures facts.criteria form.criteria
    (subst (λ (xs : List Criterion). SameItems xs (further facts.criteria)) (sym c.in_ok-criteria_in.ensures)
    criteria))) refl

pub returns-clause-back : goal.returns-clause-back
returns-clause-back c facts form criteria entries peers =
    record {
      criteria = c.in_ok-criteria.ensures facts.criteria form.criteria
          (subst (λ (xs : List Criterion). SameItems xs (further facts.criteria)) (sym c.in_ok-criteria_in.ensures)
          criteria);
      entries = c.in_ok-in_order.ensures.back facts.entries form.by_number entries;
      peers = peers;
    }
