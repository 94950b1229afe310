use Rattle.std.proofs.Common.{sym, ap, ◌∙◌}
use Rattle.std.specs.FinSet as set
use Rattle.std.proofs.lemmas.List.{get_or_default}
use Rattle.vet_base.specs.CriteriaSet.{has}
use Rattle.vet_masks.proofs.masks.wait.Goals as goal

pub returns-then-exceeds-clause-waits : goal.returns-then-exceeds-clause-waits
returns-then-exceeds-clause-waits c w =
    let at = c.exceeds.ensures.some c.if-exceeds.true in
    w c.args.at at.0
    (ap (has at.0) (get_or_default c.args.masks.now.held.items c.args.at set.empty c.index.result.now
    c.requires.held ∙ sym c.index.ensures) ∙ at.2)
    (ap (has at.0) (get_or_default c.args.masks.now.passed.items c.args.at set.empty c.index-2.result.now
    (rw c.requires.passed c.requires.held) ∙ sym c.index-2.ensures) ∙ at.3)
