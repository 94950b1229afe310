use Rattle.std.proofs.Common.{sym, ◌∙◌}
use Rattle.vet_entries.proofs.MappedCriteria.{none_in}
use Rattle.vet_entries.proofs.criteria_map.CriteriaMap.is_empty.Goals as goal

pub returns : goal.returns
returns c =
    let h = none_in c.self.inside.items.items c.args.self.now c.self.invariant c.self.view_is in
    (λ t. h.0 (sym c.is_empty.ensures ∙ t), λ e. c.is_empty.ensures ∙ h.1 e)
