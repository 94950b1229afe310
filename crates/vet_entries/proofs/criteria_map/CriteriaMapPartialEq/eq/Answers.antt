use Rattle.std.proofs.Common.{sym, ◌∙◌}
use Rattle.vet_entries.specs.CriteriaMapLaws.{map_eq-Decides}
use Rattle.vet_entries.proofs.MappedCriteria.{entries_are, map_eq-tells}
use Rattle.vet_entries.proofs.criteria_map.CriteriaMapPartialEq.eq.Goals as goal

pub returns-clause-value : goal.returns-clause-value
returns-clause-value c =
    c.eq.ensures.value ∙ map_eq-tells c.self.inside.items.items c.other.inside.items.items c.args.self.now
    c.args.other.now
    (entries_are c.self.inside.items.items c.args.self.now c.self.invariant c.self.view_is)
    (entries_are c.other.inside.items.items c.args.other.now c.other.invariant c.other.view_is)

pub returns-clause-same : goal.returns-clause-same
returns-clause-same c =
    let value = returns-clause-value c in
    let h = map_eq-Decides c.args.self.now c.args.other.now in
    (λ t. h.0 (sym value ∙ t), λ e. value ∙ h.1 e)
