use Rattle.std.proofs.Common.{sym, ◌∙◌}
use Rattle.vet_base.specs.DefinitionsLaws.{criteria_eq-Decides}
use Rattle.vet_base.proofs.DefinitionLaws.{lists_compared}
use Rattle.vet_base.proofs.definitions.DefinitionsPartialEq.eq.Goals as goal

pub returns-clause-value : goal.returns-clause-value
returns-clause-value c =
    c.eq.ensures ∙ lists_compared c.self.inside.names.items c.other.inside.names.items c.self.inside.criteria.items
    c.other.inside.criteria.items
    c.self.invariant c.other.invariant c.args.self.now c.args.other.now c.self.view_is c.other.view_is

pub returns-clause-same : goal.returns-clause-same
returns-clause-same c =
    let value = returns-clause-value c in
    let h = criteria_eq-Decides c.args.self.now c.args.other.now in
    (λ t. h.0 (sym value ∙ t), λ e. value ∙ h.1 e)
