use Rattle.std.proofs.Common.{ap, option_map, ◌∙◌}
use Rattle.vet_entries.specs.declared.criteria_map.MappedCriterion.{MappedCriterion}
use Rattle.vet_entries.proofs.MappedCriteria.{get_is}
use Rattle.vet_entries.proofs.criteria_map.CriteriaMap.get.Goals as goal

pub returns-in-Some : goal.returns-in-Some
returns-in-Some c =
    ap (option_map (λ (m : MappedCriterion). m.criteria)) c.in-Some.ensures
    ∙ get_is c.self.inside.items.items c.args.self.now c.self.invariant c.self.view_is c.args.name.now

pub returns-in-None : goal.returns-in-None
returns-in-None c =
    ap (option_map (λ (m : MappedCriterion). m.criteria)) c.in-None.ensures
    ∙ get_is c.self.inside.items.items c.args.self.now c.self.invariant c.self.view_is c.args.name.now
