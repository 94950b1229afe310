use Rattle.std.proofs.Common.{ap, subst, sym, ◌∙◌}
use Rattle.vet_base.specs.Names.{IsRising}
use Rattle.vet_entries.specs.CriteriaMap.{by_name, names_of}
use Rattle.vet_entries.proofs.MappedCriteria.{IsRising-names, entries_are}
use Rattle.vet_entries.proofs.criteria_map.CriteriaMap.items.Goals as goal

pub returns-clause-entries : goal.returns-clause-entries
returns-clause-entries c = ap by_name c.items.ensures.value ∙ entries_are c.self.inside.items.items c.args.self.now
    c.self.invariant c.self.view_is

pub returns-clause-rising : goal.returns-clause-rising
returns-clause-rising c = subst (λ items. IsRising (names_of items)) (sym c.items.ensures.value)
    (IsRising-names c.self.inside.items.items c.self.invariant)
