use Rattle.std.proofs.Common.{ap, option_map}
use Rattle.std.proofs.lemmas.Cmp.{nat_list_cmp_total}
use Rattle.vet_demand.specs.DependencyCriteria.{item_name}
use Rattle.vet_demand.specs.declared.dependency_criteria.DependencyItem.{DependencyItem}
use Rattle.vet_base.proofs.KeyedLemmas.{item_of-other, item_of-own}
use Rattle.vet_base.proofs.Rising.{R, only_equal}
use Rattle.vet_demand.proofs.laws.set_criteria_are_found.Goals as goal

pub returns-clause-own : goal.returns-clause-own
returns-clause-own c items name criteria =
    ap (option_map (λ (i : DependencyItem). i.criteria))
    (item_of-own R nat_list_cmp_total only_equal item_name items (record { «package» = name; criteria = criteria }))

pub returns-clause-others : goal.returns-clause-others
returns-clause-others c items name other criteria differs =
    ap (option_map (λ (i : DependencyItem). i.criteria))
    (item_of-other R nat_list_cmp_total only_equal item_name items
    (record { «package» = name; criteria = criteria }) other differs)
