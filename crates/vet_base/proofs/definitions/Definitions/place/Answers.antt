use Rattle.std.proofs.Common.{◌∙◌}
use Rattle.vet_base.proofs.Rising.{searched_in}
use Rattle.vet_base.proofs.Tables.{few_kept, place_told, within_few}
use Rattle.vet_base.proofs.definitions.Definitions.place.Goals as goal

pub returns-clause-value : goal.returns-clause-value
returns-clause-value c =
    c.ok.ensures.value
    ∙ place_told _ _ c.self.invariant _ c.self.view_is c.args.name.now c.binary_search.result
    (searched_in _ _ _ c.binary_search.result c.deref.ensures.value c.self.invariant.rising
    c.binary_search.ensures.bound c.binary_search.ensures.position)

pub returns-clause-within : goal.returns-clause-within
returns-clause-within c =
    let few = few_kept c.self.inside.names.items c.self.inside.criteria.items c.self.invariant in
    rw c.ok.ensures.value
    (within_few c.binary_search.result _ few (rw c.deref.ensures.value at c.binary_search.ensures.bound))
