use Rattle.std.proofs.Common.{◌∙◌}
use Rattle.vet_base.proofs.Rising.{searched_in}
use Rattle.vet_base.proofs.Tables.{key_told}
use Rattle.vet_base.proofs.definitions.Definitions.has.Goals as goal

pub returns : goal.returns
returns c =
    c.is_ok.ensures.value
    ∙ key_told _ _ c.self.invariant _ c.self.view_is c.args.name.now c.binary_search.result
    (searched_in _ _ _ c.binary_search.result c.deref.ensures.value c.self.invariant.rising
    c.binary_search.ensures.bound c.binary_search.ensures.position)
