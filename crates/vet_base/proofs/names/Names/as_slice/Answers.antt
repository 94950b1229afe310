use Rattle.std.proofs.Common.{ap, sym, ◌∙◌}
use Rattle.vet_base.specs.Names.{members}
use Rattle.vet_base.proofs.Rising.{members-from_list}
use Rattle.vet_base.proofs.names.Names.as_slice.Goals as goal

pub returns-clause-members : goal.returns-clause-members
returns-clause-members c =
    c.items.ensures.value ∙ sym (members-from_list c.self.inside.names.items c.self.invariant)
    ∙ ap members c.self.view_is
