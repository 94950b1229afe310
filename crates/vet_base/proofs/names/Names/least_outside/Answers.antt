use Rattle.std.proofs.Common.{sym, ◌∙◌}
use Rattle.std.specs.FinSet as set
use Rattle.vet_base.proofs.Walks.{first_lacked, none_lacked}
use Rattle.vet_base.proofs.names.Names.least_outside.Goals as goal

pub returns-then-not-contains : goal.returns-then-not-contains
returns-then-not-contains c =
    sym (first_lacked (set.contains c.args.known.now) _ _ _ _ c.as_slice-name-items.ensures.members
    c.loop-name-test.true c.name-item.is c.loop-name.invariant (sym c.contains.ensures ∙ c.if-not-contains.true))

pub returns : goal.returns
returns c =
    sym (none_lacked (set.contains c.args.known.now) _ _ _ c.as_slice-name-items.ensures.members
    c.loop-name-test.false c.loop-name.invariant)
