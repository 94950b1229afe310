use Rattle.std.proofs.Common.{sym, ◌∙◌}
use Rattle.std.specs.FinMap as map
use Rattle.vet_base.proofs.Walks.{first_lacked, none_lacked}
use Rattle.vet_base.proofs.criteria_table.CriteriaTable.least_unknown.Goals as goal

pub returns : goal.returns
returns c =
    sym (none_lacked (map.contains_key c.args.self.now) _ _ _ c.as_slice-name-items.ensures.members
    c.loop-name-test.false c.loop-name.invariant)

pub returns-then-not-has : goal.returns-then-not-has
returns-then-not-has c =
    sym (first_lacked (map.contains_key c.args.self.now) _ _ _ _ c.as_slice-name-items.ensures.members
    c.loop-name-test.true c.name-item.is c.loop-name.invariant (sym c.has.ensures ∙ c.if-not-has.true))
