use Rattle.std.proofs.Common.{◌≤◌, ◌∙◌, List, ap, arith, length, refl, subst, sym}
use Rattle.vet_base.specs.Defined.{defined}
use Rattle.vet_base.specs.declared.criterion.Criterion.{Criterion}
use Rattle.vet_base.specs.declared.limits.TheConstants.{MOST_PEER_CRITERIA}
use Rattle.vet_item_rows.proofs.PeersMade.{definitions_are}
use Rattle.vet_item_rows.proofs.Reading.{refused_on}
use Rattle.vet_item_rows.proofs.read.tables.definitions_of.Goals as goal

pub returns-then-len-gt-MOST_PEER_CRITERIA : goal.returns-then-len-gt-MOST_PEER_CRITERIA
returns-then-len-gt-MOST_PEER_CRITERIA c table is same =
    let sorted = c.into_items-criteria.ensures.value ∙ c.in_ok-of.ensures in
    let few = subst (λ (xs : List Criterion). length xs ≤ MOST_PEER_CRITERIA) (sym sorted)
    (definitions_are c.args.criteria.items table is same).0 in
    absurd (omega (arith, few, c.len.ensures, c.if-len-gt-MOST_PEER_CRITERIA.true))

pub returns-in_err-of-2 : goal.returns-in_err-of-2
returns-in_err-of-2 c table is same =
    rw (refused_on c.from_residual-in_err-of-2.result c.in_err-of-2.field-0.0 c.from_residual-in_err-of-2.ensures.1
    c.in_err-of-2.ensures.memory) refl

pub returns : goal.returns
returns c table is same =
    let sorted = c.into_items-criteria.ensures.value ∙ c.in_ok-of.ensures in
    c.in_ok-of-2.ensures.ok ∙ ap defined sorted ∙ (definitions_are c.args.criteria.items table is same).1
