use Rattle.std.proofs.Common.{◌∙◌, Bool, ◌&&◌, sym, ap}
use Rattle.std.specs.List.{list_all, list_any}
use Rattle.std.specs.Ordering.{eq_by_cmp}
use Rattle.vet_tables.proofs.Among.{same_by_order}
use Rattle.vet_tables.proofs.same_items.have_same_items.Goals as goal

pub returns-in_ok-are_among-2 : goal.returns-in_ok-are_among-2
returns-in_ok-are_among-2 g c =
    let cmp = g.T.Ord.cmp in
    let xs = c.args.xs.now in
    let ys = c.args.ys.now in
    let back = list_all (λ y. list_any (eq_by_cmp cmp y) xs) ys in
    same_by_order g.T.PartialEq.eq cmp g.met.T.Exactly.only_itself g.met.T.Ord.matches_eq xs ys
    c.in_ok-are_among-2.field-0
    (c.in_ok-are_among-2.ensures
    ∙ sym (ap (λ (a : Bool). a && back) (sym c.in_ok-are_among.ensures ∙ c.if-branch.true)))

pub returns-else-branch : goal.returns-else-branch
returns-else-branch g c =
    let cmp = g.T.Ord.cmp in
    let xs = c.args.xs.now in
    let ys = c.args.ys.now in
    let back = list_all (λ y. list_any (eq_by_cmp cmp y) xs) ys in
    same_by_order g.T.PartialEq.eq cmp g.met.T.Exactly.only_itself g.met.T.Ord.matches_eq xs ys
    c.in_ok-are_among.field-0
    (c.if-branch.false
    ∙ sym (ap (λ (a : Bool). a && back) (sym c.in_ok-are_among.ensures ∙ c.if-branch.false)))
