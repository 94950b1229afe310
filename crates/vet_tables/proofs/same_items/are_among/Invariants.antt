-- What was seen are the items so far; and each of the others so far is one of them.
use Rattle.std.proofs.Common.{◌≡◌, true, take}
use Rattle.std.specs.BTreeSet.{contains}
use Rattle.std.specs.List.{list_all, list_any}
use Rattle.std.specs.Ordering.{eq_by_cmp}
use Rattle.vet_tables.proofs.same_items.are_among.Given as goal

abbrev pub invariant-ys : goal.invariant-ys
invariant-ys g l =
    (x : g.row.T.Denot) → contains g.T.Ord.cmp l.seen x
    ≡ list_any (eq_by_cmp g.T.Ord.cmp x) (take l.y-index l.ys)

abbrev pub invariant-xs : goal.invariant-xs
invariant-xs g l = list_all (λ x. list_any (eq_by_cmp g.T.Ord.cmp x) l.ys) (take l.x-index l.xs) ≡ true
