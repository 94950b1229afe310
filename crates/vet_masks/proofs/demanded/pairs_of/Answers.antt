use Rattle.std.proofs.Common.{◌≡◌, ◌-◌, length, take, drop, ap, ◌∙◌, arith}
use Rattle.std.proofs.lemmas.List.{length-drop, take_all}
use Rattle.vet_graph.specs.Touched.{pairs_at}
use Rattle.vet_masks.proofs.SideBySide.{range-is}
use Rattle.vet_masks.proofs.demanded.pairs_of.Goals as goal

pub returns-clause-pairs : goal.returns-clause-pairs
returns-clause-pairs c =
    let pairs = c.pairs-pairs.result.now in
    let low = c.before-2.result in
    let behind : take (length pairs - low) (drop low pairs) ≡ drop low pairs =
    take_all (length pairs - low) (drop low pairs) (omega (arith, length-drop low pairs)) in
    ap (take c.up_to.result) behind
    ∙ range-is c.args.«package».now pairs low c.up_to.result c.before-2.ensures.bound c.before-2.ensures.point
    (rw behind at c.up_to.ensures.bound) (rw behind at c.up_to.ensures.point)
    ∙ ap (pairs_at c.args.«package».now) c.pairs-pairs.ensures.value
