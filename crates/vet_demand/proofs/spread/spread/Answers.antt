use Rattle.std.proofs.Common.{◌<◌, ap, arith, length, subst, sym}
use Rattle.std.specs.List.{All, Contains}
use Rattle.std.proofs.lemmas.List.{length-take}
use Rattle.vet_demand.proofs.Spreading.{IsDone-next, IsDone-none, IsReaching-start, IsSpread-done}
use Rattle.vet_demand.proofs.Spreading.{length-le_from_IsReaching, next_below, next_led, next_list}
use Rattle.vet_demand.specs.Spread.{lists_in}
use Rattle.vet_demand.proofs.spread.spread.Goals as goal

pub nodes-init : goal.nodes-init
nodes-init c = record {
  reaching = IsReaching-start c.args.place (lists_in c.args.onward.now)
      c.args.sets.now.items c.in_ok-reached.reached.items
      (rw c.as_slice.ensures.value at c.in_ok-reached.ensures.ok);
  in_range = omega arith;
  done = IsDone-none (lists_in c.args.onward.now) c.in_ok-reached.reached.items;
}

pub reach_all-requires-clause-below : goal.reach_all-requires-clause-below
reach_all-requires-clause-below c =
    let low : c.nodes.next < length c.nodes.reached.items = omega (
      arith,
      c.nodes.reached.ok,
      c.nodes-test.true,
      c.len.ensures,
    ) in
    next_below c.args.place c.args.onward.now c.args.sets.now.items c.nodes.sets.items c.nodes.reached.items
    c.nodes.invariant.reaching c.requires.lists
    c.nodes.next c.index-from.result.now c.index-onward-from.result c.as_slice-in-nodes.result.now low
    c.index-from.ensures c.index-onward-from.is c.as_slice-in-nodes.ensures.value c.requires.below

pub nodes-smaller : goal.nodes-smaller
nodes-smaller c =
    let few = length-le_from_IsReaching c.args.place (lists_in c.args.onward.now)
    c.args.sets.now.items c.nodes.sets.items c.nodes.reached.items c.nodes.invariant.reaching in
    omega (arith, few, c.nodes.reached.ok, c.nodes-test.true, c.len.ensures)

pub nodes-preserved : goal.nodes-preserved
nodes-preserved c =
    let lists = lists_in c.args.onward.now in
    let old = c.nodes.reached.items in
    let new = c.reach_all.new.reached.items in
    let low : c.nodes.next < length old = omega (arith, c.nodes.reached.ok, c.nodes-test.true, c.len.ensures) in
    let led = next_led c.args.place c.args.onward.now c.args.sets.now.items c.nodes.sets.items old
    c.nodes.invariant.reaching c.requires.lists
    c.nodes.next c.index-from.result.now c.index-onward-from.result c.as_slice-in-nodes.result.now low
    c.index-from.ensures c.index-onward-from.is c.as_slice-in-nodes.ensures.value in
    let same = next_list c.args.place c.args.onward.now c.args.sets.now.items c.nodes.sets.items old
    c.nodes.invariant.reaching c.requires.lists
    c.nodes.next c.index-from.result.now c.index-onward-from.result c.as_slice-in-nodes.result.now low
    c.index-from.ensures c.index-onward-from.is c.as_slice-in-nodes.ensures.value in
    let more = c.in_ok-reach_all.ensures.reaches lists c.args.sets.now.items c.nodes.invariant.reaching led in
    record {
      reaching = more.0;
      in_range = omega (arith, low, length-take (length old) new, ap length c.in_ok-reach_all.ensures.kept);
      done = IsDone-next lists old new c.nodes.next 0 low c.in_ok-reach_all.ensures.kept c.nodes.invariant.done
          (subst (All (Contains new)) (sym same) more.1);
    }

pub returns-clause-ok : goal.returns-clause-ok
returns-clause-ok c =
    IsSpread-done c.args.place (lists_in c.args.onward.now)
    c.args.sets.now.items c.nodes.sets.items c.nodes.reached.items c.nodes.invariant.reaching
    c.nodes.next (omega (arith, c.nodes.reached.ok, c.nodes-test.false, c.len.ensures)) c.nodes.invariant.done
