use Rattle.std.proofs.Common.{◌≤◌, arith, length}
use Rattle.vet_demand.proofs.Merging.{after_within, length-beside, merging_all, merging_next}
use Rattle.vet_demand.specs.Audited.{audited_list}
use Rattle.vet_demand.proofs.audited.merge.Goals as goal

pub overflow_add-at : goal.overflow_add-at
overflow_add-at c =
    let f = c.args.first.now in
    let s = c.args.second.now in
    omega (
      arith,
      c.nodes.invariant.within_first,
      c.nodes.invariant.within_second,
      length-beside f.nodes.items f.needs.items c.requires.first,
      length-beside s.nodes.items s.needs.items c.requires.second,
      f.nodes.ok,
      s.nodes.ok,
      f.nodes.small,
      s.nodes.small,
    )

pub nodes-preserved : goal.nodes-preserved
nodes-preserved c =
    let f = audited_list c.args.first.now in
    let s = audited_list c.args.second.now in
    let at = c.nodes.at in
    let next = c.after-at.result in
    let order = c.heads_cmp-order.result in
    let puts = c.in_ok-put_head.ensures.ok in
    let within = after_within f s at.first at.second next.first next.second order c.nodes.invariant.within_first
    c.nodes.invariant.within_second
    c.heads_cmp-order.ensures c.after-at.ensures in
    record {
      parallel = c.in_ok-put_head.ensures.parallel;
      within_first = within.0;
      within_second = within.1;
      merging = merging_next f s c.requires.first_in_order c.requires.second_in_order at.first at.second
          (audited_list c.nodes.all) (audited_list c.put_head.new.all) c.nodes.invariant.merging
          puts.0 order next.first next.second c.heads_cmp-order.ensures puts.1 c.after-at.ensures puts.2;
    }

pub returns-clause-ok : goal.returns-clause-ok
returns-clause-ok c =
    let f = c.args.first.now in
    let s = c.args.second.now in
    let long = length-beside f.nodes.items f.needs.items c.requires.first in
    let other = length-beside s.nodes.items s.needs.items c.requires.second in
    let first_past : length (audited_list f) ≤ c.nodes.at.first =
    omega (
      arith,
      c.nodes-test.false,
      c.nodes.invariant.within_second,
      c.len.ensures,
      c.len-2.ensures,
      long,
      other,
      f.nodes.ok,
      s.nodes.ok,
    ) in
    let second_past : length (audited_list s) ≤ c.nodes.at.second =
    omega (
      arith,
      f.nodes.ok,
      s.nodes.ok,
      long,
      other,
      c.nodes.invariant.within_first,
      c.nodes-test.false,
      c.len.ensures,
      c.len-2.ensures,
    ) in
    merging_all (audited_list f) (audited_list s) c.nodes.at.first c.nodes.at.second (audited_list c.nodes.all)
    first_past second_past c.nodes.invariant.merging
