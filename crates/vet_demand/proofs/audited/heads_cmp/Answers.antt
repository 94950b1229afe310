use Rattle.std.proofs.Common.{arith}
use Rattle.vet_demand.proofs.Merging.{end_first, end_second, heads_are}
use Rattle.vet_demand.proofs.audited.heads_cmp.Goals as goal

pub returns-then-len-at : goal.returns-then-len-at
returns-then-len-at c =
    let f = c.args.first.now in
    let s = c.args.second.now in
    end_second f.nodes.items s.nodes.items f.needs.items s.needs.items c.requires.first c.requires.second
    c.args.at.first c.args.at.second c.requires.left
    (omega (arith, s.nodes.ok, c.if-len-at.true, c.len.ensures))

pub returns-then-len-at-2 : goal.returns-then-len-at-2
returns-then-len-at-2 c =
    let f = c.args.first.now in
    let s = c.args.second.now in
    end_first f.nodes.items s.nodes.items f.needs.items s.needs.items c.requires.first c.requires.second
    c.args.at.first c.args.at.second
    (omega (arith, f.nodes.ok, c.if-len-at-2.true, c.len-2.ensures))
    (omega (arith, s.nodes.ok, c.if-len-at.false, c.len.ensures))

pub returns : goal.returns
returns c =
    let f = c.args.first.now in
    let s = c.args.second.now in
    heads_are f.nodes.items s.nodes.items f.needs.items s.needs.items c.requires.first c.requires.second
    c.args.at.first c.args.at.second c.cmp_place.result c.index.result.now c.index-2.result.now
    (omega (arith, f.nodes.ok, c.if-len-at-2.false, c.len-2.ensures))
    (omega (arith, s.nodes.ok, c.if-len-at.false, c.len.ensures))
    c.index.ensures c.index-2.ensures c.cmp_place.ensures
