use Rattle.std.proofs.Common.{◌≡◌, ◌++◌, ◌∷◌, [], arith}
use Rattle.std.proofs.lemmas.Result.{IfOk-weaker}
use Rattle.vet_demand.proofs.Merging.{equal_low, greater_low, less_low, puts_both, puts_first, puts_second}
use Rattle.vet_demand.specs.Audited.{PutsHead, audited_list}
use Rattle.vet_demand.proofs.audited.put_head.Goals as goal

pub index-requires : goal.index-requires
index-requires c =
    let f = c.args.first.now in
    let s = c.args.second.now in
    let low = less_low f.nodes.items s.nodes.items f.needs.items s.needs.items c.requires.first c.requires.second
    c.args.at.first c.args.at.second c.args.order c.requires.heads c.in-Less.is in
    omega (arith, f.nodes.ok, low)

pub index-requires-in-Less : goal.index-requires-in-Less
index-requires-in-Less c =
    let f = c.args.first.now in
    let s = c.args.second.now in
    let low = less_low f.nodes.items s.nodes.items f.needs.items s.needs.items c.requires.first c.requires.second
    c.args.at.first c.args.at.second c.args.order c.requires.heads c.in-Less.is in
    omega (arith, f.needs.ok, c.requires.first, low)

pub index-requires-in-Equal : goal.index-requires-in-Equal
index-requires-in-Equal c =
    let f = c.args.first.now in
    let s = c.args.second.now in
    let low = equal_low f.nodes.items s.nodes.items f.needs.items s.needs.items c.requires.first c.requires.second
    c.args.at.first c.args.at.second c.args.order c.requires.heads c.in-Equal.is in
    omega (arith, f.needs.ok, c.requires.first, low.0)

pub index-requires-in-Equal-2 : goal.index-requires-in-Equal-2
index-requires-in-Equal-2 c =
    let f = c.args.first.now in
    let s = c.args.second.now in
    let low = equal_low f.nodes.items s.nodes.items f.needs.items s.needs.items c.requires.first c.requires.second
    c.args.at.first c.args.at.second c.args.order c.requires.heads c.in-Equal.is in
    omega (arith, s.needs.ok, c.requires.second, low.1)

pub index-requires-in-Equal-3 : goal.index-requires-in-Equal-3
index-requires-in-Equal-3 c =
    let f = c.args.first.now in
    let s = c.args.second.now in
    let low = equal_low f.nodes.items s.nodes.items f.needs.items s.needs.items c.requires.first c.requires.second
    c.args.at.first c.args.at.second c.args.order c.requires.heads c.in-Equal.is in
    omega (arith, f.nodes.ok, low.0)

pub index-requires-in-Greater : goal.index-requires-in-Greater
index-requires-in-Greater c =
    let f = c.args.first.now in
    let s = c.args.second.now in
    let low = greater_low f.nodes.items s.nodes.items f.needs.items s.needs.items c.requires.first c.requires.second
    c.args.at.first c.args.at.second c.args.order c.requires.heads c.in-Greater.is in
    omega (arith, s.nodes.ok, low)

pub index-requires-in-Greater-2 : goal.index-requires-in-Greater-2
index-requires-in-Greater-2 c =
    let f = c.args.first.now in
    let s = c.args.second.now in
    let low = greater_low f.nodes.items s.nodes.items f.needs.items s.needs.items c.requires.first c.requires.second
    c.args.at.first c.args.at.second c.args.order c.requires.heads c.in-Greater.is in
    omega (arith, s.needs.ok, c.requires.second, low)

pub returns-in-Less-clause-ok : goal.returns-in-Less-clause-ok
returns-in-Less-clause-ok c =
    let f = c.args.first.now in
    let s = c.args.second.now in
    let low = less_low f.nodes.items s.nodes.items f.needs.items s.needs.items c.requires.first c.requires.second
    c.args.at.first c.args.at.second c.args.order c.requires.heads c.in-Less.is in
    let old = audited_list c.args.all.now in
    let new = audited_list c.push.new.self in
    IfOk-weaker c.push.result
    (λ _. new ≡ old ++ (record { node = c.index.result.now.now; needs = c.index-in-Less.result.now }) ∷ [])
    (λ _. PutsHead (audited_list f) (audited_list s) c.args.at.first c.args.at.second old new c.args.order)
    (λ _ pushed. puts_first f.nodes.items s.nodes.items f.needs.items s.needs.items c.requires.first
    c.requires.second c.args.at.first c.args.at.second old new c.args.order c.index.result.now
    c.index-in-Less.result.now c.in-Less.is low c.index.ensures c.index-in-Less.ensures pushed)
    c.push.ensures.pushed

pub returns-in-Equal-clause-ok : goal.returns-in-Equal-clause-ok
returns-in-Equal-clause-ok c =
    let f = c.args.first.now in
    let s = c.args.second.now in
    let low = equal_low f.nodes.items s.nodes.items f.needs.items s.needs.items c.requires.first c.requires.second
    c.args.at.first c.args.at.second c.args.order c.requires.heads c.in-Equal.is in
    let old = audited_list c.args.all.now in
    let new = audited_list c.push-in-Equal.new.self in
    IfOk-weaker c.push-in-Equal.result
    (λ _. new ≡ old ++ (record { node = c.index-in-Equal-3.result.now.now; needs = c.union-needs.result }) ∷ [])
    (λ _. PutsHead (audited_list f) (audited_list s) c.args.at.first c.args.at.second old new c.args.order)
    (λ _ pushed. puts_both f.nodes.items s.nodes.items f.needs.items s.needs.items c.requires.first
    c.requires.second c.args.at.first c.args.at.second old new c.args.order c.index-in-Equal-3.result.now
    c.index-in-Equal.result.now c.index-in-Equal-2.result.now c.union-needs.result c.in-Equal.is low.0 low.1
    c.index-in-Equal-3.ensures c.index-in-Equal.ensures c.index-in-Equal-2.ensures c.union-needs.ensures pushed)
    c.push-in-Equal.ensures.pushed

pub returns-in-Greater-clause-ok : goal.returns-in-Greater-clause-ok
returns-in-Greater-clause-ok c =
    let f = c.args.first.now in
    let s = c.args.second.now in
    let low = greater_low f.nodes.items s.nodes.items f.needs.items s.needs.items c.requires.first c.requires.second
    c.args.at.first c.args.at.second c.args.order c.requires.heads c.in-Greater.is in
    let old = audited_list c.args.all.now in
    let new = audited_list c.push-in-Greater.new.self in
    IfOk-weaker c.push-in-Greater.result
    (λ _. new ≡ old ++ (record {
      node = c.index-in-Greater.result.now.now;
      needs =
          c.index-in-Greater-2.result.now;
    }) ∷ [])
    (λ _. PutsHead (audited_list f) (audited_list s) c.args.at.first c.args.at.second old new c.args.order)
    (λ _ pushed. puts_second f.nodes.items s.nodes.items f.needs.items s.needs.items c.requires.first
    c.requires.second c.args.at.first c.args.at.second old new c.args.order c.index-in-Greater.result.now
    c.index-in-Greater-2.result.now c.in-Greater.is low c.index-in-Greater.ensures c.index-in-Greater-2.ensures
    pushed)
    c.push-in-Greater.ensures.pushed
