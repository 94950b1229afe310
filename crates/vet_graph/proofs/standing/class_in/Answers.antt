use Rattle.std.proofs.Common.{sym, Ok, Err, rules}
use Rattle.std.proofs.lemmas.Fn.{always_returns_same}
use Rattle.vet_demand.specs.Pair.{pair_cmp}
use Rattle.vet_graph.specs.declared.standing.Stand.{Stand}
use Rattle.vet_graph.proofs.ClassSearch.{pair_asked, searched}
use Rattle.vet_graph.proofs.standing.class_in.Goals as goal

pub returns-in-Ok : goal.returns-in-Ok
returns-in-Ok c =
    let p = pair_asked c.args.«package».now c.args.version.now c.args.criterion.now in
    let found = c.in-Ok.ensures.position (λ (s : Stand). pair_cmp s.pair p)
    (always_returns_same _ _ _ (λ a r f' k. search rules)) in
    sym (searched c.args.standing.now p (Ok c.in-Ok.place) c.requires c.in-Ok.ensures.bound found
    c.index-standing-place.result)

pub returns-in-Err : goal.returns-in-Err
returns-in-Err c =
    let p = pair_asked c.args.«package».now c.args.version.now c.args.criterion.now in
    let found = c.in-Err.ensures.position (λ (s : Stand). pair_cmp s.pair p)
    (always_returns_same _ _ _ (λ a r f' k. search rules)) in
    sym (searched c.args.standing.now p (Err c.in-Err.field-0) c.requires c.in-Err.ensures.bound found)
