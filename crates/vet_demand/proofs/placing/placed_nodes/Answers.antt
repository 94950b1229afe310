use Rattle.std.proofs.Common.{◌≡◌, length, refl, rules}
use Rattle.std.specs.BTreeMap.{get}
use Rattle.std.specs.Ordering.{nat_cmp}
use Rattle.vet_demand.proofs.PlacingLemmas.{ArePlaced-next, ArePlaced-none}
use Rattle.vet_demand.proofs.placing.placed_nodes.Goals as goal

pub nodes-init : goal.nodes-init
nodes-init c =
    ArePlaced-none c.args.nodes.keys c.into_iter-numbered-iterator.result c.new.result.items
    (get nat_cmp c.new-2.result)
    c.into_iter-numbered-iterator.ensures.into_iter_gives.0 c.new.ensures.items (λ k. rw c.new-2.ensures.empty refl)
    c.requires

pub nodes-preserved : goal.nodes-preserved
nodes-preserved c =
    let place : c.len-place.result ≡ length c.nodes.placed.nodes.items = search rules in
    ArePlaced-next c.args.nodes.keys c.nodes.numbered-iterator c.next.new.self c.nodes.placed.nodes.items
    c.push.new.self.items
    (get nat_cmp c.nodes.placed.places) (get nat_cmp c.insert.new.self) c.in-Some.numbered c.nodes.invariant
    (rw c.in-Some.is at c.next.ensures.steps) c.in_ok-push.ensures.items
    (λ k. rw place at (c.in_ok-insert.ensures.updates.0 k))
