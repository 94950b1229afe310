use Rattle.std.proofs.Common.{◌++◌, ◌∷◌, ◌∙◌, [], ap, refl, subst, sym}
use Rattle.std.proofs.lemmas.List.{append_assoc}
use Rattle.vet_item_rows.specs.ReadBack.{EachStandsFor}
use Rattle.vet_item_rows.specs.ReadPeers.{IsGroupOf}
use Rattle.vet_item_rows.proofs.Reading.{each_between, passed_on, read_more}
use Rattle.vet_item_rows.proofs.read.held_peers.held_peers.Goals as goal

pub returns-in_err-held_peer : goal.returns-in_err-held_peer
returns-in_err-held_peer c xs each =
    let parts = c.groups.invariant.2 ∙ ap (λ gs. c.groups.yielded ++ gs) c.in-Some.ensures.steps.0 in
    let one = each_between IsGroupOf c.groups.yielded c.in-Some.group c.next.new.self.rest.items xs
    (subst (λ gs. EachStandsFor IsGroupOf gs xs) parts each) in
    rw (passed_on c.from_residual.result c.in_err-held_peer.field-0.0 c.from_residual.ensures.1
    (c.in_err-held_peer.ensures one.0 one.1)) refl

pub groups-preserved : goal.groups-preserved
groups-preserved c = (
  tt,
  tt,
  c.groups.invariant.2 ∙ ap (λ gs. c.groups.yielded ++ gs) c.in-Some.ensures.steps.0
      ∙ sym (append_assoc c.groups.yielded (c.in-Some.group ∷ []) c.next.new.self.rest.items),
  rw c.in_ok-push.ensures.items
      (read_more IsGroupOf c.groups.yielded c.in-Some.group c.groups.peers.items c.in_ok-held_peer.field-0
      c.groups.invariant.3 c.in_ok-held_peer.ensures),
)
