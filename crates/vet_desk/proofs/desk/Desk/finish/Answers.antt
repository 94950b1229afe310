use Rattle.std.proofs.Common.{get_or, ap, ◌∙◌}
use Rattle.std.proofs.lemmas.List.{get_or_default}
use Rattle.vet_desk.specs.Desk.{entry_by}
use Rattle.vet_desk.proofs.Prepared.{finishing}
use Rattle.vet_desk.proofs.desk.Desk.finish.Goals as goal

pub returns-clause-change : goal.returns-clause-change
returns-clause-change c =
    let place = c.place_held-place.result in
    let reviews = c.args.self.now.content.reviews in
    let member = c.args.member.now in
    let reviewed = c.args.reviewed.now in
    let indexed = c.index.ensures ∙ ap (λ d. get_or d.content.reviews place c.index.result.now) c.self.view_is in
    λ day. finishing c.args.self.now c.place_held-place.ensures.sound c.args.number place
    c.place_held-place.ensures.place day member reviewed c.in_ok-entry.entry
    (λ r at. c.in_ok-entry.ensures.ok
    ∙ ap (entry_by member reviewed)
    (indexed ∙ get_or_default reviews place c.index.result.now r c.place_held-place.ensures.place.0 ∙ at))
