use Rattle.std.proofs.Common.{subst, sym}
use Rattle.vet_desk.specs.declared.change.DeskChange.TheVariants.{Turn}
use Rattle.vet_desk.specs.declared.command.DeskCommand.TheVariants.{AssignReview}
use Rattle.vet_desk.specs.declared.review.ReviewState.TheVariants.{Assigned}
use Rattle.vet_desk.specs.DeskView.{IsDeskChange}
use Rattle.vet_desk.proofs.Prepared.{assigning}
use Rattle.vet_desk.proofs.desk.Desk.assign.Goals as goal

pub returns-clause-change : goal.returns-clause-change
returns-clause-change c =
    let d = c.args.self.now in
    let n = c.args.number in
    let place = c.place_held-place.result in
    let member = c.args.member.now in
    λ day. subst (λ name. IsDeskChange d day (AssignReview n member) (Turn place (Assigned name)))
    (sym c.in_ok-copied.ensures)
    (assigning d c.place_held-place.ensures.sound n place c.place_held-place.ensures.place day member c.requires.member)
