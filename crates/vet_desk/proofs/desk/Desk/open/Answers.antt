use Rattle.std.proofs.Common.{◌-◌, ap, subst, sym, ◌∙◌, arith, vec_capacity, vec_len}
use Rattle.vet_desk.specs.DeskView.{DeskView}
use Rattle.vet_desk.specs.SoundDesk.{IsSoundDesk}
use Rattle.vet_desk.proofs.Prepared.{opening}
use Rattle.vet_desk.proofs.desk.Desk.open.Goals as goal

pub returns-clause-change : goal.returns-clause-change
returns-clause-change c =
    let reviews = c.reserve.new.self in
    let d : DeskView = record {
      content = record {
        members = c.self.inside.members.items;
        reviews = reviews.items;
        next_review =
            c.self.inside.next_review;
      };
      room = record { members = c.self.inside.members.room; reviews = vec_capacity reviews - vec_len reviews };
    } in
    let sound : IsSoundDesk d.content =
    subst (λ rs. IsSoundDesk (record {
      members = c.self.inside.members.items;
      reviews = rs;
      next_review =
          c.self.inside.next_review;
    }))
    (sym c.reserve.ensures.items) c.self.invariant in
    let same = c.reserve.ensures.items ∙ ap (λ d. d.content.reviews) c.self.view_is in
    let number = ap (λ d. d.content.next_review) c.self.view_is in
    opening d sound c.args.day c.args.«package».now c.args.version.now c.args.criteria.now c.in_ok-review.review
    (rw same c.requires.few) (rw number c.requires.number)
    c.in_ok-review.ensures (omega (arith, c.in_ok-reserve.ensures.ok))
