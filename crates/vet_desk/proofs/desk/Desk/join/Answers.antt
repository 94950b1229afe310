use Rattle.std.proofs.Common.{◌-◌, ap, subst, sym, ◌∙◌, vec_capacity, vec_len}
use Rattle.vet_desk.specs.Desk.{with_member}
use Rattle.vet_desk.specs.DeskView.{DeskView}
use Rattle.vet_desk.specs.SoundDesk.{IsSoundDesk}
use Rattle.vet_desk.proofs.Prepared.{joined}
use Rattle.vet_desk.proofs.desk.Desk.join.Goals as goal

pub returns-clause-change : goal.returns-clause-change
returns-clause-change c =
    let members = c.reserve.new.self.items in
    let reviews = c.self.inside.reviews in
    let d : DeskView = record {
      content = record { members = members; reviews = reviews.items; next_review = c.self.inside.next_review };
      room = record { members = c.reserve.new.self.room; reviews = vec_capacity reviews - vec_len reviews };
    } in
    let sound : IsSoundDesk d.content =
    subst (λ ms. IsSoundDesk (record {
      members = ms;
      reviews = reviews.items;
      next_review =
          c.self.inside.next_review;
    }))
    (sym c.reserve.ensures.items) c.self.invariant in
    let same = c.reserve.ensures.items ∙ ap (λ d. d.content.members) c.self.view_is in
    λ day. joined d sound day c.args.name.now c.edit_setting.result (rw same c.requires)
    (c.edit_setting.ensures.edit ∙ ap (λ name. with_member name members) c.in_ok-copied.ensures)
    (c.edit_setting.ensures.fits c.in_ok-reserve.ensures.ok)
