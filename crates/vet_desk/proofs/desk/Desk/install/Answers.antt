use Rattle.std.proofs.Common.{ℕ, ◌+◌, Option, Some, None, subst, sym}
use Rattle.vet_desk.specs.DeskView.{desk_changed}
use Rattle.vet_desk.specs.SoundDesk.{IsSoundDesk}
use Rattle.vet_desk.proofs.Prepared.{sound_after}
use Rattle.vet_desk.proofs.desk.Desk.install.Goals as goal

pub invariant_of-self : goal.invariant_of-self
invariant_of-self c =
    let p = c.requires.prepared in
    let sound : IsSoundDesk (desk_changed c.args.change None c.args.self.now.content) =
    sound_after c.args.self.now p.0 p.1.0 c.args.change None p.1.1 in
    let made = rw c.in-Join.is at sound in
    subst (λ ms. IsSoundDesk (record {
      members = ms;
      reviews = c.self.inside.reviews.items;
      next_review =
          c.self.inside.next_review;
    })) (sym c.join.ensures)
    (rw (sym c.self.view_is) at made)

pub invariant_of-self-in-Open : goal.invariant_of-self-in-Open
invariant_of-self-in-Open c =
    let p = c.requires.prepared in
    let sound : IsSoundDesk (desk_changed c.args.change None c.args.self.now.content) =
    sound_after c.args.self.now p.0 p.1.0 c.args.change None p.1.1 in
    let made = rw c.in-Open.is at sound in
    subst (λ rs. IsSoundDesk (record {
      members = c.self.inside.members.items;
      reviews = rs;
      next_review =
          c.self.inside.next_review + 1;
    })) (sym c.push_reserved.ensures.items)
    (rw (sym c.self.view_is) at made)

pub invariant_of-self-in-Turn : goal.invariant_of-self-in-Turn
invariant_of-self-in-Turn c =
    let p = c.requires.prepared in
    let sound : IsSoundDesk (desk_changed c.args.change None c.args.self.now.content) =
    sound_after c.args.self.now p.0 p.1.0 c.args.change None p.1.1 in
    let made = rw c.in-Turn.is at sound in
    subst (λ rs. IsSoundDesk (record {
      members = c.self.inside.members.items;
      reviews = rs;
      next_review =
          c.self.inside.next_review;
    })) (sym c.turn.ensures.items)
    (rw (sym c.self.view_is) at made)

pub invariant_of-self-in-Some : goal.invariant_of-self-in-Some
invariant_of-self-in-Some c =
    let p = c.requires.prepared in
    let entry : Option ℕ = Some c.in-Some.entry in
    let sound : IsSoundDesk (desk_changed c.args.change entry c.args.self.now.content) =
    sound_after c.args.self.now p.0 p.1.0 c.args.change entry p.1.1 in
    let made = rw c.in-Finish.is at sound in
    subst (λ rs. IsSoundDesk (record {
      members = c.self.inside.members.items;
      reviews = rs;
      next_review =
          c.self.inside.next_review;
    })) (sym c.turn-in-Some.ensures.items)
    (rw (sym c.self.view_is) at made)
