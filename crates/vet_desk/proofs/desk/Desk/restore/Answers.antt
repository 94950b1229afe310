use Rattle.std.proofs.Common.{ap, subst, sym, ◌∙◌}
use Rattle.vet_desk.specs.SoundDesk.{IsSoundDesk}
use Rattle.vet_desk.proofs.Restored.{set_in_order}
use Rattle.vet_desk.proofs.desk.Desk.restore.Goals as goal

pub invariant_of-result : goal.invariant_of-result
invariant_of-result c =
    subst (λ ms. IsSoundDesk (record {
      members = ms;
      reviews = c.args.reviews.items;
      next_review =
          c.args.next_review;
    }))
    (sym (c.in_ok-of.ensures ∙ set_in_order c.args.members.items c.requires.members.by_name)) c.requires

pub returns-clause-ok : goal.returns-clause-ok
returns-clause-ok c =
    ap (λ ms. record { members = ms; reviews = c.args.reviews.items; next_review = c.args.next_review })
    (c.in_ok-of.ensures ∙ set_in_order c.args.members.items c.requires.members.by_name)
