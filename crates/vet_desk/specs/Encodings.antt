-- How the models of this crate are stored (ours).
use Rattle.std.specs.Prelude.{◌≡◌, ℕ, ◌+◌, ◌++◌, ◌<◌, ◌≤◌, List, [], ◌∷◌}
use Rattle.std.specs.Coded.{Coded, code_by, coded×, coded_list, coded_ℕ}
use Rattle.std.proofs.Common.{refl}
use Rattle.vet_base.specs.Words.{Name}
use Rattle.vet_base.specs.Keyed as keyed
use Rattle.vet_desk.specs.declared.change.DeskStep.TheVariants as step
use Rattle.vet_desk.specs.declared.review.Review.{Review}
use Rattle.vet_desk.specs.DeskView.{DeskView}

-- a desk is stored as the tuple of its parts and rooms
abbrev pub desk_code : Coded Review → Coded DeskView
desk_code review_code =
    code_by (List Name × (List Review × (ℕ × (ℕ × ℕ))))
    (coded× (coded_list (coded_list coded_ℕ))
    (coded× (coded_list review_code) (coded× coded_ℕ (coded× coded_ℕ coded_ℕ))))
    (λ d. (d.content.members, (d.content.reviews, (d.content.next_review, (d.room.members, d.room.reviews)))))
    (λ p. record {
      content = record { members = p.0; reviews = p.1.0; next_review = p.1.1.0 };
      room = record { members = p.1.1.1.0; reviews = p.1.1.1.1 };
    })
    (λ _. refl)
