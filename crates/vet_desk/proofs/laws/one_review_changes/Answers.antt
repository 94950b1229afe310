use Rattle.vet_desk.proofs.DeskLaws.{other_reviews_stay, review_changes}
use Rattle.vet_desk.proofs.laws.one_review_changes.Goals as goal

pub returns : goal.returns
returns c = record { changed = review_changes; others = other_reviews_stay }
