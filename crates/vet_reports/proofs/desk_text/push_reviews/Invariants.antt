-- The lines so far.
use Rattle.std.proofs.Common.{◌≡◌, ◌++◌, take}
use Rattle.std.specs.List.{flat_map}
use Rattle.std.specs.Prelude.{string_bytes}
use Rattle.vet_reports.specs.DeskText.{review_line}
use Rattle.vet_reports.proofs.desk_text.push_reviews.Given as goal

abbrev pub invariant-reviews : goal.invariant-reviews
invariant-reviews l =
    string_bytes l.text ≡ string_bytes l.fn.text ++ flat_map review_line (take l.review-index l.reviews)
