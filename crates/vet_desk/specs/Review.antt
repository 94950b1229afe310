-- Reviews (ours): their states, and their places among others.
use Rattle.std.specs.Prelude.{ℕ, ◌&&◌, not, Bool, true, false, List, Option, Some, None, is_some}
use Rattle.std.specs.Ordering.{nat_cmp}
use Rattle.std.specs.FinSet as set
use Rattle.std.specs.List.{list_any}
use Rattle.std.specs.Str.{bytes_eq}
use Rattle.vet_base.specs.Criteria.{Criteria, least_unknown}
use Rattle.vet_base.specs.Keyed.{item_of, with_item}
use Rattle.vet_base.specs.Words.{Name}
use Rattle.vet_desk.specs.declared.review.Review.{Review}
use Rattle.vet_desk.specs.declared.review.ReviewState.{ReviewState}
use Rattle.vet_desk.specs.declared.review.ReviewState.TheVariants.{Waiting, Assigned, Finished, Withdrawn}

-- a review is closed if it is finished or withdrawn
abbrev pub is_closed : ReviewState → Bool
is_closed Waiting = false
is_closed (Assigned member) = false
is_closed (Finished entry) = true
is_closed Withdrawn = true

-- a review is assigned to a member
abbrev pub is_assigned_to : Name → ReviewState → Bool
is_assigned_to name (Assigned member) = bytes_eq member name
is_assigned_to name _ = false

-- a review is assigned to a member other than this one
abbrev pub is_anothers : Name → ReviewState → Bool
is_anothers name (Assigned member) = not (bytes_eq member name)
is_anothers name _ = false

-- the number of a review
abbrev pub review_number : Review → ℕ
review_number review = review.number

-- the review of a number, if it is held
abbrev pub review_of : List Review → ℕ → Option Review
review_of reviews n = item_of nat_cmp review_number reviews n

-- the reviews, with this one in place of the one of its number
abbrev pub with_review : Review → List Review → List Review
with_review review reviews = with_item nat_cmp review_number reviews review

-- a review in another state
abbrev pub in_state : ReviewState → Review → Review
in_state state review = record review { state = state }

-- the reviews, with this one in another state; if there is none, they stay as they are
abbrev pub with_state_of : Option Review → ReviewState → List Review → List Review
with_state_of None state reviews = reviews
with_state_of (Some review) state reviews = with_review (in_state state review) reviews

-- the reviews, with that of a number in another state
abbrev pub with_state : ℕ → ReviewState → List Review → List Review
with_state n state reviews = with_state_of (review_of reviews n) state reviews

-- a review that is not closed names a criterion
abbrev pub is_open_for : Name → Review → Bool
is_open_for name review = not (is_closed review.state) && set.contains review.criteria name

-- one of some reviews that is not closed names a criterion
abbrev pub are_open_for : List Review → Name → Bool
are_open_for reviews name = list_any (is_open_for name) reviews

-- a review that is not closed names a criterion that a table lacks
abbrev pub is_open_beyond : Criteria → Review → Bool
is_open_beyond criteria review = not (is_closed review.state) && is_some (least_unknown criteria review.criteria)

-- one of some reviews that is not closed names a criterion that a table lacks
abbrev pub are_open_beyond : Criteria → List Review → Bool
are_open_beyond criteria reviews = list_any (is_open_beyond criteria) reviews
