-- Soundness of a desk (ours), and the further properties that its register keeps.
use Rattle.std.specs.Prelude.{◌≡◌, ℕ, ◌+◌, ◌<◌, ◌≤◌, true, false, List, None, length}
use Rattle.std.specs.List.{All}
use Rattle.std.specs.Ordering.{nat_cmp}
use Rattle.std.specs.Cmp.Lexicographic.{slice_cmp}
use Rattle.vet_base.specs.Words.{Name}
use Rattle.vet_base.specs.declared.limits.TheConstants.{LAST_NUMBER, MOST_MEMBERS, MOST_REVIEWS}
use Rattle.vet_base.specs.Criteria.{Criteria, least_unknown}
use Rattle.vet_base.specs.Keyed.{IsByKey}
use Rattle.vet_desk.specs.declared.review.Review.{Review}
use Rattle.vet_desk.specs.declared.review.ReviewState.{ReviewState}
use Rattle.vet_desk.specs.declared.review.ReviewState.TheVariants.{Assigned, Finished}
use Rattle.vet_desk.specs.Desk.{DeskState, is_member, own_name}
use Rattle.vet_desk.specs.Review.{is_closed, review_number}

-- a review, if it is assigned, is assigned to a member
abbrev pub IsByMember : List Name → ReviewState → Type 0
IsByMember members (Assigned member) = is_member members member ≡ true
IsByMember members _ = Unit {0}

abbrev pub HasMember : List Name → Review → Type 0
HasMember members review = IsByMember members review.state

-- the number of a review is below the next one
abbrev pub IsNumberGiven : ℕ → Review → Type 0
IsNumberGiven next review = review.number < next

-- members are in the order of their names, with no name twice, and within the limit
pub record AreMembers (members : List Name) : Type 0 where
  pub by_name : IsByKey (slice_cmp nat_cmp) own_name members
  pub few : length members ≤ MOST_MEMBERS

-- the numbers of reviews rise and are below the next one; each assigned one is a member's; the limit is kept
pub record AreReviews (members : List Name) (reviews : List Review) (next : ℕ) : Type 0 where
  pub numbers_rise : IsByKey nat_cmp review_number reviews
  pub numbers_given : All (IsNumberGiven next) reviews
  pub by_members : All (HasMember members) reviews
  pub few : length reviews ≤ MOST_REVIEWS

-- members and reviews are sound, and the next number is within the limit
pub record IsSoundDesk (d : DeskState) : Type 0 where
  pub members : AreMembers d.members
  pub reviews : AreReviews d.members d.reviews d.next_review
  pub next_number : d.next_review ≤ LAST_NUMBER + 1

-- ---- properties of reviews that the register keeps

-- the criteria of a review are in a table, unless it is closed
abbrev pub IsKnownTo : Criteria → Review → Type 0
IsKnownTo criteria review = is_closed review.state ≡ false → least_unknown criteria review.criteria ≡ None

abbrev pub AreKnownTo : Criteria → List Review → Type 0
AreKnownTo criteria reviews = All (IsKnownTo criteria) reviews

-- the entry of a finished review has a number below the next one; it may have been dropped since
abbrev pub IsEntryGiven : ℕ → ReviewState → Type 0
IsEntryGiven next (Finished entry) = entry < next
IsEntryGiven next _ = Unit {0}

abbrev pub HasEntryGiven : ℕ → Review → Type 0
HasEntryGiven next review = IsEntryGiven next review.state

abbrev pub HaveEntriesGiven : ℕ → List Review → Type 0
HaveEntriesGiven next reviews = All (HasEntryGiven next) reviews
