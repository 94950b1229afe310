-- Laws of the desk (ours): the changes that a command makes, who may do what, and the properties that stay.
use Rattle.std.specs.Prelude.{◌≡◌, ◌↔◌, ◌⊎◌, ℕ, ◌<◌, ◌≤◌, true, false, IfSome, List, Option, Some, None, Ok}
use Rattle.std.specs.FinSet as set
use Rattle.vet_base.specs.Criteria.{Criteria, least_unknown}
use Rattle.vet_base.specs.Day.{DayValue}
use Rattle.vet_base.specs.Names.{NameSet}
use Rattle.vet_base.specs.Words.{Name}
use Rattle.vet_demand.specs.declared.pair.Pair.{Pair}
use Rattle.vet_desk.specs.declared.command.DeskCommand.{DeskCommand}
use Rattle.vet_desk.specs.declared.command.Reviewed.{Reviewed}
use Rattle.vet_desk.specs.declared.review.Review.{Review}
use Rattle.vet_desk.specs.declared.review.ReviewState.{ReviewState}
use Rattle.vet_desk.specs.declared.review.ReviewState.TheVariants.{Waiting, Assigned}
use Rattle.vet_desk.specs.Desk.{DeskState, desk_after, is_member, with_member}
use Rattle.vet_desk.specs.DeskVerdict.{desk_checked, finish_rules, still_open, target_of, withdraw_rules}
use Rattle.vet_desk.specs.Review.{are_open_beyond, are_open_for, in_state, review_of, with_state}
use Rattle.vet_desk.specs.SoundDesk.{AreKnownTo, HaveEntriesGiven, IsSoundDesk}

-- ---- changes

-- a name that is added is a member's, and for any other name nothing changes
abbrev pub MemberIsAdded : Type 0
MemberIsAdded = (name : Name) (members : List Name) → is_member (with_member name members) name ≡ true

abbrev pub MembersStay : Type 0
MembersStay = (name other : Name) (members : List Name) → (other ≡ name → ⊥)
    → is_member (with_member name members) other ≡ is_member members other

-- the review of a number changes only in its state
abbrev pub ReviewChangesItsState : Type 0
ReviewChangesItsState = (n : ℕ) (state : ReviewState) (reviews : List Review) (r : Review)
    → review_of reviews n ≡ Some r
    → review_of (with_state n state reviews) n ≡ Some (in_state state r)

-- all other reviews stay as they are
abbrev pub OtherReviewsStay : Type 0
OtherReviewsStay = (n m : ℕ) (state : ReviewState) (reviews : List Review) → (m ≡ n → ⊥)
    → review_of (with_state n state reviews) m ≡ review_of reviews m

-- ---- who may do what

-- a review is open exactly if it is waiting or assigned to somebody
abbrev pub OpenWaitsOrIsAssigned : Type 0
OpenWaitsOrIsAssigned = (r : Review) → (still_open r ≡ Ok tt)
    ↔ ((r.state ≡ Waiting) ⊎ ((member : Name) × (r.state ≡ Assigned member)))

-- only the member to whom it is assigned can finish it, and only for its version
abbrev pub OnlyItsMemberFinishes : Type 0
OnlyItsMemberFinishes = (member : Name) (reviewed : Reviewed) (r : Review)
    → (finish_rules member reviewed r ≡ Ok tt) ↔ ((r.state ≡ Assigned member) × (target_of reviewed ≡ r.version))

-- any member can withdraw one that is waiting, otherwise only the member to whom it is assigned
abbrev pub WaitingOrOwnIsWithdrawn : Type 0
WaitingOrOwnIsWithdrawn = (member : Name) (r : Review) → (withdraw_rules member r ≡ Ok tt)
    ↔ ((r.state ≡ Waiting) ⊎ (r.state ≡ Assigned member))

-- ---- properties that stay

-- a sound desk is sound after each accepted command
abbrev pub DeskStaysSound : Type 0
DeskStaysSound = (criteria : Criteria) (demand : List Pair) (d : DeskState) (day : DayValue) (entry : Option ℕ)
    (command : DeskCommand)
    → desk_checked criteria demand d command ≡ Ok tt → IsSoundDesk d → IsSoundDesk (desk_after day entry command d)

-- the criteria that open reviews name stay known
abbrev pub OpenCriteriaStayKnown : Type 0
OpenCriteriaStayKnown = (criteria : Criteria) (demand : List Pair) (d : DeskState) (day : DayValue)
    (entry : Option ℕ) (command : DeskCommand)
    → desk_checked criteria demand d command ≡ Ok tt → AreKnownTo criteria d.reviews
    → AreKnownTo criteria (desk_after day entry command d).reviews

-- so they do if a criterion is removed that none of them names
abbrev pub UnnamedCriterionMayGo : Type 0
UnnamedCriterionMayGo = (criteria other : Criteria) (name : Name) (reviews : List Review)
    → ((names : NameSet) → set.contains names name ≡ false → least_unknown criteria names ≡ None
    → least_unknown other names ≡ None)
    → are_open_for reviews name ≡ false → AreKnownTo criteria reviews → AreKnownTo other reviews

-- they are known to a table exactly if none of them names one that the table lacks
abbrev pub KnownIsNotBeyond : Type 0
KnownIsNotBeyond = (criteria : Criteria) (reviews : List Review) → (are_open_beyond criteria reviews ≡ false)
    ↔ AreKnownTo criteria reviews

-- the entries of finished reviews stay below the next number, even if this command assigned one
abbrev pub FinishedEntriesStayGiven : Type 0
FinishedEntriesStayGiven = (next later : ℕ) (d : DeskState) (day : DayValue) (entry : Option ℕ)
    (command : DeskCommand) → next ≤ later
    → IfSome entry (λ n. n < later) → HaveEntriesGiven next d.reviews
    → HaveEntriesGiven later (desk_after day entry command d).reviews
