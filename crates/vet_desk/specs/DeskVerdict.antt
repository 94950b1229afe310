-- The verdict on a command to the desk (ours), in parts: held already, limits, number, references, rules. The limit of
-- steps, which is not the desk's, comes between limits and number.
use Rattle.std.specs.Prelude.{ℕ, ◌+◌, ◌==◌, ◌&&◌, not, nat_lt, Bool, true, false, is_none, List, Option, Some, None, Ok}
use Rattle.std.specs.Prelude.{length}
use Rattle.std.specs.List.{list_all, list_any}
use Rattle.std.specs.Option.{option_map_or}
use Rattle.vet_base.specs.Words.{Name}
use Rattle.vet_base.specs.declared.limits.TheConstants.{LAST_NUMBER, MOST_MEMBERS, MOST_REVIEWS}
use Rattle.vet_base.specs.declared.refusal.Limit.TheVariants as limit
use Rattle.vet_base.specs.declared.refusal.Refusal.TheVariants.{NotDemanded, NotYours, ReviewClosed, TooLarge}
use Rattle.vet_base.specs.declared.refusal.Refusal.TheVariants.{UnknownMember, UnknownReview, WrongTarget}
use Rattle.vet_base.specs.Criteria.{Criteria, least_unknown}
use Rattle.vet_base.specs.CriteriaChanges.{known}
use Rattle.vet_base.specs.Gives.{Told, refuse_if, ◌>>=◌}
use Rattle.vet_base.specs.Names.{NameSet, members}
use Rattle.vet_base.specs.Version.{VersionValue}
use Rattle.vet_base.specs.VersionOrder.{version_eq}
use Rattle.vet_demand.specs.declared.pair.Pair.{Pair}
use Rattle.vet_demand.specs.Pair.{pair_eq}
use Rattle.vet_desk.specs.declared.command.DeskCommand.{DeskCommand}
use Rattle.vet_desk.specs.declared.command.DeskCommand.TheVariants.{AddMember, OpenReview, AssignReview, FinishReview}
use Rattle.vet_desk.specs.declared.command.DeskCommand.TheVariants.{WithdrawReview}
use Rattle.vet_desk.specs.declared.command.Reviewed.{Reviewed}
use Rattle.vet_desk.specs.declared.command.Reviewed.TheVariants.{Version, Delta}
use Rattle.vet_desk.specs.declared.review.Review.{Review}
use Rattle.vet_desk.specs.declared.verdict.DeskAnswer.{DeskAnswer}
use Rattle.vet_desk.specs.declared.verdict.DeskAnswer.TheVariants.{Already, Accepted}
use Rattle.vet_desk.specs.Desk.{DeskState, is_member}
use Rattle.vet_desk.specs.Review.{is_anothers, is_assigned_to, is_closed, review_of}

-- whether the review of a number is assigned to a member
abbrev pub is_assigned_review : List Review → ℕ → Name → Bool
is_assigned_review reviews n member = option_map_or (λ (r : Review). is_assigned_to member r.state)
    (review_of reviews n) false

-- whether the member or assignment that a command would add is held
abbrev pub desk_held : DeskState → DeskCommand → Bool
desk_held d (AddMember name) = is_member d.members name
desk_held d (AssignReview n member) = is_assigned_review d.reviews n member
desk_held d _ = false

-- one more member is within the limit
abbrev pub member_limit : DeskState → Told (Unit {0})
member_limit d = refuse_if (nat_lt MOST_MEMBERS (length d.members + 1)) (TooLarge limit.Members)

-- one more review is within the limit
abbrev pub review_limit : DeskState → Told (Unit {0})
review_limit d = refuse_if (nat_lt MOST_REVIEWS (length d.reviews + 1)) (TooLarge limit.Reviews)

-- there is a number for one more review
abbrev pub review_number_limit : DeskState → Told (Unit {0})
review_number_limit d = refuse_if (nat_lt LAST_NUMBER d.next_review) (TooLarge limit.Number)

-- the members and reviews stay within their limits
abbrev pub desk_limits : DeskState → DeskCommand → Told (Unit {0})
desk_limits d (AddMember name) = member_limit d
desk_limits d (OpenReview name version criteria) = review_limit d
desk_limits d _ = Ok tt

-- there is a number for a review to be opened
abbrev pub desk_number : DeskState → DeskCommand → Told (Unit {0})
desk_number d (OpenReview name version criteria) = review_number_limit d
desk_number d _ = Ok tt

-- a member and a review are held
abbrev pub both_held : DeskState → ℕ → Name → Told (Unit {0})
both_held d n member =
    refuse_if (not (is_member d.members member)) UnknownMember
    >>= λ _. refuse_if (is_none (review_of d.reviews n)) UnknownReview

-- everything that a command refers to is held
abbrev pub desk_references : Criteria → DeskState → DeskCommand → Told (Unit {0})
desk_references criteria d (AddMember name) = Ok tt
desk_references criteria d (OpenReview name version wanted) = known (least_unknown criteria wanted)
desk_references criteria d (AssignReview n member) = both_held d n member
desk_references criteria d (FinishReview n member reviewed) = both_held d n member
desk_references criteria d (WithdrawReview n member) = both_held d n member

-- a version of a package is demanded for a criterion
abbrev pub is_demanded : List Pair → Name → VersionValue → Name → Bool
is_demanded demand name version criterion =
    list_any (pair_eq (record { «package» = name; version = version; criterion = criterion })) demand

-- it is demanded for each of some criteria, of which there is at least one
abbrev pub are_demanded : List Pair → Name → VersionValue → NameSet → Bool
are_demanded demand name version criteria =
    not (length (members criteria) == 0) && list_all (is_demanded demand name version) (members criteria)

-- only demanded pairs may be reviewed
abbrev pub wanted_rules : List Pair → Name → VersionValue → NameSet → Told (Unit {0})
wanted_rules demand name version criteria = refuse_if (not (are_demanded demand name version criteria)) NotDemanded

-- the version that was reviewed, or the one to which the delta leads
abbrev pub target_of : Reviewed → VersionValue
target_of (Version v) = v
target_of (Delta d) = d.to

-- a review is not closed
abbrev pub still_open : Review → Told (Unit {0})
still_open r = refuse_if (is_closed r.state) ReviewClosed

-- it may be finished only by the member to whom it is assigned, and for its version
abbrev pub finish_rules : Name → Reviewed → Review → Told (Unit {0})
finish_rules member reviewed r =
    still_open r >>= λ _. refuse_if (not (is_assigned_to member r.state)) NotYours
    >>= λ _. refuse_if (not (version_eq (target_of reviewed) r.version)) WrongTarget

-- it may be withdrawn by any member, unless it is assigned to another
abbrev pub withdraw_rules : Name → Review → Told (Unit {0})
withdraw_rules member r = still_open r >>= λ _. refuse_if (is_anothers member r.state) NotYours

-- the rules for a review, if there is one
abbrev pub asked_of : (Review → Told (Unit {0})) → Option Review → Told (Unit {0})
asked_of rules None = Ok tt
asked_of rules (Some review) = rules review

-- a review to be opened is of demanded pairs; one to be changed is not closed, and the member may change it
abbrev pub desk_rules : List Pair → DeskState → DeskCommand → Told (Unit {0})
desk_rules demand d (AddMember name) = Ok tt
desk_rules demand d (OpenReview name version criteria) = wanted_rules demand name version criteria
desk_rules demand d (AssignReview n member) = asked_of still_open (review_of d.reviews n)
desk_rules demand d (FinishReview n member reviewed) = asked_of (finish_rules member reviewed) (review_of d.reviews n)
desk_rules demand d (WithdrawReview n member) = asked_of (withdraw_rules member) (review_of d.reviews n)

-- the checks of a command whose content is not held already
abbrev pub desk_checked : Criteria → List Pair → DeskState → DeskCommand → Told (Unit {0})
desk_checked criteria demand d command =
    desk_limits d command >>= λ _. desk_number d command >>= λ _. desk_references criteria d command
    >>= λ _. desk_rules demand d command

-- Already comes before all refusals
abbrev pub already_or : Bool → Told (Unit {0}) → Told DeskAnswer
already_or true told = Ok Already
already_or false told = told >>= λ _. Ok Accepted

-- the verdict on a command
abbrev pub desk_verdict : Criteria → List Pair → DeskState → DeskCommand → Told DeskAnswer
desk_verdict criteria demand d command = already_or (desk_held d command) (desk_checked criteria demand d command)
