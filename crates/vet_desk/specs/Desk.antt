-- The review desk (ours): its content, and the effect of a command.
use Rattle.std.specs.Prelude.{ℕ, ◌+◌, ◌++◌, Bool, List, [], ◌∷◌, Option, Some, None, is_some, option_map}
use Rattle.std.specs.FinSet as set
use Rattle.std.specs.Ordering.{nat_cmp}
use Rattle.std.specs.Cmp.Lexicographic.{slice_cmp}
use Rattle.vet_base.specs.Day.{DayValue}
use Rattle.vet_base.specs.Keyed.{item_of, with_item}
use Rattle.vet_base.specs.Names.{NameSet}
use Rattle.vet_base.specs.Version.{VersionValue}
use Rattle.vet_base.specs.Words.{Name}
use Rattle.vet_entries.specs.declared.entry.Entry.{Entry}
use Rattle.vet_entries.specs.declared.entry.Source.TheVariants.{Own}
use Rattle.vet_entries.specs.declared.kind.Audit.{Audit}
use Rattle.vet_entries.specs.declared.kind.Kind.{Kind}
use Rattle.vet_entries.specs.declared.kind.Kind.TheVariants as kind
use Rattle.vet_desk.specs.declared.command.DeskCommand.{DeskCommand}
use Rattle.vet_desk.specs.declared.command.DeskCommand.TheVariants.{AddMember, OpenReview, AssignReview, FinishReview}
use Rattle.vet_desk.specs.declared.command.DeskCommand.TheVariants.{WithdrawReview}
use Rattle.vet_desk.specs.declared.command.Reviewed.{Reviewed}
use Rattle.vet_desk.specs.declared.command.Reviewed.TheVariants.{Version, Delta}
use Rattle.vet_desk.specs.declared.review.Review.{Review}
use Rattle.vet_desk.specs.declared.review.ReviewState.TheVariants.{Waiting, Assigned, Finished, Withdrawn}
use Rattle.vet_desk.specs.Review.{review_of, with_state}

-- a command, as a value
abbrev pub DeskCommandValue : Type 0
DeskCommandValue = DeskCommand

-- the members in the order of their names, the reviews in the order of their numbers, and the next review's number
pub record DeskState : Type 0 where
  pub members : List Name
  pub reviews : List Review
  pub next_review : ℕ

-- no members and no reviews; numbers begin at 1
abbrev pub empty_desk : DeskState
empty_desk = record { members = []; reviews = []; next_review = 1 }

-- each name is its own key
abbrev pub own_name : Name → Name
own_name name = name

-- a name is a member's
abbrev pub is_member : List Name → Name → Bool
is_member members name = is_some (item_of (slice_cmp nat_cmp) own_name members name)

-- the members with one more of this name
abbrev pub with_member : Name → List Name → List Name
with_member name members = with_item (slice_cmp nat_cmp) own_name members name

-- ---- the entry of a finished review

-- an audit by one member, without the flag `importable`
abbrev pub audit_by : Name → Audit
audit_by member = record { who = set.insert set.empty member; importable = None }

-- the kind of the entry: full for a version, or the delta
abbrev pub kind_by : Name → Reviewed → Kind
kind_by member (Version v) = kind.Full v (audit_by member)
kind_by member (Delta d) = kind.Delta d (audit_by member)

-- the own entry that finishes a review: of its package and criteria, without notes
abbrev pub entry_by : Name → Reviewed → Review → Entry
entry_by member reviewed review = record {
  source = Own;
  «package» = review.«package»;
  kind = kind_by member reviewed;
  criteria = review.criteria;
  notes = None;
}

-- the own entry that a command makes, whether or not an equal one is held; only finishing a review makes one
abbrev pub entry_of : DeskState → DeskCommand → Option Entry
entry_of d (FinishReview n member reviewed) = option_map (entry_by member reviewed) (review_of d.reviews n)
entry_of d _ = None

-- ---- the effect of a command

-- a waiting review
abbrev pub new_review : ℕ → DayValue → Name → VersionValue → NameSet → Review
new_review number day name version criteria = record {
  number = number;
  «package» = name;
  version = version;
  criteria = criteria;
  day = day;
  state = Waiting;
}

-- the reviews, with that of a number finished with the entry of the given number, if there is one
abbrev pub with_entry : ℕ → Option ℕ → List Review → List Review
with_entry n None reviews = reviews
with_entry n (Some entry) reviews = with_state n (Finished entry) reviews

-- the desk after a command on a day; a finished review has the entry of this number
abbrev pub desk_after : DayValue → Option ℕ → DeskCommand → DeskState → DeskState
desk_after day entry (AddMember name) d = record d { members = with_member name d.members }
desk_after day entry (OpenReview name version criteria) d = record d {
  reviews = d.reviews ++ new_review d.next_review day name version criteria ∷ [];
  next_review = d.next_review + 1;
}
desk_after day entry (AssignReview n member) d = record d { reviews = with_state n (Assigned member) d.reviews }
desk_after day entry (FinishReview n member reviewed) d = record d { reviews = with_entry n entry d.reviews }
desk_after day entry (WithdrawReview n member) d = record d { reviews = with_state n Withdrawn d.reviews }
