-- The table of refusals: the number and the name of each, and the words of the limits (ours).
use Rattle.std.specs.Prelude.{ℕ, codes}
use Rattle.vet_base.specs.declared.refusal.Refusal.{Refusal}
use Rattle.vet_base.specs.declared.refusal.Refusal.TheVariants.{BadName, BadVersion, BadRequirement, BadDay, BadDelta}
use Rattle.vet_base.specs.declared.refusal.Refusal.TheVariants.{UnknownCriterion, BuiltInCriterion, CriterionInUse}
use Rattle.vet_base.specs.declared.refusal.Refusal.TheVariants.{TooManyCriteria, UnknownEntry, EmptyWindow}
use Rattle.vet_base.specs.declared.refusal.Refusal.TheVariants.{WindowTooLong, UnknownPeer, UnknownPolicy}
use Rattle.vet_base.specs.declared.refusal.Refusal.TheVariants.{UnknownProject, UnknownNode, TwoParties, TooLarge}
use Rattle.vet_base.specs.declared.refusal.Refusal.TheVariants.{UnknownMember, UnknownReview, ReviewClosed, NotYours}
use Rattle.vet_base.specs.declared.refusal.Refusal.TheVariants.{WrongTarget, NotDemanded, MovesFull, TomlRefused}
use Rattle.vet_base.specs.declared.refusal.Refusal.TheVariants.{CsvRefused, FieldRefused, NoMemory, StoreRefused}
use Rattle.vet_base.specs.declared.refusal.Refusal.TheVariants.{NotARegister, DayGoesBack}
use Rattle.vet_base.specs.declared.refusal.Limit.{Limit}
use Rattle.vet_base.specs.declared.refusal.Limit.TheVariants as limit
use Rattle.vet_base.specs.Words.{Text}

-- a row of the table
pub record RefusalRow : Type 0 where
  pub number : ℕ
  pub name : Text

abbrev pub refusal_row : Refusal → RefusalRow
refusal_row BadName = record { number = 1; name = codes "BadName" }
refusal_row BadVersion = record { number = 2; name = codes "BadVersion" }
refusal_row BadRequirement = record { number = 3; name = codes "BadRequirement" }
refusal_row BadDay = record { number = 4; name = codes "BadDay" }
refusal_row BadDelta = record { number = 5; name = codes "BadDelta" }
refusal_row (UnknownCriterion _) = record { number = 6; name = codes "UnknownCriterion" }
refusal_row BuiltInCriterion = record { number = 7; name = codes "BuiltInCriterion" }
refusal_row CriterionInUse = record { number = 8; name = codes "CriterionInUse" }
refusal_row TooManyCriteria = record { number = 9; name = codes "TooManyCriteria" }
refusal_row UnknownEntry = record { number = 10; name = codes "UnknownEntry" }
refusal_row EmptyWindow = record { number = 11; name = codes "EmptyWindow" }
refusal_row WindowTooLong = record { number = 12; name = codes "WindowTooLong" }
refusal_row UnknownPeer = record { number = 13; name = codes "UnknownPeer" }
refusal_row UnknownPolicy = record { number = 14; name = codes "UnknownPolicy" }
refusal_row UnknownProject = record { number = 15; name = codes "UnknownProject" }
refusal_row (UnknownNode _) = record { number = 16; name = codes "UnknownNode" }
refusal_row (TwoParties _) = record { number = 17; name = codes "TwoParties" }
refusal_row (TooLarge _) = record { number = 18; name = codes "TooLarge" }
refusal_row UnknownMember = record { number = 19; name = codes "UnknownMember" }
refusal_row UnknownReview = record { number = 20; name = codes "UnknownReview" }
refusal_row ReviewClosed = record { number = 21; name = codes "ReviewClosed" }
refusal_row NotYours = record { number = 22; name = codes "NotYours" }
refusal_row WrongTarget = record { number = 23; name = codes "WrongTarget" }
refusal_row NotDemanded = record { number = 24; name = codes "NotDemanded" }
refusal_row MovesFull = record { number = 25; name = codes "MovesFull" }
refusal_row TomlRefused = record { number = 26; name = codes "TomlRefused" }
refusal_row (CsvRefused _) = record { number = 27; name = codes "CsvRefused" }
refusal_row (FieldRefused _ _) = record { number = 28; name = codes "FieldRefused" }
refusal_row NoMemory = record { number = 29; name = codes "NoMemory" }
refusal_row StoreRefused = record { number = 30; name = codes "StoreRefused" }
refusal_row NotARegister = record { number = 31; name = codes "NotARegister" }
refusal_row DayGoesBack = record { number = 32; name = codes "DayGoesBack" }

abbrev pub refusal_number : Refusal → ℕ
refusal_number refusal = (refusal_row refusal).number

abbrev pub refusal_name : Refusal → Text
refusal_name refusal = (refusal_row refusal).name

-- the word of a limit: the noun of the thing that exceeds it
abbrev pub limit_word : Limit → Text
limit_word limit.Text = codes "text"
limit_word limit.PeerCriteria = codes "peer-criteria"
limit_word limit.Nodes = codes "nodes"
limit_word limit.Edges = codes "edges"
limit_word limit.Peers = codes "peers"
limit_word limit.Entries = codes "entries"
limit_word limit.Publishers = codes "publishers"
limit_word limit.Policies = codes "policies"
limit_word limit.Projects = codes "projects"
limit_word limit.Members = codes "members"
limit_word limit.Reviews = codes "reviews"
limit_word limit.Input = codes "input"
limit_word limit.Step = codes "step"
limit_word limit.Number = codes "number"
