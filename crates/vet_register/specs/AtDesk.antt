-- The own entry that finishes a review, and its number: the register's part of a command to its desk (ours).
--
-- A command to the desk has its effect there (desk_by; see Review desk). Only FinishReview has an effect on the facts.
-- If no own entry is held that is equal to the review's, that entry is added as by AddEntry (added_by, with_entry). The
-- finished review has its number, otherwise that of the first entry that is equal (entry_number). ClosePeriod keeps the
-- facts and the desk.
use Rattle.std.specs.Prelude.{ℕ, Bool, true, false, Option, Some, None, option_map}
use Rattle.std.specs.Option.{unwrap_or}
use Rattle.vet_entries.specs.declared.entry.Entry.{Entry}
use Rattle.vet_entries.specs.Facts.{Facts}
use Rattle.vet_entries.specs.Numbered.{number_of}
use Rattle.vet_desk.specs.declared.command.DeskCommand.{DeskCommand}
use Rattle.vet_desk.specs.declared.command.DeskCommand.TheVariants.{OpenReview, FinishReview}
use Rattle.vet_desk.specs.Desk.{entry_of}
use Rattle.vet_register.specs.State.{State}

-- a command finishes a review
abbrev pub finishes : DeskCommand → Bool
finishes (FinishReview n member reviewed) = true
finishes _ = false

-- an entry, unless an equal one is held under a number
abbrev pub unless_held : Option ℕ → Entry → Option Entry
unless_held (Some n) entry = None
unless_held None entry = Some entry

abbrev pub if_new : Facts → Option Entry → Option Entry
if_new facts None = None
if_new facts (Some entry) = unless_held (number_of facts.entries entry) entry

-- the own entry that a command adds: that of the review that it finishes, unless an equal one is held
abbrev pub added_by : State → DeskCommand → Option Entry
added_by s command = if_new s.held.facts (entry_of s.desk command)

-- the number of the entry of the review that a command finishes: that under which an equal one is held, otherwise the
-- next
abbrev pub entry_number : State → DeskCommand → Option ℕ
entry_number s command =
    option_map (λ e. unwrap_or (number_of s.held.facts.entries e) s.next_entry) (entry_of s.desk command)

-- the number in a command's outcome: that of the review that it opens, or of the entry of the one that it finishes
abbrev pub number_told : State → DeskCommand → Option ℕ
number_told s (OpenReview name version criteria) = Some s.desk.next_review
number_told s command = entry_number s command
