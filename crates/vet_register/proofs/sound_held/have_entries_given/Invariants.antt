-- The entries of the reviews so far are given.
use Rattle.std.proofs.Common.{take}
use Rattle.std.specs.List.{All}
use Rattle.vet_desk.specs.SoundDesk.{HasEntryGiven}
use Rattle.vet_register.proofs.sound_held.have_entries_given.Given as goal

abbrev pub invariant-reviews : goal.invariant-reviews
invariant-reviews l = All (HasEntryGiven l.next) (take l.review-index l.reviews)
