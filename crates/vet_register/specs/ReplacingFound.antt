-- The verdict on files, and how they compare with what is held, before they replace it (ours).
use Rattle.std.specs.Prelude.{◌≡◌, ◌⊎◌, ◌+◌, ◌<◌, ◌^◌, ℕ, MatchOption, MatchResult, Option, Ok, Err, None, Result, map}
use Rattle.std.specs.List.{All}
use Rattle.vet_base.specs.Day.{DayValue}
use Rattle.vet_base.specs.Defined.{defined as table_of, table_told}
use Rattle.vet_base.specs.declared.refusal.Refusal.{Refusal}
use Rattle.vet_base.specs.declared.refusal.Refusal.TheVariants.{NoMemory}
use Rattle.vet_entries.specs.Facts.{Facts}
use Rattle.vet_entries.specs.Import.{compared_own}
use Rattle.vet_entries.specs.PublisherRecords.{records_total}
use Rattle.vet_entries.specs.declared.peer_settings.PeerSettings.{PeerSettings}
use Rattle.vet_files.specs.FilesContent.{FilesValue}
use Rattle.vet_register.specs.declared.command.Action.TheVariants.{ReplaceFiles}
use Rattle.vet_register.specs.declared.files_comparison.FilesComparison.{FilesComparison}
use Rattle.vet_register.specs.declared.verdict.Answer.TheVariants.{Already, Accepted}
use Rattle.vet_register.specs.Replacing.{compared_peer, held_of_peer, new_of_files}
use Rattle.vet_register.specs.State.{State}
use Rattle.vet_register.specs.Verdict.{judged}

-- this is how the entries of files compare with those held
pub record IsCompared (facts : Facts) (f : FilesValue) (c : FilesComparison) : Type 0 where
  pub own : c.own ≡ compared_own facts.entries f.entries
  pub peers : c.peers.items ≡ map (compared_peer facts.peers f.contents) f.settings

-- files can replace facts, given the next number and how their entries compare with those held: their criteria make a
-- table, each number that is held is below the next one, and the numbers after all new ones and the count of all
-- records are below 2^64
pub record MayReplace (next : ℕ) (facts : Facts) (f : FilesValue) (c : FilesComparison) : Type 0 where
  pub defined : table_told f.criteria ≡ Ok (table_of f.criteria)
  pub compared : IsCompared facts f c
  pub own : All (λ h. h.number < next) facts.entries
  pub peers : (p : PeerSettings) → All (λ h. h.number < next) (held_of_peer facts.peers p).entries
  pub numbers : next + new_of_files facts f < 2 ^ 64
  pub records : records_total f.publishers < 2 ^ 64

-- files are accepted, and this is how their entries compare with those held
pub record AreAccepted (s : State) (day : DayValue) (f : FilesValue) (c : FilesComparison) : Type 0 where
  pub told : judged s day (ReplaceFiles f) ≡ Ok Accepted
  pub compared : IsCompared s.held.facts f c

-- the answer is the verdict (judged), with how the entries compare with those held if the files are accepted; or memory
-- ran out
abbrev pub AreJudged : State → DayValue → FilesValue → Result (Option FilesComparison) Refusal → Type 0
AreJudged s day f answer = MatchResult answer
    (λ found. MatchOption found (judged s day (ReplaceFiles f) ≡ Ok (Already None)) (AreAccepted s day f))
    (λ e. (e ≡ NoMemory) ⊎ (judged s day (ReplaceFiles f) ≡ Err e))
