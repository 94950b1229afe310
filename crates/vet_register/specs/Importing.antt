-- The verdict on an import, and how it compares with what is held (ours).
use Rattle.std.specs.Prelude.{◌≡◌, ◌⊎◌, MatchOption, MatchResult, Option, Ok, Err, None, Result}
use Rattle.vet_base.specs.Day.{DayValue}
use Rattle.vet_base.specs.Words.{Name}
use Rattle.vet_base.specs.declared.refusal.Refusal.{Refusal}
use Rattle.vet_base.specs.declared.refusal.Refusal.TheVariants.{NoMemory}
use Rattle.vet_entries.specs.Facts.{IsHeld}
use Rattle.vet_entries.specs.Import.{ComparisonValue, compared}
use Rattle.vet_entries.specs.PeerContent.{PeerContentValue}
use Rattle.vet_register.specs.declared.command.Action.TheVariants.{ImportPeer}
use Rattle.vet_register.specs.declared.verdict.Answer.TheVariants.{Already, Accepted}
use Rattle.vet_register.specs.Machine.{held_of}
use Rattle.vet_register.specs.State.{State}
use Rattle.vet_register.specs.Verdict.{judged}

-- an import is accepted, and this is how its content compares with what is held of the peer
pub record IsAccepted (s : State) (day : DayValue) (name : Name) (content : PeerContentValue) (c : ComparisonValue)
    : Type 0 where
  pub told : judged s day (ImportPeer name content) ≡ Ok Accepted
  pub held : IsHeld name s.held.facts
  pub compared : c ≡ compared name (held_of s.held.facts name) content

-- the answer is the verdict (judged), with how the content compares with what is held if the import is accepted; or
-- memory ran out
abbrev pub IsJudgedImport : State → DayValue → Name → PeerContentValue → Result (Option ComparisonValue) Refusal
    → Type 0
IsJudgedImport s day name content answer = MatchResult answer
    (λ found.
    MatchOption found (judged s day (ImportPeer name content) ≡ Ok (Already None)) (IsAccepted s day name content))
    (λ e. (e ≡ NoMemory) ⊎ (judged s day (ImportPeer name content) ≡ Err e))
