-- The answer of a run (ours): the text that it writes, and its status.
use Rattle.std.specs.Prelude.{◌≡◌, ◌≢◌, ◌⊎◌, ℕ, ◌+◌, ◌++◌, Option, Some, None, IfErr, IfOk, IfSome}
use Rattle.std.specs.Prelude.{Result, Ok, Err, codes, take}
use Rattle.std.specs.Io.KnownBytes.{Appends, Keeps}
use Rattle.vet_base.specs.Gives.{Told}
use Rattle.vet_base.specs.Words.{Bytes, Text}
use Rattle.vet_base.specs.declared.limits.TheConstants.{MOST_INPUT_BYTES}
use Rattle.vet_base.specs.declared.refusal.Refusal.{Refusal}
use Rattle.vet_base.specs.declared.refusal.Refusal.TheVariants.{NoMemory}
use Rattle.vet_requests.specs.Input.{Heard}
use Rattle.vet_requests.specs.Output.{AppendsPart}
use Rattle.vet_requests.specs.declared.io_fault.IoFault.{IoFault}
use Rattle.vet_requests.specs.declared.io_fault.IoFault.TheVariants.{Output}
use Rattle.vet_reports.specs.RefusalText.{refusal_line}
use Rattle.vetd_words.specs.declared.answer.TheConstants.{PRINTED, REFUSED, EXPLAINED}

-- how serving clients ended: as many came as were awaited; the listener was lost; the port was not available; or the
-- first line couldn't be written, so that nobody was awaited
pub data Ending : Type 0 where
  AllCame : Ending
  NetworkLost : Ending
  NoPort : Ending
  Unheard : Ending

-- the answer of a run: a text, a refusal, or an explanation of the command line; or the text that it printed as it
-- served clients, and how that ended
pub data Answer : Type 0 where
  Prints : Text → Answer
  Refuses : Refusal → Answer
  Explains : Answer
  Serves : Text → Ending → Answer

-- the line that is printed if the listener is lost, or the port is not available
abbrev pub network_line : Text
network_line = codes "fault: network\n"

-- the answer for a result: its text, as this view sees it, or its refusal
abbrev pub answer_for : {A : Type 0} → (A → Text) → Told A → Answer
answer_for text (Ok told) = Prints (text told)
answer_for text (Err refusal) = Refuses refusal

-- the part of its input that a run reads: at most one byte more than a file may have
abbrev pub input_read : Bytes → Bytes
input_read input = take (MOST_INPUT_BYTES + 1) input

-- a query, as words ask for one: the text or the refusal for the bytes that were read
abbrev pub Telling : Type 0
Telling = Bytes → Told Text

-- the answer to a query, if the words ask for one, and the input
abbrev pub answer_of : Option Telling → Bytes → Answer
answer_of (Some telling) input = answer_for (λ text. text) (telling (input_read input))
answer_of None input = Explains

-- The input is what the reader has left, if that is known. If the words ask for something, the reader handed over the
-- part of the input that a run reads.
pub record IsInput {A : Type 0} (before after : Heard) (asked : Option A) (input : Bytes) : Type 0 where
  pub told : IfSome before.left (λ bytes. input ≡ bytes)
  pub read : IfSome asked (λ _. after.handed ≡ before.handed ++ input_read input)

-- this holds of the answer to a query, if the words ask for one, and the input
abbrev pub Answers : Heard → Heard → Option Telling → (Answer → Type 0) → Type 0
Answers before after asked Holds =
    (input : Bytes) × (IsInput before after asked input × Holds (answer_of asked input))

-- clap's text was written: to the output if it was asked for, as help is, or to the errors if something is wrong
abbrev pub IsExplained : Option Bytes → Option Bytes → Option Bytes → Option Bytes → Type 0
IsExplained out out' errors errors' = (text : Text)
    × ((Appends out out' text × Keeps errors errors') ⊎ (Keeps out out' × Appends errors errors' text))

-- a prefix of it was written, since a write failed
abbrev pub IsExplainedInPart : Option Bytes → Option Bytes → Option Bytes → Option Bytes → Type 0
IsExplainedInPart out out' errors errors' = (text : Text)
    × ((AppendsPart out out' text × Keeps errors errors') ⊎ (Keeps out out' × AppendsPart errors errors' text))

-- The status, and the texts that were written to the output and to the errors. Out of memory is never printed as a
-- refusal, and if there is a status, the first line was written.
abbrev pub Says : Answer → ℕ → Option Bytes → Option Bytes → Option Bytes → Option Bytes → Type 0
Says (Prints text) status out out' errors errors' = (status ≡ PRINTED) × Appends out out' text × Keeps errors errors'
Says (Refuses refusal) status out out' errors errors' =
    (status ≡ REFUSED) × Keeps out out' × Appends errors errors' (refusal_line refusal) × (refusal ≢ NoMemory)
Says Explains status out out' errors errors' =
    (status ≡ EXPLAINED) × IsExplained out out' errors errors'
Says (Serves text AllCame) status out out' errors errors' =
    (status ≡ PRINTED) × Appends out out' text × Keeps errors errors'
Says (Serves text Unheard) status out out' errors errors' = ⊥
Says (Serves text _) status out out' errors errors' =
    (status ≡ REFUSED) × Appends out out' text × Appends errors errors' network_line

-- the texts that were written if a write failed
abbrev pub Stops : Answer → Option Bytes → Option Bytes → Option Bytes → Option Bytes → Type 0
Stops (Prints text) out out' errors errors' = AppendsPart out out' text × Keeps errors errors'
Stops (Refuses refusal) out out' errors errors' =
    Keeps out out' × AppendsPart errors errors' (refusal_line refusal) × (refusal ≢ NoMemory)
Stops Explains out out' errors errors' = IsExplainedInPart out out' errors errors'
Stops (Serves text AllCame) out out' errors errors' = AppendsPart out out' text × Keeps errors errors'
Stops (Serves text Unheard) out out' errors errors' = AppendsPart out out' text × Keeps errors errors'
Stops (Serves text _) out out' errors errors' = Appends out out' text × AppendsPart errors errors' network_line

-- The texts that a run wrote, given the statements about its answer (Holds) and about a run without one (Untold). With
-- a status, the whole answer was written. If a write failed, a prefix of it was. With any other fault nothing was.
pub record IsWritten (Holds : (Answer → Type 0) → Type 0) (Untold : Type 0) (status : Result ℕ IoFault)
    (out out' errors errors' : Option Bytes) : Type 0 where
  pub says : IfOk status (λ s. Holds (λ answer. Says answer s out out' errors errors'))
  pub part : IfErr status (λ fault. fault ≡ Output → Holds (λ answer. Stops answer out out' errors errors'))
  pub silent : IfErr status (λ fault. fault ≢ Output → Keeps out out' × Keeps errors errors')
  pub untold : IfErr status (λ fault. fault ≢ Output → Untold)
