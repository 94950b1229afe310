-- The application of a command document to a register in a database, and its answer (ours).
use Rattle.std.specs.Prelude.{◌≡◌, ◌⊎◌, [], ◌∷◌, Bool, IsTrue, Option, Some, None, Ok, Err, option_and_then, ⊤}
use Rattle.clap.specs.Walk.{Text}
use Rattle.sqlite.specs.Held.{Held, state}
use Rattle.sqlite.specs.State.{HasCleanDisk, Survives}
use Rattle.sqlite_trees.specs.declared.store.Store.{Ghosts}
use Rattle.vet_base.specs.Day.{DayValue, read_day}
use Rattle.vet_base.specs.Gives.{Told}
use Rattle.vet_base.specs.Words.{Bytes}
use Rattle.vet_base.specs.declared.refusal.Refusal.{Refusal}
use Rattle.vet_base.specs.declared.refusal.Refusal.TheVariants.{BadDay, NoMemory}
use Rattle.vet_documents.specs.CommandDocument.{command_told}
use Rattle.vet_register.specs.Machine.{next}
use Rattle.vet_register.specs.State.{State}
use Rattle.vet_register.specs.declared.command.Command.{Command}
use Rattle.vet_register.specs.declared.command.Outcome.{Outcome}
use Rattle.vet_reports.specs.OutcomeText.{outcome_text}
use Rattle.vet_requests.specs.Input.{Heard}
use Rattle.vet_rows.specs.RowsOf.{rows_of}
use Rattle.vet_store.specs.Beside.{OthersStay}
use Rattle.vet_store.specs.Committed.{AreTreesBeside}
use Rattle.vet_store.specs.Crash.{LeavesEither}
use Rattle.vet_store.specs.Exact.{IsExact}
use Rattle.vet_store.specs.Headline.{HasHeadline}
use Rattle.vet_store.specs.Runs.{Fails, IsTurn}
use Rattle.vet_store.specs.Tied.{IsTied}
use Rattle.vetd_commands.specs.Making.{Giving}
use Rattle.vetd_commands.specs.Opening.{IsNotOpened, IsOpenedAs}
use Rattle.vetd_words.specs.Answer.{Answer, Explains, IsInput, Prints, Refuses, Serves, input_read}
use Rattle.vetd_words.specs.ApplyWords.{ApplyAsked}

-- A command was run on a register whose rows were in the tables of an open connection. Its answer is its verdict; or
-- memory ran out or the store refused, if either may come in place of the verdict. The headline holds of it. The tables
-- have the rows of the state that is left, and everything else in the database is as it was. If there is an outcome,
-- the store was not shut. A crash leaves these rows, or those of the state after the command, with everything else that
-- was there.
pub record IsRunOf {S : Type 0} (g : Ghosts S) (opened : Held S) (register : State) (command : Command)
    (answer : Told Outcome) (after : Held S) : Type 0 where
  pub end : State
  pub turn : IsTurn register command answer end
  pub exact : IsExact register command answer
  pub headline : HasHeadline register (command ∷ []) (answer ∷ []) end
  pub shut : Bool
  pub shuts : IsTrue shut → Fails answer
  pub tables : IsTied (state g after) shut (rows_of end)
  pub others : OthersStay (state g opened) (state g after)
  pub crash : IsTrue (state g opened).is_open → Survives (state g opened) (state g after)
      (AreTreesBeside (state g opened).now (rows_of (next register command)))
  pub leaves : HasCleanDisk (state g after) → LeavesEither (state g after) register command

module _ {S : Type 0} (g : Ghosts S) (document : Bytes) (day : DayValue) (giver : Option Bytes) where
  -- the document's command was run
  pub record IsGiven (opened : Held S) (register : State) (answer : Told Outcome) (after : Held S) : Type 0 where
    pub command : Command
    pub told : command_told document day giver ≡ Ok command
    pub run : IsRunOf g opened register command answer after

  -- The answer to a document over an open register: the line of an outcome; or the document is not a command or memory
  -- ran out, and nothing was done; or its command was refused.
  abbrev pub IsDocumentAnswer : Held S → State → Answer → Held S → Type 0
  IsDocumentAnswer opened register (Prints text) after =
      (outcome : Outcome) × ((text ≡ outcome_text outcome) × IsGiven opened register (Ok outcome) after)
  IsDocumentAnswer opened register (Refuses refusal) after =
      (((refusal ≡ NoMemory) ⊎ (command_told document day giver ≡ Err refusal)) × (after ≡ opened))
      ⊎ IsGiven opened register (Err refusal) after
  IsDocumentAnswer opened register Explains after = ⊥
  IsDocumentAnswer opened register (Serves text ending) after = ⊥

  -- a register was opened, and this is the answer over it
  pub record IsApplied (before : Held S) (answer : Answer) (after : Held S) : Type 0 where
    pub opened : Held S
    pub register : State
    pub opens : IsOpenedAs g before register opened
    pub answers : IsDocumentAnswer opened register answer after

  -- the answer over a connection: no register was opened, or a document was applied to it
  abbrev pub IsApplyAnswer : Held S → Answer → Held S → Type 0
  IsApplyAnswer before (Prints text) after = IsApplied before (Prints text) after
  IsApplyAnswer before (Refuses refusal) after =
      IsNotOpened g before refusal after ⊎ IsApplied before (Refuses refusal) after
  IsApplyAnswer before Explains after = ⊥
  IsApplyAnswer before (Serves text ending) after = ⊥

-- the day that words give, if they ask for something and their text is a day
abbrev pub day_given : Option ApplyAsked → Option DayValue
day_given asked = option_and_then (λ a. read_day a.day) asked

module _ {S : Type 0} (g : Ghosts S) (Gives : Giving S) where
  -- The answer to a document that is given on a day, and the connection that is left: memory ran out or the path gave
  -- no connection, or the answer is that over the connection that it gave.
  abbrev pub IsApplyFor : Text → Option Bytes → DayValue → Bytes → Answer → Option (Held S) → Type 0
  IsApplyFor path giver day document answer (Some after) = (before : Held S) × (Gives path (Ok before)
      × IsApplyAnswer g document day giver before answer after)
  IsApplyFor path giver day document (Refuses refusal) None = (refusal ≡ NoMemory) ⊎ Gives path (Err refusal)
  IsApplyFor path giver day document _ None = ⊥

  -- the same if the day is still a text: a bad one is refused before everything else
  abbrev pub IsApplyOn : Text → Option Bytes → Option DayValue → Bytes → Answer → Option (Held S) → Type 0
  IsApplyOn path giver (Some day) document answer left = IsApplyFor path giver day document answer left
  IsApplyOn path giver None document answer left = (answer ≡ Refuses BadDay) × (left ≡ None)

  -- the same for words: they are explained if they are not an apply command
  abbrev pub IsAnswerToApply : Option ApplyAsked → Bytes → Answer → Option (Held S) → Type 0
  IsAnswerToApply (Some asked) document answer left =
      IsApplyOn asked.path asked.member (read_day asked.day) document answer left
  IsAnswerToApply None document Explains left = left ≡ None
  IsAnswerToApply None document _ left = ⊥

  -- this holds of the answer to the words and the input, of which at most one byte too many is read
  abbrev pub AnswersApply : Heard → Heard → Option ApplyAsked → Option (Held S) → (Answer → Type 0) → Type 0
  AnswersApply before after asked left Holds = (input : Bytes) × (IsInput before after (day_given asked) input
      × ((answer : Answer) × (IsAnswerToApply asked (input_read input) answer left × Holds answer)))

  -- After a run without an answer, a connection that is left is as after a refusal. Nothing is said of a database if no
  -- connection is left.
  abbrev pub IsUnapplied : Heard → Heard → Option ApplyAsked → Option (Held S) → Type 0
  IsUnapplied before after asked None = ⊤
  IsUnapplied before after asked (Some conn) = (input : Bytes) × (IsInput before after (day_given asked) input
      × ((refusal : Refusal) × IsAnswerToApply asked (input_read input) (Refuses refusal) (Some conn)))
