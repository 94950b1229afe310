-- From what the steps of applying a document ensure to the answer over the connection.
use Rattle.std.proofs.Common.{◌≡◌, ◌≢◌, ◌∙◌, ◌++◌, inr, List, ℕ, ◌≤◌, ◌+◌, Option, Some, None}
use Rattle.std.proofs.Common.{Result, Ok, Err, IfOk, IfErr, IfSome, IsOkAnd, ap, length, refl, sym, subst}
use Rattle.sqlite.specs.Held.{Held}
use Rattle.sqlite_trees.specs.declared.store.Store.{Ghosts}
use Rattle.vet_base.specs.Day.{DayValue, read_day}
use Rattle.vet_base.specs.Gives.{Told, found_or}
use Rattle.vet_base.specs.Words.{Bytes}
use Rattle.vet_base.specs.declared.limits.TheConstants.{MOST_INPUT_BYTES}
use Rattle.vet_base.specs.declared.refusal.Refusal.{Refusal}
use Rattle.vet_base.specs.declared.refusal.Refusal.TheVariants.{BadDay}
use Rattle.vet_documents.specs.CommandDocument.{command_told}
use Rattle.vet_requests.specs.Input.{Heard}
use Rattle.vet_requests.specs.declared.io_fault.IoFault.{IoFault}
use Rattle.vet_requests.specs.declared.io_fault.IoFault.TheVariants.{Output}
use Rattle.vet_register.specs.State.{State}
use Rattle.vet_register.specs.declared.command.Command.{Command}
use Rattle.vet_register.specs.declared.command.Outcome.{Outcome}
use Rattle.vet_reports.specs.OutcomeText.{outcome_text}
use Rattle.vetd_words.specs.Answer.{Answer, Explains, Refuses, answer_for, input_read}
use Rattle.vetd_words.specs.ApplyWords.{ApplyAsked}
use Rattle.vetd_commands.specs.Applying.{AnswersApply, IsAnswerToApply, IsApplyAnswer, IsApplyFor, IsApplyOn}
use Rattle.vetd_commands.specs.Applying.{IsDocumentAnswer, IsGiven, IsRunOf, IsUnapplied, day_given}
use Rattle.vetd_commands.specs.Making.{Giving}
use Rattle.vetd_commands.specs.Opening.{IsOpenedAs}
use Rattle.vetd_words.proofs.AnswerLemmas.{any_input, some_input}

module _ {S : Type 0} (g : Ghosts S) (document : Bytes) (day : DayValue) (giver : Option Bytes) {T : Type 0}
    (text : T → List ℕ) where
  -- over a register that was opened, the answer to the document is the answer
  pub over_opened : (before opened : Held S) (register : State) (told : Result T Refusal) (after : Held S)
      → IsOpenedAs g before register opened
      → IsDocumentAnswer g document day giver opened register (answer_for text told) after
      → IsApplyAnswer g document day giver before (answer_for text told) after
  over_opened before opened register (Ok line) after opens answers =
      record { opened = opened; register = register; opens = opens; answers = answers }
  over_opened before opened register (Err refusal) after opens answers =
      inr (record { opened = opened; register = register; opens = opens; answers = answers })

  -- the answer to a document whose command was run
  pub was_given : (opened after conn : Held S) (register : State) (command : Command) (answer : Told Outcome)
      (told : Result T Refusal) → after ≡ conn → command_told document day giver ≡ Ok command
      → IsRunOf g opened register command answer conn
      → IfOk answer (λ outcome. IsOkAnd told (λ line. text line ≡ outcome_text outcome))
      → IfErr answer (λ refusal. told ≡ Err refusal)
      → IsDocumentAnswer g document day giver opened register (answer_for text told) after
  was_given opened after conn register command (Ok outcome) (Ok line) same read run done refused = (
    outcome,
    (
      done,
      subst (λ (h : Held S). IsGiven g document day giver opened register (Ok outcome) h) (sym same)
          record { command = command; told = read; run = run },
    ),
  )
  was_given opened after conn register command (Ok outcome) (Err refusal) same read run done refused = absurd done
  was_given opened after conn register command (Err refusal) told same read run done refused =
      subst (λ (t : Result T Refusal). IsDocumentAnswer g document day giver opened register (answer_for text t) after)
      (sym refused)
      (inr (subst (λ (h : Held S). IsGiven g document day giver opened register (Err refusal) h) (sym same)
      record { command = command; told = read; run = run }))

module _ {S : Type 0} (g : Ghosts S) (Gives : Giving S) where
  -- where a path gave a connection, the answer is that over it
  pub apply_answer : {T : Type 0} (text : T → List ℕ) (path : List ℕ) (giver : Option Bytes) (day : DayValue)
      (document : Bytes) (told : Result T Refusal) (before after : Held S) → Gives path (Ok before)
      → IsApplyAnswer g document day giver before (answer_for text told) after
      → IsApplyFor g Gives path giver day document (answer_for text told) (Some after)
  apply_answer text path giver day document (Ok line) before after gives is = (before, (gives, is))
  apply_answer text path giver day document (Err refusal) before after gives is = (before, (gives, is))

  module _ (seen seen' : Heard) (asked : ApplyAsked) (day : DayValue) (is_day : read_day asked.day ≡ Some day)
      (file document : Bytes) (giver : Option Bytes) (read : IfSome seen.left (λ input. file ≡ input_read input))
      (kept : seen'.handed ≡ seen.handed ++ file) (bound : length file ≤ MOST_INPUT_BYTES + 1)
      (whole : document ≡ file) (given : giver ≡ asked.member) where
    -- the answer to what was read is that to what is asked and the input
    answer_on : (input : Bytes) → file ≡ input_read input → (answer : Answer) (left : Option (Held S))
        → IsApplyFor g Gives asked.path giver day document answer left
        → IsApplyOn g Gives asked.path asked.member (read_day asked.day) (input_read input) answer left
    answer_on input taken answer left is =
        subst (λ (d : Option DayValue). IsApplyOn g Gives asked.path asked.member d (input_read input) answer left)
        (sym is_day)
        (subst (λ (bytes : Bytes). IsApplyFor g Gives asked.path asked.member day bytes answer left) (whole ∙ taken)
        (subst (λ (w : Option Bytes). IsApplyFor g Gives asked.path w day document answer left) given is))

    pub apply_of_input : (answer : Answer) (left : Option (Held S))
        → IsApplyFor g Gives asked.path giver day document answer left
        → (Holds : Answer → Type 0) → Holds answer → AnswersApply g Gives seen seen' (Some asked) left Holds
    apply_of_input answer left is = λ Holds holds.
        let found = some_input seen seen' (day_given (Some asked)) file read kept bound in
        (found.0, (found.1.0, (answer, (answer_on found.0 found.1.1 answer left is, holds))))

    -- a text that was told meets no fault but that of a write
    pub apply_untold : {T : Type 0} (text : T → List ℕ) (told : Result T Refusal) (left : Option (Held S))
        (r : Result ℕ IoFault) → IsApplyFor g Gives asked.path giver day document (answer_for text told) left
        → IfOk told (λ _. IfErr r (λ fault. fault ≡ Output))
        → IfErr r (λ fault. fault ≢ Output → IsUnapplied g Gives seen seen' (Some asked) left)
    apply_untold text told left (Ok status) is printed = tt
    apply_untold text (Ok line) left (Err fault) is printed = λ other. absurd (other printed)
    apply_untold text (Err refusal) None (Err fault) is printed = λ other. tt
    apply_untold text (Err refusal) (Some after) (Err fault) is printed = λ other.
        let found = some_input seen seen' (day_given (Some asked)) file read kept bound in
        (found.0, (found.1.0, (refusal, answer_on found.0 found.1.1 (Refuses refusal) (Some after) is)))

module _ {S : Type 0} (g : Ghosts S) (Gives : Giving S) (seen seen' : Heard) where
  -- a text that is no day is told before all else
  pub bad_day : (asked : ApplyAsked) (refusal : Refusal) → read_day asked.day ≡ None → refusal ≡ BadDay
      → (Holds : Answer → Type 0) → Holds (Refuses refusal) → AnswersApply g Gives seen seen' (Some asked) None Holds
  bad_day asked refusal none bad = λ Holds holds.
      let found = any_input seen seen' (day_given (Some asked)) none in
      let first : IsApplyOn g Gives asked.path asked.member (read_day asked.day) (input_read found.0) (Refuses refusal)
      None =
      subst (λ (d : Option DayValue). IsApplyOn g Gives asked.path asked.member d (input_read found.0) (Refuses refusal)
      None) (sym none) (ap Refuses bad, refl) in
      (found.0, (found.1, (Refuses refusal, (first, holds))))

  -- words that ask for nothing are explained
  pub apply_explained : (meant : Option ApplyAsked) → meant ≡ None → (Holds : Answer → Type 0) → Holds Explains
      → AnswersApply g Gives seen seen' meant None Holds
  apply_explained meant none Holds holds =
      let found = any_input seen seen' (day_given meant) (ap day_given none) in
      let explained : IsAnswerToApply g Gives meant (input_read found.0) Explains None =
      subst (λ (m : Option ApplyAsked). IsAnswerToApply g Gives m (input_read found.0) Explains None) (sym none) refl in
      (found.0, (found.1, (Explains, (explained, holds))))

  -- with no connection nothing was done
  pub apply_undone : (meant : Option ApplyAsked) (r : Result ℕ IoFault)
      → IfErr r (λ fault. fault ≢ Output → IsUnapplied g Gives seen seen' meant None)
  apply_undone meant (Ok status) = tt
  apply_undone meant (Err fault) = λ other. tt

-- whether a text is a day, by what reading it tells
pub is_no_day : {A : Type 0} (found : Option A) (refusal : Refusal) → Err refusal ≡ found_or BadDay found
    → (found ≡ None) × (refusal ≡ BadDay)
is_no_day None refusal told = (refl, cc)
is_no_day (Some day) refusal told = let two : Err refusal ≡ Ok day = told in cc

pub is_that_day : {A : Type 0} (found : Option A) (day : A) → Ok day ≡ found_or BadDay found → found ≡ Some day
is_that_day None day told = let two : Ok day ≡ Err BadDay = told in cc
is_that_day (Some other) day told = cc
