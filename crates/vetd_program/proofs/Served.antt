-- From what came of serving a register to the answer to the words.
use Rattle.std.proofs.Common.{◌≡◌, ◌≢◌, ◌∙◌, inr, ℕ, List, Bool, false, Option, Some, None, Result, Ok, Err, IfErr}
use Rattle.std.proofs.Common.{IfOk, refl, subst, sym}
use Rattle.std.specs.Bool.{⊤}
use Rattle.std.specs.Io.KnownBytes.{Keeps}
use Rattle.clap.specs.Walk.{Text}
use Rattle.sqlite.specs.Held.{Held, state}
use Rattle.sqlite_trees.specs.declared.store.Store.{Ghosts}
use Rattle.vet_base.specs.Day.{DayValue}
use Rattle.vet_base.specs.Gives.{Told}
use Rattle.vet_base.specs.Words.{Bytes}
use Rattle.vet_base.specs.declared.limits.TheConstants.{MOST_MOVES}
use Rattle.vet_base.specs.declared.refusal.Refusal.{Refusal}
use Rattle.vet_requests.specs.declared.io_fault.IoFault.{IoFault}
use Rattle.vet_requests.specs.declared.io_fault.IoFault.TheVariants.{Output}
use Rattle.vet_register.specs.State.{State, start}
use Rattle.vet_rows.specs.RowsOf.{rows_of}
use Rattle.vet_store.specs.Beside.{OthersStay}
use Rattle.vet_store.specs.Tied.{IsTied}
use Rattle.vetd_words.specs.Answer.{Answer, Ending, Explains, IsWritten, Prints, Refuses, Says, Serves, Stops}
use Rattle.vetd_commands.specs.Making.{Giving}
use Rattle.vetd_commands.specs.Opening.{IsOpenedAs}
use Rattle.vetd_words.specs.ServeAsked.{AsksServe, ServeAsked}
use Rattle.vetd_program.specs.ServeRun.{Answered, AnswersServe, IsAnswerToServe, IsServeAt, IsServeInMemory, IsServeOn}
use Rattle.vetd_program.specs.ServeRun.{IsServeOver, IsServeWhere, IsSitting, IsSittingOf, IsUnserved, IsUnservedAt}
use Rattle.vetd_program.specs.ServeRun.{IsUnservedOver, day_told, on_day}
use Rattle.vetd_program.specs.DoneTurns.{LeavesWhereShut}
use Rattle.vetd_program.specs.Serving.{Clients, Turn}
use Rattle.vetd_program.specs.declared.serve_run.Service.{Service}
use Rattle.vetd_words.proofs.Answered.{told_written, was_untold, written_as}

-- an answer was written that is one
pub is_told : (Is : Answer → Type 0) (Untold : Type 0) (answer : Answer) → Is answer → Untold → (r : Result ℕ IoFault)
    (out out' errors errors' : Option Bytes)
    → IfOk r (λ status. Says answer status out out' errors errors')
    → IfErr r (λ fault. fault ≡ Output → Stops answer out out' errors errors')
    → IfErr r (λ fault. fault ≢ Output → Keeps out out' × Keeps errors errors')
    → IsWritten (Answered Is) Untold r out out' errors errors'
is_told Is Untold answer is untold r out out' errors errors' says stops silent =
    told_written (Answered Is) Untold answer (λ Holds holds. (answer, (is, holds))) r out out' errors errors' says stops
    silent (was_untold (Answered Is) Untold r untold)

-- what was written of one answer is written of what it is an answer to
pub is_told_of : (Is Of : Answer → Type 0) (Untold Unsaid : Type 0) → ((answer : Answer) → Is answer → Of answer)
    → (Untold → Unsaid) → (r : Result ℕ IoFault) (out out' errors errors' : Option Bytes)
    → IsWritten (Answered Is) Untold r out out' errors errors'
    → IsWritten (Answered Of) Unsaid r out out' errors errors'
is_told_of Is Of Untold Unsaid of untold r out out' errors errors' written =
    written_as (Answered Is) (Answered Of) Untold Unsaid
    (λ Holds answered. (answered.0, (of answered.0 answered.1.0, answered.1.1))) untold
    r out out' errors errors' written

-- what is less known of what a crash leaves
less_known : {N L R W : Type 0} (clients : Clients N L R W) (network network' : N) (service : Service)
    (Leaves Left : List Turn → Type 0) (register end : State) (text : Text) (ending : Ending)
    → ((turns : List Turn) → Leaves turns → Left turns)
    → IsSitting clients network network' service Leaves register text ending end
    → IsSitting clients network network' service Left register text ending end
less_known clients network network' service Leaves Left register end text ending weaker is = record {
  came = is.came;
  turns = is.turns;
  ended = is.ended;
  printed = is.printed;
  headline = is.headline;
  leaves = weaker is.turns is.leaves;
}

module _ {S : Type 0} (g : Ghosts S) {N L R W : Type 0} (clients : Clients N L R W) (network network' : N)
    (service : Service) (before : Held S) where
  served_over : (opened after : Held S) (register end : State) (shut : Bool) → IsOpenedAs g before register opened
      → IsTied (state g after) shut (rows_of end) → OthersStay (state g opened) (state g after) → (answer : Answer)
      → IsSittingOf clients network network' service (LeavesWhereShut false shut (state g after) end) register end
      answer
      → IsServeOver g clients network network' service before answer after
  served_over opened after register end shut opens tables others (Prints text) is = absurd is
  served_over opened after register end shut opens tables others (Refuses refusal) is = absurd is
  served_over opened after register end shut opens tables others Explains is = absurd is
  served_over opened after register end shut opens tables others (Serves text ending) is = record {
    opened = opened;
    register = register;
    opens = opens;
    end = end;
    shut = shut;
    sitting = is;
    tables = tables;
    others = others;
  }

  -- clients were served from a register that was opened, and the connection was given back
  pub over_opened : (opened last after : Held S) (register end : State) (shut : Bool) (Same : Type 0)
      → IsOpenedAs g before register opened → (Same → last ≡ opened) → after ≡ last
      → IsTied (state g after) shut (rows_of end) → OthersStay (state g opened) (state g after)
      → (r : Result ℕ IoFault) (out out' errors errors' : Option Bytes)
      → IsWritten (Answered (IsSittingOf clients network network' service
      (LeavesWhereShut false shut (state g after) end) register end)) ((network' ≡ network) × Same) r out out' errors
      errors'
      → IsWritten (Answered (λ answer. IsServeOver g clients network network' service before answer after))
      ((network' ≡ network) × IsUnservedOver g before after) r out out' errors errors'
  over_opened opened last after register end shut Same opens same closed tables others =
      is_told_of
      (IsSittingOf clients network network' service (LeavesWhereShut false shut (state g after) end) register end)
      (λ answer. IsServeOver g clients network network' service before answer after) ((network' ≡ network) × Same)
      ((network' ≡ network) × IsUnservedOver g before after)
      (served_over opened after register end shut opens tables others)
      (λ untold. (
        untold.0,
        inr (
          register,
          subst (λ (h : Held S). IsOpenedAs g before register h) (sym (closed ∙ same untold.1)) opens,
        ),
      ))

-- clients were served from a new register in memory
module _ {N L R W : Type 0} (clients : Clients N L R W) (network network' : N) (service : Service)
    (Leaves : List Turn → Type 0) where
  in_memory : (register end : State) → register ≡ start MOST_MOVES → (answer : Answer)
      → IsSittingOf clients network network' service Leaves register end answer
      → IsServeInMemory clients network network' service answer
  in_memory register end first (Prints text) is = absurd is
  in_memory register end first (Refuses refusal) is = absurd is
  in_memory register end first Explains is = absurd is
  in_memory register end first (Serves text ending) is =
      let known = less_known clients network network' service Leaves (λ turns. ⊤) register end text ending (λ _ _. tt)
      is
      in (
        end,
        subst (λ (s : State). IsSitting clients network network' service (λ turns. ⊤) s text ending end) first known,
      )

  pub of_memory : (Same : Type 0) (register end : State) → register ≡ start MOST_MOVES → (r : Result ℕ IoFault)
      (out out' errors errors' : Option Bytes)
      → IsWritten (Answered (IsSittingOf clients network network' service Leaves register end))
      ((network' ≡ network) × Same) r out out' errors errors'
      → IsWritten (Answered (IsServeInMemory clients network network' service)) (network' ≡ network) r out out' errors
      errors'
  of_memory Same register end first =
      is_told_of (IsSittingOf clients network network' service Leaves register end)
      (IsServeInMemory clients network network' service) ((network' ≡ network) × Same) (network' ≡ network)
      (in_memory register end first) (λ untold. untold.0)

module _ {S : Type 0} (g : Ghosts S) (Finds : Giving S) {N L R W : Type 0} (clients : Clients N L R W)
    (network network' : N) where
  -- what came of a connection that was found at a path
  pub at_path : (service : Service) (path : Text) (before after : Held S) → Finds path (Ok before)
      → (r : Result ℕ IoFault) (out out' errors errors' : Option Bytes)
      → IsWritten (Answered (λ answer. IsServeOver g clients network network' service before answer after))
      ((network' ≡ network) × IsUnservedOver g before after) r out out' errors errors'
      → IsWritten (Answered (λ answer. IsServeAt g Finds clients network network' service path answer (Some after)))
      ((network' ≡ network) × IsUnservedAt g Finds (Some path) (Some after)) r out out' errors errors'
  at_path service path before after finds =
      is_told_of (λ answer. IsServeOver g clients network network' service before answer after)
      (λ answer. IsServeAt g Finds clients network network' service path answer (Some after))
      ((network' ≡ network) × IsUnservedOver g before after)
      ((network' ≡ network) × IsUnservedAt g Finds (Some path) (Some after)) (λ answer is. (before, (finds, is)))
      (λ untold. (untold.0, (before, (finds, untold.1))))

  module _ (asked : ServeAsked) (service : Service) (day : day_told asked.day ≡ Ok service.day)
      (same : service ≡ on_day asked service.day) (left : Option (Held S)) where
    served_where : (answer : Answer) → IsServeWhere g Finds clients network network' service asked.path answer left
        → IsServeOn g Finds clients network network' asked (day_told asked.day) answer left
    served_where answer is =
        subst (λ (told : Told (Option DayValue)). IsServeOn g Finds clients network network' asked told answer left)
        (sym day)
        (subst (λ (s : Service). IsServeWhere g Finds clients network network' s asked.path answer left) same is)

    -- what came of what is asked for, at a path
    pub on_path : (path : Text) → asked.path ≡ Some path → (r : Result ℕ IoFault)
        (out out' errors errors' : Option Bytes)
        → IsWritten (Answered (λ answer. IsServeAt g Finds clients network network' service path answer left))
        ((network' ≡ network) × IsUnservedAt g Finds (Some path) left) r out out' errors errors'
        → IsWritten
        (Answered (λ answer. IsServeOn g Finds clients network network' asked (day_told asked.day) answer left))
        ((network' ≡ network) × IsUnservedAt g Finds asked.path left) r out out' errors errors'
    on_path path told =
        is_told_of (λ answer. IsServeAt g Finds clients network network' service path answer left)
        (λ answer. IsServeOn g Finds clients network network' asked (day_told asked.day) answer left)
        ((network' ≡ network) × IsUnservedAt g Finds (Some path) left)
        ((network' ≡ network) × IsUnservedAt g Finds asked.path left)
        (λ answer is. served_where answer
        (subst (λ (p : Option Text). IsServeWhere g Finds clients network network' service p answer left) (sym told)
        is))
        (λ untold. (
          untold.0,
          subst (λ (p : Option Text). IsUnservedAt g Finds p left) (sym told) untold.1,
        ))

    -- and in memory
    pub on_none : asked.path ≡ None → left ≡ None → (r : Result ℕ IoFault) (out out' errors errors' : Option Bytes)
        → IsWritten (Answered (IsServeInMemory clients network network' service)) (network' ≡ network) r out out'
        errors errors'
        → IsWritten
        (Answered (λ answer. IsServeOn g Finds clients network network' asked (day_told asked.day) answer left))
        ((network' ≡ network) × IsUnservedAt g Finds asked.path left) r out out' errors errors'
    on_none told none =
        is_told_of (IsServeInMemory clients network network' service)
        (λ answer. IsServeOn g Finds clients network network' asked (day_told asked.day) answer left)
        (network' ≡ network) ((network' ≡ network) × IsUnservedAt g Finds asked.path left)
        (λ answer is. served_where answer
        (subst (λ (p : Option Text). IsServeWhere g Finds clients network network' service p answer left) (sym told)
        (is, none)))
        (λ untold. (untold, subst (λ (h : Option (Held S)). IsUnservedAt g Finds asked.path h) (sym none) tt))

  -- a bad day is told before all else
  pub bad_day : (asked : ServeAsked) (refusal : Refusal) → network' ≡ network → day_told asked.day ≡ Err refusal
      → IsServeOn g Finds clients network network' asked (day_told asked.day) (Refuses refusal) None
  bad_day asked refusal alone bad =
      subst
      (λ (told : Told (Option DayValue)). IsServeOn g Finds clients network network' asked told (Refuses refusal) None)
      (sym bad) (refl, (refl, alone))

  never_explained : (service : Service) (path : Option Text) (left : Option (Held S))
      → IsServeWhere g Finds clients network network' service path Explains left → ⊥
  never_explained service None left is = is.0
  never_explained service (Some path) None is = is
  never_explained service (Some path) (Some after) is = is.1.1

  no_explanation : (asked : ServeAsked) (told : Told (Option DayValue)) (left : Option (Held S))
      → IsServeOn g Finds clients network network' asked told Explains left → ⊥
  no_explanation asked (Ok day) left is = never_explained (on_day asked day) asked.path left is
  no_explanation asked (Err refusal) left is = let two : Explains ≡ Refuses refusal = is.0 in cc

  module _ (words : List Text) (asked : ServeAsked) (asks : AsksServe words asked) where
    answers_words : (left : Option (Held S)) (answer : Answer)
        → IsServeOn g Finds clients network network' asked (day_told asked.day) answer left
        → IsAnswerToServe g Finds clients network network' words answer left
    answers_words left (Prints text) is = (asked, (asks, is))
    answers_words left (Refuses refusal) is = (asked, (asks, is))
    answers_words left Explains is = absurd (no_explanation asked (day_told asked.day) left is)
    answers_words left (Serves text ending) is = (asked, (asks, is))

    unserved_words : (left : Option (Held S)) → IsUnservedAt g Finds asked.path left → IsUnserved g Finds words left
    unserved_words None untold = tt
    unserved_words (Some after) untold = (asked, (asks, untold))

    -- what came of what the words ask for
    pub of_words : (left : Option (Held S)) (r : Result ℕ IoFault) (out out' errors errors' : Option Bytes)
        → IsWritten
        (Answered (λ answer. IsServeOn g Finds clients network network' asked (day_told asked.day) answer left))
        ((network' ≡ network) × IsUnservedAt g Finds asked.path left) r out out' errors errors'
        → IsWritten (AnswersServe g Finds clients network network' words left)
        ((network' ≡ network) × IsUnserved g Finds words left) r out out' errors errors'
    of_words left =
        is_told_of (λ answer. IsServeOn g Finds clients network network' asked (day_told asked.day) answer left)
        (λ answer. IsAnswerToServe g Finds clients network network' words answer left)
        ((network' ≡ network) × IsUnservedAt g Finds asked.path left)
        ((network' ≡ network) × IsUnserved g Finds words left) (answers_words left)
        (λ untold. (untold.0, unserved_words left untold.1))

  -- words that are no serve command are explained
  pub serve_explained : (words : List Text) → network' ≡ network → ((asked : ServeAsked) → AsksServe words asked → ⊥)
      → (Holds : Answer → Type 0) → Holds Explains → AnswersServe g Finds clients network network' words None Holds
  serve_explained words alone none Holds holds = (Explains, ((none, (refl, alone)), holds))
