-- The clients that are served from a register, and the answer (ours).
use Rattle.std.specs.Prelude.{◌≡◌, ◌⊎◌, List, Bool, false, Option, Some, None, Ok, Err, ⊤}
use Rattle.clap.specs.Walk.{Text}
use Rattle.sqlite.specs.Held.{Held, state}
use Rattle.sqlite_trees.specs.declared.store.Store.{Ghosts}
use Rattle.vet_base.specs.Day.{DayValue, read_day}
use Rattle.vet_base.specs.Gives.{Told, found_or, ◌>>=◌}
use Rattle.vet_base.specs.declared.limits.TheConstants.{MOST_MOVES}
use Rattle.vet_base.specs.declared.refusal.Refusal.{Refusal}
use Rattle.vet_base.specs.declared.refusal.Refusal.TheVariants.{BadDay}
use Rattle.vet_register.specs.State.{State, start}
use Rattle.vet_rows.specs.RowsOf.{rows_of}
use Rattle.vet_store.specs.Beside.{OthersStay}
use Rattle.vet_store.specs.Runs.{IsOfStore}
use Rattle.vet_store.specs.Tied.{IsTied}
use Rattle.vetd_commands.specs.Making.{Giving}
use Rattle.vetd_commands.specs.Opening.{IsNotOpened, IsOpenedAs}
use Rattle.vetd_program.specs.DoneTurns.{HasHeadline, LeavesWhereShut}
use Rattle.vetd_program.specs.Serving.{Clients, HasEnded, Turn, printed_by}
use Rattle.vetd_program.specs.declared.clients.arrival.Arrival.{Arrival}
use Rattle.vetd_program.specs.declared.serve_run.Service.{Service}
use Rattle.vetd_words.specs.Answer.{Answer, Ending, Explains, Refuses, Serves}
use Rattle.vetd_words.specs.ServeAsked.{AsksServe, ServeAsked}

-- the day that a text gives, if there is a text; or BadDay if the text is not a day
abbrev pub day_told : Option Text → Told (Option DayValue)
day_told None = Ok None
day_told (Some text) = found_or BadDay (read_day text) >>= λ day. Ok (Some day)

-- the service that is asked for, on this day
abbrev pub on_day : ServeAsked → Option DayValue → Service
on_day asked day = record { port = asked.port; connections = asked.connections; day = day }

-- both statements hold of some answer
abbrev pub Answered : (Answer → Type 0) → (Answer → Type 0) → Type 0
Answered Is Holds = (answer : Answer) × (Is answer × Holds answer)

module _ {N L R W : Type 0} (clients : Clients N L R W) (network network' : N) (service : Service) where
  -- Clients came to a port and were served from a state, one after the other as they came, and this was printed. The
  -- headline holds of them, and so does the statement about what a crash leaves (Leaves).
  pub record IsSitting (Leaves : List Turn → Type 0) (register : State) (text : Text) (ending : Ending) (end : State)
      : Type 0 where
    pub came : List (Arrival R W)
    pub turns : List Turn
    pub ended : HasEnded clients service.day service.port service.connections network register came turns end network'
        ending
    pub printed : text ≡ printed_by service.port turns ending
    pub headline : HasHeadline register turns end
    pub leaves : Leaves turns

  -- the same as an answer
  abbrev pub IsSittingOf : (List Turn → Type 0) → State → State → Answer → Type 0
  IsSittingOf Leaves register end (Serves text ending) = IsSitting Leaves register text ending end
  IsSittingOf Leaves register end _ = ⊥

  -- the answer if the register is a new one in memory
  abbrev pub IsServeInMemory : Answer → Type 0
  IsServeInMemory (Serves text ending) = (end : State) × IsSitting (λ turns. ⊤) (start MOST_MOVES) text ending end
  IsServeInMemory (Refuses refusal) = IsOfStore refusal × (network' ≡ network)
  IsServeInMemory _ = ⊥

module _ {S : Type 0} (g : Ghosts S) {N L R W : Type 0} (clients : Clients N L R W) (network network' : N) where
  -- A register was opened, and clients were served from it. The tables have the rows of the state that the last client
  -- left, and everything else in the database is as opening left it. A crash leaves these rows or, if the store was
  -- shut, those of the state after a command that some client sent.
  pub record IsServedFrom (service : Service) (before : Held S) (text : Text) (ending : Ending) (after : Held S)
      : Type 0 where
    pub opened : Held S
    pub register : State
    pub opens : IsOpenedAs g before register opened
    pub end : State
    pub shut : Bool
    pub sitting : IsSitting clients network network' service (LeavesWhereShut false shut (state g after) end) register
        text ending end
    pub tables : IsTied (state g after) shut (rows_of end)
    pub others : OthersStay (state g opened) (state g after)

  -- the answer over a connection: clients were served from the register in its tables, or none was opened
  abbrev pub IsServeOver : Service → Held S → Answer → Held S → Type 0
  IsServeOver service before (Serves text ending) after = IsServedFrom service before text ending after
  IsServeOver service before (Refuses refusal) after = IsNotOpened g before refusal after × (network' ≡ network)
  IsServeOver service before _ after = ⊥

module _ {S : Type 0} (g : Ghosts S) (Finds : Giving S) {N L R W : Type 0} (clients : Clients N L R W)
    (network network' : N) where
  -- the answer if the register is in the database at a path, and the connection that is left
  abbrev pub IsServeAt : Service → Text → Answer → Option (Held S) → Type 0
  IsServeAt service path answer (Some after) =
      (before : Held S) × (Finds path (Ok before)
      × IsServeOver g clients network network' service before answer after)
  IsServeAt service path (Refuses refusal) None = Finds path (Err refusal) × (network' ≡ network)
  IsServeAt service path _ None = ⊥

  -- the answer, by whether there is a path
  abbrev pub IsServeWhere : Service → Option Text → Answer → Option (Held S) → Type 0
  IsServeWhere service (Some path) answer left = IsServeAt service path answer left
  IsServeWhere service None answer left = IsServeInMemory clients network network' service answer × (left ≡ None)

  -- the same if the day is still a text: a bad one is refused before everything else
  abbrev pub IsServeOn : ServeAsked → Told (Option DayValue) → Answer → Option (Held S) → Type 0
  IsServeOn asked (Ok day) answer left = IsServeWhere (on_day asked day) asked.path answer left
  IsServeOn asked (Err refusal) answer left = (answer ≡ Refuses refusal) × ((left ≡ None) × (network' ≡ network))

  -- the same for words: they are explained if they are not a serve command
  abbrev pub IsAnswerToServe : List Text → Answer → Option (Held S) → Type 0
  IsAnswerToServe words Explains left =
      ((asked : ServeAsked) → AsksServe words asked → ⊥) × ((left ≡ None) × (network' ≡ network))
  IsAnswerToServe words answer left =
      (asked : ServeAsked) × (AsksServe words asked × IsServeOn asked (day_told asked.day) answer left)

  -- this holds of the answer to the words
  abbrev pub AnswersServe : List Text → Option (Held S) → (Answer → Type 0) → Type 0
  AnswersServe words left = Answered (λ answer. IsAnswerToServe words answer left)

module _ {S : Type 0} (g : Ghosts S) where
  -- nobody was served over a connection: no register was opened, or one was opened and nothing else was done
  abbrev pub IsUnservedOver : Held S → Held S → Type 0
  IsUnservedOver before after =
      ((refusal : Refusal) × IsNotOpened g before refusal after)
      ⊎ ((register : State) × IsOpenedAs g before register after)

module _ {S : Type 0} (g : Ghosts S) (Finds : Giving S) where
  -- nobody was served at a path, if there is one
  abbrev pub IsUnservedAt : Option Text → Option (Held S) → Type 0
  IsUnservedAt path None = ⊤
  IsUnservedAt None (Some after) = ⊥
  IsUnservedAt (Some path) (Some after) =
      (before : Held S) × (Finds path (Ok before) × IsUnservedOver g before after)

  -- After a run without an answer, nobody was served over a connection that is left. Nothing is said of a database if
  -- no connection is left.
  abbrev pub IsUnserved : List Text → Option (Held S) → Type 0
  IsUnserved words None = ⊤
  IsUnserved words (Some after) =
      (asked : ServeAsked) × (AsksServe words asked × IsUnservedAt asked.path (Some after))
