-- The reply to a connection, and the state after it; and connections that are served one by one (ours).
--
-- Replies speaks of the bytes that a connection handed over, by IsReplyToTold and IsReplyTo. IsServed is the result of
-- a connection. A target that is not UTF-8, which no head has, has no route.
use Rattle.std.specs.Prelude.{◌≡◌, List, [], ◌∷◌, Option, Result, Ok, Err, ⊤}
use Rattle.std.specs.Io.KnownBytes.{Appends, Keeps}
use Rattle.sqlite.specs.State as sqlite
use Rattle.vet_base.specs.Day.{DayValue}
use Rattle.vet_base.specs.Words.{Bytes}
use Rattle.vet_http.specs.Answer.{IsReplyTo, Stays}
use Rattle.vet_http.specs.AskedFor.{asked_for}
use Rattle.vet_http.specs.ShutStore.{IsToldCutOff, IsToldRefused}
use Rattle.vet_http.specs.HeldAsked.{RepeatsStay}
use Rattle.vet_requests.specs.Input.{Heard, IsReadFrom, heard}
use Rattle.vet_requests.specs.Output.{AppendsPart}
use Rattle.vet_requests.specs.Reply.{plain_reply}
use Rattle.vet_requests.specs.Request.{RequestValue, Requests}
use Rattle.vet_requests.specs.RequestFault.{ToldOf, fault_status}
use Rattle.vet_requests.specs.declared.io_fault.IoFault.{IoFault}
use Rattle.vet_requests.specs.declared.io_fault.IoFault.TheVariants.{Input, Output, Endless, NoMemory}
use Rattle.vet_requests.specs.declared.reply.Reply.{Reply}
use Rattle.vet_http.specs.declared.serve.Connection.{Connection}
use Rattle.vet_http.specs.declared.serve.Served.{Served}
use Rattle.vet_register.specs.State.{State}

-- ---- the reply

-- the reply to a connection's request, or to its fault: the answer to the request, or the fault's status
abbrev pub IsReplyToTold : DayValue → ToldOf RequestValue → State → Reply → State → Type 0
IsReplyToTold day (Ok request) s reply end = IsReplyTo day request s reply end
IsReplyToTold day (Err fault) s reply end = Stays (plain_reply (fault_status fault)) reply s end

-- the reply to a connection's bytes on a day in a state, and the state after it
abbrev pub Replies : DayValue → State → State → Reply → Bytes → Type 0
Replies day s end reply bytes =
    (told : ToldOf RequestValue) × (Requests bytes told × IsReplyToTold day told s reply end)

-- ---- a connection

-- the bytes that were read from a connection, and its reply; Holds is true of both, and Writes of the reply
pub record Exchanges (seen seen' : Heard) (Holds : Reply → Bytes → Type 0) (Writes : Reply → Type 0)
    : Type 0 where
  pub reply : Reply
  pub read : IsReadFrom seen seen' (Holds reply)
  pub written : Writes reply

-- the result of a connection: it was replied to, wholly or in part, and Holds is true of the reply and of the bytes
-- that were read; or it ended in a fault with which nothing was written, and Else is true
abbrev pub IsServedBy : (Reply → Bytes → Type 0) → Type 0
    → Heard → Heard → Option Bytes → Option Bytes → Result Served IoFault → Type 0
IsServedBy Holds Else seen seen' out out' (Ok served) =
    Exchanges seen seen' Holds (λ reply. (served.status ≡ reply.status) × Appends out out' reply.bytes)
IsServedBy Holds Else seen seen' out out' (Err Output) =
    Exchanges seen seen' Holds (λ reply. AppendsPart out out' reply.bytes)
IsServedBy Holds Else seen seen' out out' (Err Input) = Else × Keeps out out'
IsServedBy Holds Else seen seen' out out' (Err Endless) = Else × Keeps out out'
IsServedBy Holds Else seen seen' out out' (Err NoMemory) = Else × Keeps out out'

-- the result of a connection in a state, and the state after it; a fault other than of the write leaves the state
abbrev pub IsServed : DayValue → Heard → Heard → Option Bytes → Option Bytes
    → State → Result Served IoFault → State → Type 0
IsServed day seen seen' out out' s answer end = IsServedBy (Replies day s end) (end ≡ s) seen seen' out out' answer

-- the same, for a connection as it was and as it was left
abbrev pub IsTurn : {R W : Type 0} → (R → Option Bytes) → (W → Option Bytes)
    → State → Connection R W → Connection R W → Result Served IoFault → State → Type 0
IsTurn remaining contents s was left answer end =
    IsServed was.day (heard remaining was.reader) (heard remaining left.reader)
    (contents was.writer) (contents left.writer) s answer end

-- ---- requests that ask for what is held

-- the reply to a request for what is held says so, and the state stays
abbrev pub RepeatsStayTold : DayValue → ToldOf RequestValue → State → Reply → State → Type 0
RepeatsStayTold day (Ok request) s reply end = RepeatsStay (asked_for day request) s reply end
RepeatsStayTold day (Err fault) s reply end = ⊤

-- a reply for which this is true, too
abbrev pub RepliesWithRepeats : DayValue → State → State → Reply → Bytes → Type 0
RepliesWithRepeats day s end reply bytes =
    (told : ToldOf RequestValue)
    × (Requests bytes told × (IsReplyToTold day told s reply end × RepeatsStayTold day told s reply end))

abbrev pub IsServedWithRepeats : DayValue → Heard → Heard → Option Bytes → Option Bytes
    → State → Result Served IoFault → State → Type 0
IsServedWithRepeats day seen seen' out out' s answer end =
    IsServedBy (RepliesWithRepeats day s end) (end ≡ s) seen seen' out out' answer

abbrev pub IsTurnWithRepeats : {R W : Type 0} → (R → Option Bytes) → (W → Option Bytes)
    → State → Connection R W → Connection R W → Result Served IoFault → State → Type 0
IsTurnWithRepeats remaining contents s was left answer end =
    IsServedWithRepeats was.day (heard remaining was.reader) (heard remaining left.reader)
    (contents was.writer) (contents left.writer) s answer end

-- ---- a store that is shut

-- the reply to a request for a command says that the register is unavailable
abbrev pub IsRefusedTold : DayValue → ToldOf RequestValue → Reply → Type 0
IsRefusedTold day (Ok request) reply = IsToldRefused (asked_for day request) reply
IsRefusedTold day (Err fault) reply = ⊤

abbrev pub IsRefusedBy : DayValue → Reply → Bytes → Type 0
IsRefusedBy day reply bytes = (told : ToldOf RequestValue) × (Requests bytes told × IsRefusedTold day told reply)

abbrev pub IsTurnOfShut : {R W : Type 0} → (R → Option Bytes) → (W → Option Bytes)
    → State → Connection R W → Connection R W → Result Served IoFault → State → Type 0
IsTurnOfShut remaining contents s was left answer end =
    IsServedBy (IsRefusedBy was.day) (end ≡ s) (heard remaining was.reader) (heard remaining left.reader)
    (contents was.writer) (contents left.writer) answer

-- ---- a commit that failed

-- it was the commit of the command that a request asked for
abbrev pub IsCutOffTold : DayValue → State → sqlite.State → ToldOf RequestValue → Reply → Type 0
IsCutOffTold day s c (Ok request) reply = IsToldCutOff (asked_for day request) s c reply
IsCutOffTold day s c (Err fault) reply = ⊥

-- a connection's bytes asked for that command
abbrev pub IsCutOffBy : DayValue → State → sqlite.State → Reply → Bytes → Type 0
IsCutOffBy day s c reply bytes =
    (told : ToldOf RequestValue) × (Requests bytes told × IsCutOffTold day s c told reply)

-- ---- connections

-- Holds is true for each connection: of the state of its turn, the connection as it was and as it was left, its result,
-- and the state that it left
abbrev pub Each : {C : Type 0} → (State → C → C → Result Served IoFault → State → Type 0)
    → State → List C → List C → List (Result Served IoFault) → State → Type 0
Each Holds s [] [] [] last = last ≡ s
Each Holds s (was ∷ before) (left ∷ behind) (answer ∷ answers) last =
    (mid : State) × (Holds s was left answer mid × Each Holds mid before behind answers last)
Each Holds s _ _ _ last = ⊥
