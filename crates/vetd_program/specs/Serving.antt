-- Clients that are served one after the other as they come, and the lines that are printed (ours).
use Rattle.std.specs.Prelude.{◌≡◌, ◌≤◌, ℕ, ◌+◌, Bool, true, false, List, [], ◌∷◌, ◌++◌, Option, Some, None, IfSome}
use Rattle.std.specs.Prelude.{Result, Ok, Err, codes, length, map, ⊤}
use Rattle.std.specs.Fmt.{decimal}
use Rattle.std.specs.Io.KnownBytes.{Keeps}
use Rattle.vet_base.specs.Day.{DayValue}
use Rattle.vet_base.specs.Words.{Bytes, Text}
use Rattle.vet_http.specs.Serve.{IsServedWithRepeats}
use Rattle.vet_requests.specs.Input.{Heard, heard}
use Rattle.vet_requests.specs.declared.io_fault.IoFault.{IoFault}
use Rattle.vet_http.specs.declared.serve.Connection.{Connection}
use Rattle.vet_http.specs.declared.serve.Served.{Served}
use Rattle.vet_register.specs.State.{State}
use Rattle.vetd_words.specs.Answer.{Ending, AllCame, NetworkLost, NoPort, Unheard}
use Rattle.vetd_program.specs.declared.clients.arrival.Arrival.{Arrival}
use Rattle.vetd_program.specs.declared.clients.arrival.Arrival.TheVariants.{Client, Failed, Lost}

-- the line that says at which port clients may connect
abbrev pub listening_line : ℕ → Text
listening_line port = codes "listening on 127.0.0.1:" ++ (decimal port ++ codes "\n")

-- the line that says how many clients had their whole reply
abbrev pub served_line : ℕ → Text
served_line served = codes "served " ++ (decimal served ++ codes "\n")

-- how many of the results of connections are whole replies
abbrev pub whole : List (Result Served IoFault) → ℕ
whole [] = 0
whole (Ok served ∷ rest) = 1 + whole rest
whole (Err fault ∷ rest) = whole rest

-- a connection that was served: its day, what was seen of its reader and its writer before and after, and its result
pub record Turn : Type 0 where
  pub day : DayValue
  pub seen : Heard
  pub seen' : Heard
  pub out : Option Bytes
  pub out' : Option Bytes
  pub answer : Result Served IoFault

-- how many of them had their whole reply
abbrev pub replied : List Turn → ℕ
replied turns = whole (map (λ (t : Turn). t.answer) turns)

-- the text that is printed if clients were served at a port, by how that ended
abbrev pub printed_by : ℕ → List Turn → Ending → Text
printed_by port turns AllCame = listening_line port ++ served_line (replied turns)
printed_by port turns NetworkLost = listening_line port
printed_by port turns NoPort = []
printed_by port turns Unheard = listening_line port

-- a connection was served in a state, which it left for another; a request for what is held leaves it as it is
abbrev pub IsServedTurn : State → Turn → State → Type 0
IsServedTurn s t end = IsServedWithRepeats t.day t.seen t.seen' t.out t.out' s t.answer end

-- the listener was lost
abbrev pub is_lost : {R W : Type 0} → List (Arrival R W) → Bool
is_lost [] = false
is_lost (Lost ∷ rest) = true
is_lost (arrival ∷ rest) = is_lost rest

-- a client is served on the day that is given, if one is
abbrev pub IsOnDay : {R W : Type 0} → Option DayValue → Arrival R W → Type 0
IsOnDay told (Client connection) = IfSome told (λ day. connection.day ≡ day)
IsOnDay told _ = ⊤

-- Everything that is known of a network and its clients: the results that listening at a port may give; the arrivals
-- that may come to a listener, given the day, if there is one; the listeners that may be left once a client is
-- released, and the networks once a listener is closed; and, if these are known, the bytes that a client's reader has
-- left and those that its writer holds.
pub record Clients (N L R W : Type 0) : Type 1 where
  pub may_listen : N → ℕ → Option L → N → Type 0
  pub may_come : L → Option DayValue → Arrival R W → L → Type 0
  pub may_release : L → Connection R W → L → Type 0
  pub may_close : N → L → N → Type 0
  pub remaining : R → Option Bytes
  pub contents : W → Option Bytes

abbrev pub clients_of : {N L R W : Type 0} → (N → ℕ → Option L → N → Type 0)
    → (L → Option DayValue → Arrival R W → L → Type 0) → (L → Connection R W → L → Type 0)
    → (N → L → N → Type 0) → (R → Option Bytes) → (W → Option Bytes) → Clients N L R W
clients_of may_listen may_come may_release may_close remaining contents = record {
  may_listen = may_listen;
  may_come = may_come;
  may_release = may_release;
  may_close = may_close;
  remaining = remaining;
  contents = contents;
}

module _ {N L R W : Type 0} (clients : Clients N L R W) where
  -- A client was served in a state, which it left for another, and then released to the listener to which it had come.
  -- The turn has its day, and what was seen of its reader and its writer: as it came, and as it was released.
  pub record IsServedClient (s : State) (l : L) (came : Connection R W) (t : Turn) (s' : State) (l' : L) : Type 0 where
    pub day : t.day ≡ came.day
    pub seen : t.seen ≡ heard clients.remaining came.reader
    pub out : t.out ≡ clients.contents came.writer
    pub served : IsServedTurn s t s'
    pub left : Connection R W
    pub same : left.day ≡ came.day
    pub seen' : t.seen' ≡ heard clients.remaining left.reader
    pub out' : Keeps t.out' (clients.contents left.writer)
    pub released : clients.may_release l left l'

  module _ (told : Option DayValue) where
    -- this arrival came to a listener, on the day that is given
    abbrev pub Comes : L → Arrival R W → L → Type 0
    Comes l arrival l' = clients.may_come l told arrival l' × IsOnDay told arrival

    -- The clients among the arrivals at a listener were served one after the other, each as it came and in the state
    -- that the one before it left. This is the state, and the listener, that the last left. Nobody is awaited once the
    -- listener is lost.
    abbrev pub ServesEach : State → L → List (Arrival R W) → List Turn → State → L → Type 0
    ServesEach s l [] [] end l' = (end ≡ s) × (l' ≡ l)
    ServesEach s l (Failed ∷ rest) turns end l' =
        (next : L) × (Comes l Failed next × ServesEach s next rest turns end l')
    ServesEach s l (Lost ∷ []) [] end l' = (end ≡ s) × Comes l Lost l'
    ServesEach s l (Client came ∷ rest) (t ∷ turns) end l' =
        (held : L) × (Comes l (Client came) held × ((mid : State) × ((next : L)
        × (IsServedClient s held came t mid next × ServesEach mid next rest turns end l'))))
    ServesEach s l _ _ end l' = ⊥

    -- At most this many arrivals came to a listener, and the clients among them were served one after the other,
    -- whatever the kinds of their readers and writers. Exactly this many came, unless the listener was lost.
    pub record AreServed (most : ℕ) (s : State) (l : L) (lost : Bool) (end : State) (l' : L) : Type 0 where
      pub came : List (Arrival R W)
      pub turns : List Turn
      pub one_by_one : ServesEach s l came turns end l'
      pub few : length came ≤ most
      pub found : lost ≡ is_lost came
      pub all : lost ≡ false → length came ≡ most

    -- the program listened at a port, served the clients that came there, and closed it
    pub record AreServedAt (port : ℕ) (network : N) (s : State) (came : List (Arrival R W)) (turns : List Turn)
        (end : State) (network' : N) : Type 0 where
      pub listener : L
      pub listening : N
      pub listens : clients.may_listen network port (Some listener) listening
      pub last : L
      pub one_by_one : ServesEach s listener came turns end last
      pub closes : clients.may_close listening last network'

    -- How waiting for this many clients at a port ended: this many arrivals came; the last arrival is the loss of the
    -- listener; the port was not available; or the first line couldn't be printed, so that nobody was awaited.
    abbrev pub HasEnded : ℕ → ℕ → N → State → List (Arrival R W) → List Turn → State → N → Ending → Type 0
    HasEnded port most network s came turns end network' AllCame =
        AreServedAt port network s came turns end network' × ((length came ≡ most) × (is_lost came ≡ false))
    HasEnded port most network s came turns end network' NetworkLost =
        AreServedAt port network s came turns end network' × ((length came ≤ most) × (is_lost came ≡ true))
    HasEnded port most network s came turns end network' NoPort =
        clients.may_listen network port None network' × ((came ≡ []) × ((turns ≡ []) × (end ≡ s)))
    HasEnded port most network s came turns end network' Unheard =
        AreServedAt port network s came turns end network' × (came ≡ [])
