-- The clients of a network in memory (ours).
use Rattle.std.specs.Prelude.{◌≡◌, List, [], ◌∷◌, ◌++◌, Option, None, Some, ⊤}
use Rattle.vet_base.specs.Day.{DayValue}
use Rattle.vetd_program.specs.declared.clients.arrival.Arrival.{Arrival}
use Rattle.vetd_program.specs.declared.clients.arrival.Arrival.TheVariants.{Client, Lost}
use Rattle.vetd_program.specs.declared.clients.memory_network.MemoryListener.{MemoryListener}
use Rattle.vetd_program.specs.declared.clients.memory_network.MemoryNetwork.{MemoryNetwork}

-- a client on the day that is given, if one is
abbrev pub on_given_day : {R W : Type 0} → Option DayValue → Arrival R W → Arrival R W
on_given_day (Some day) (Client was) = Client (record { day = day; reader = was.reader; writer = was.writer })
on_given_day _ arrival = arrival

-- the next arrival that is held comes; if none is left, the loss of the listener
abbrev pub ComesNext : {R W : Type 0} → List (Arrival R W) → Option DayValue → Arrival R W → List (Arrival R W) → Type 0
ComesNext [] told arrival rest = (arrival ≡ Lost) × (rest ≡ [])
ComesNext (next ∷ later) told arrival rest = (arrival ≡ on_given_day told next) × (rest ≡ later)

-- a listener has the clients that the network holds, and then the network holds none; if it held none, nobody can
-- listen
abbrev pub ListensOnce : {R W : Type 0} → MemoryNetwork R W → Option (MemoryListener R W) → MemoryNetwork R W → Type 0
ListensOnce network None network' = (network.coming ≡ None) × (network' ≡ network)
ListensOnce network (Some listener) network' =
    (network.coming ≡ Some listener.coming) × ((listener.released ≡ network.released) × (network'.coming ≡ None))

-- a client was added after those that were released, if there was room for it and each of these
abbrev pub IsReleased : {A : Type 0} → Option (List A) → A → Option (List A) → Type 0
IsReleased was client None = ⊤
IsReleased None client (Some clients) = ⊥
IsReleased (Some was) client (Some clients) = clients ≡ was ++ client ∷ []

-- the network has the clients that its listener released
abbrev pub IsClosed : {R W : Type 0} → MemoryNetwork R W → MemoryListener R W → MemoryNetwork R W → Type 0
IsClosed network listener network' = (network'.coming ≡ network.coming) × (network'.released ≡ listener.released)
