-- From what was read and its reply to what a connection was served.
use Rattle.std.proofs.Common.{◌≡◌, ◌≢◌, Option, Some, Result, Ok, Err, IfErr, IfOk, OnErr, OnOk, refl, sym, subst}
use Rattle.std.specs.Io.KnownBytes.{Appends, Keeps}
use Rattle.sqlite.specs.State.{HasCleanDisk}
use Rattle.sqlite.specs.State as sqlite
use Rattle.vet_base.specs.Day.{DayValue}
use Rattle.vet_base.specs.Words.{Bytes}
use Rattle.vet_http.specs.ShutStore.{LeavesAsked}
use Rattle.vet_http.specs.DoneRequests.{IsAskedBy}
use Rattle.vet_requests.specs.Input.{Hands, Heard, IsReadFrom}
use Rattle.vet_requests.specs.Output.{AppendsPart}
use Rattle.vet_requests.specs.Request.{RequestValue, Requests}
use Rattle.vet_requests.specs.RequestFault.{ToldOf}
use Rattle.vet_http.specs.Serve.{Exchanges, IsCutOffBy, IsServed, IsServedBy, IsServedWithRepeats, Replies}
use Rattle.vet_http.specs.Serve.{RepliesWithRepeats}
use Rattle.vet_http.specs.ServeBytes.{IsServedOfBytes, RepliesToBytes}
use Rattle.vet_requests.specs.declared.io_fault.IoFault.{IoFault}
use Rattle.vet_requests.specs.declared.io_fault.IoFault.TheVariants.{Input, Output, Endless, NoMemory}
use Rattle.vet_requests.specs.declared.reply.Reply.{Reply}
use Rattle.vet_http.specs.declared.serve.Served.{Served}
use Rattle.vet_requests.proofs.ReadLemmas.{read_each}
use Rattle.vet_register.specs.State.{State}
use Rattle.vet_register.specs.declared.command.Command.{Command}
use Rattle.vet_store.specs.Crash.{LeavesEither}

module _ (Else : Type 0) (seen seen' : Heard) (out out' : Option Bytes) (result : Result Served IoFault) where
  -- the reply to what was read was written whole, or in part
  pub replied : (Holds : Reply → Bytes → Type 0) (told : ToldOf RequestValue) (reply : Reply)
      → IsReadFrom seen seen' (λ bytes. Requests bytes told)
      → ((bytes : Bytes) → Requests bytes told → Holds reply bytes)
      → IfOk result (λ served. served.status ≡ reply.status) → OnOk result (Appends out out' reply.bytes)
      → IfErr result (λ fault. fault ≡ Output) → OnErr result (AppendsPart out out' reply.bytes)
      → IsServedBy Holds Else seen seen' out out' result
  replied Holds told reply read holds status whole is_output part =
      by_result result status whole is_output part
    where
      exchange : (Writes : Reply → Type 0) → Writes reply → Exchanges seen seen' Holds Writes
      exchange Writes written = record {
        reply = reply;
        read = read_each seen seen' (λ (bytes : Bytes). Requests bytes told) (Holds reply) holds read;
        written = written;
      }

      by_result : (r : Result Served IoFault) → IfOk r (λ served. served.status ≡ reply.status)
          → OnOk r (Appends out out' reply.bytes) → IfErr r (λ fault. fault ≡ Output)
          → OnErr r (AppendsPart out out' reply.bytes) → IsServedBy Holds Else seen seen' out out' r
      by_result (Ok served) status whole is_output part =
          exchange (λ (x : Reply). (served.status ≡ x.status) × Appends out out' x.bytes) (status, whole)
      by_result (Err fault) status whole is_output part =
          subst (λ (f : IoFault). IsServedBy Holds Else seen seen' out out' (Err f)) (sym is_output)
          (exchange (λ (x : Reply). AppendsPart out out' x.bytes) part)

  -- what holds of each reply and what was read holds of a connection that was replied to
  pub served_each : (Holds Follows : Reply → Bytes → Type 0)
      → ((reply : Reply) (bytes : Bytes) → Holds reply bytes → Follows reply bytes)
      → IsServedBy Holds Else seen seen' out out' result → IsServedBy Follows Else seen seen' out out' result
  served_each Holds Follows follows served = by_result result served
    where
      exchange : (Writes : Reply → Type 0) → Exchanges seen seen' Holds Writes
          → Exchanges seen seen' Follows Writes
      exchange Writes h = record {
        reply = h.reply;
        read = read_each seen seen' (Holds h.reply) (Follows h.reply) (follows h.reply) h.read;
        written = h.written;
      }

      by_result : (r : Result Served IoFault) → IsServedBy Holds Else seen seen' out out' r
          → IsServedBy Follows Else seen seen' out out' r
      by_result (Ok served) h =
          exchange (λ (x : Reply). (served.status ≡ x.status) × Appends out out' x.bytes) h
      by_result (Err Output) h = exchange (λ (x : Reply). AppendsPart out out' x.bytes) h
      by_result (Err Input) h = h
      by_result (Err Endless) h = h
      by_result (Err NoMemory) h = h

-- with any other fault nothing was written
pub not_served : (Holds : Reply → Bytes → Type 0) (Else : Type 0) (seen seen' : Heard) (out out' : Option Bytes)
    (fault : IoFault) → fault ≢ Output → Else → Keeps out out'
    → IsServedBy Holds Else seen seen' out out' (Err fault)
not_served Holds Else seen seen' out out' Output other stays keeps = absurd (other refl)
not_served Holds Else seen seen' out out' Input other stays keeps = (stays, keeps)
not_served Holds Else seen seen' out out' Endless other stays keeps = (stays, keeps)
not_served Holds Else seen seen' out out' NoMemory other stays keeps = (stays, keeps)

-- a reply with repeats is one
pub without_repeats : (day : DayValue) (seen seen' : Heard) (out out' : Option Bytes) (s end : State)
    (answer : Result Served IoFault) → IsServedWithRepeats day seen seen' out out' s answer end
    → IsServed day seen seen' out out' s answer end
without_repeats day seen seen' out out' s end answer served =
    served_each (end ≡ s) seen seen' out out' answer (RepliesWithRepeats day s end) (Replies day s end)
    (λ reply bytes (told, (requests, (replies, repeats))). (told, (requests, replies))) served

-- whose commit it was that failed
by_told : (day : DayValue) (end : State) (conn : sqlite.State) (seen seen' : Heard) (reply : Reply)
    (bytes : Bytes) → Hands seen seen' bytes → IsCutOffBy day end conn reply bytes → HasCleanDisk conn
    → (command : Command) × (IsAskedBy day seen seen' command × LeavesEither conn end command)
unfolding LeavesAsked
by_told day end conn seen seen' reply bytes hands (Err fault, (requests, cut)) clean = absurd cut
by_told day end conn seen seen' reply bytes hands (Ok r, (requests, cut)) clean =
    let (command, (asks, leaves)) = cut.leaves clean in (
      command,
      (record { bytes = bytes; hands = hands; request = r; requests = requests; asks = asks }, leaves),
    )

pub cut_off_by : (day : DayValue) (end : State) (conn : sqlite.State) (seen seen' : Heard) (out out' : Option Bytes)
    (answer : Result Served IoFault) → IsServedBy (IsCutOffBy day end conn) ⊥ seen seen' out out' answer
    → HasCleanDisk conn → (command : Command) × (IsAskedBy day seen seen' command × LeavesEither conn end command)
cut_off_by day end conn seen seen' out out' (Ok served) h clean =
    by_told day end conn seen seen' h.reply h.read.bytes h.read.hands h.read.told clean
cut_off_by day end conn seen seen' out out' (Err Output) h clean =
    by_told day end conn seen seen' h.reply h.read.bytes h.read.hands h.read.told clean
cut_off_by day end conn seen seen' out out' (Err Input) h clean = absurd h.0
cut_off_by day end conn seen seen' out out' (Err Endless) h clean = absurd h.0
cut_off_by day end conn seen seen' out out' (Err NoMemory) h clean = absurd h.0

-- ---- known bytes

-- what is seen of a reader that tells these bytes
abbrev telling : Bytes → Bytes → Heard
telling left handed = record { left = Some left; handed = handed }

of_known : (day : DayValue) (input rest handed handed' : Bytes) (s end : State) (Writes Follows : Reply → Type 0)
    → ((reply : Reply) → Writes reply → Follows reply)
    → Exchanges (telling input handed) (telling rest handed') (Replies day s end) Writes
    → RepliesToBytes day input rest s end Follows
of_known day input rest handed handed' s end Writes Follows follows h = record {
  reply = h.reply;
  front = h.read.bytes;
  input_is = h.read.hands.front;
  to_front = h.read.told;
  to_input = h.read.whole;
  written = follows h.reply h.written;
}

-- with no premise on what is known
pub of_bytes : (day : DayValue) (input rest handed handed' out out' : Bytes) (s end : State)
    (answer : Result Served IoFault)
    → IsServed day (telling input handed) (telling rest handed') (Some out) (Some out') s answer end
    → IsServedOfBytes day input rest out out' s answer end
of_bytes day input rest handed handed' out out' s end (Ok served) h =
    of_known day input rest handed handed' s end _ _ (λ reply w. w) h
of_bytes day input rest handed handed' out out' s end (Err Output) h =
    of_known day input rest handed handed' s end _ _ (λ reply w. w) h
of_bytes day input rest handed handed' out out' s end (Err Input) h = h
of_bytes day input rest handed handed' out out' s end (Err Endless) h = h
of_bytes day input rest handed handed' out out' s end (Err NoMemory) h = h
