-- Connections whose bytes are known: slices that are read, and vectors that are written (ours).
use Rattle.std.specs.Prelude.{◌≡◌, ℕ, ◌<◌, ◌++◌, Ok, Err, Result, length, take}
use Rattle.vet_base.specs.Day.{DayValue}
use Rattle.vet_base.specs.Words.{Bytes}
use Rattle.vet_http.specs.Serve.{Replies}
use Rattle.vet_http.specs.declared.serve.Connection.{Connection}
use Rattle.vet_http.specs.declared.serve.Served.{Served}
use Rattle.vet_register.specs.State.{State}
use Rattle.vet_requests.specs.declared.io_fault.IoFault.{IoFault}
use Rattle.vet_requests.specs.declared.io_fault.IoFault.TheVariants.{Output}
use Rattle.vet_requests.specs.declared.reply.Reply.{Reply}

-- A prefix of an input was read, and its rest is left. The reply is the one to this prefix, and also to all of the
-- input. Writes is true of the reply.
pub record RepliesToBytes (day : DayValue) (input rest : Bytes) (s end : State) (Writes : Reply → Type 0) : Type 0 where
  pub reply : Reply
  pub front : Bytes
  pub input_is : input ≡ front ++ rest
  pub to_front : Replies day s end reply front
  pub to_input : Replies day s end reply input
  pub written : Writes reply

-- the result: the whole reply was written after the earlier output, or only a prefix of it, or nothing was written and
-- the state stays
abbrev pub IsServedOfBytes : DayValue → Bytes → Bytes → Bytes → Bytes → State → Result Served IoFault → State → Type 0
IsServedOfBytes day input rest out out' s (Ok served) end =
    RepliesToBytes day input rest s end (λ reply. (served.status ≡ reply.status) × (out' ≡ out ++ reply.bytes))
IsServedOfBytes day input rest out out' s (Err Output) end =
    RepliesToBytes day input rest s end
    (λ reply. (n : ℕ) × ((n < length reply.bytes) × (out' ≡ out ++ take n reply.bytes)))
IsServedOfBytes day input rest out out' s (Err fault) end = (end ≡ s) × (out' ≡ out)

-- the same, for a connection as it was and as it was left
abbrev pub IsTurnOfBytes : {R W : Type 0} → (R → Bytes) → (W → Bytes)
    → State → Connection R W → Connection R W → Result Served IoFault → State → Type 0
IsTurnOfBytes unread written s was left answer end =
    IsServedOfBytes was.day (unread was.reader.source) (unread left.reader.source)
    (written was.writer) (written left.writer) s answer end
