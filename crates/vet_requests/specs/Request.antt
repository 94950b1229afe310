-- A request to the register over HTTP (ours).
use Rattle.std.specs.Prelude.{Option, Ok, Err, length, drop}
use Rattle.httparse.specs.Grammar.{RequestHead, print_request}
use Rattle.vet_base.specs.Words.{Bytes}
use Rattle.vet_requests.specs.Body.{body_told}
use Rattle.vet_requests.specs.Fields.{AskedValue, head_told}
use Rattle.vet_requests.specs.Head.{HasHead, HasLongHead, HasNoHead}
use Rattle.vet_requests.specs.RequestFault.{ToldOf, ◌>>=◌}
use Rattle.vet_requests.specs.declared.request_fault.RequestFault.TheVariants.{BadRequest, TooLarge}

-- a request: a method, a target, a member if one is named, and a body, all as the bytes came
pub record RequestValue : Type 0 where
  pub method : Bytes
  pub target : Bytes
  pub member : Option Bytes
  pub body : Bytes

-- the request of a head, with this body
abbrev pub request_of : AskedValue → Bytes → RequestValue
request_of asked body =
    record { method = asked.method; target = asked.target; member = asked.member; body = body }

-- the request of a head, with the body that comes after it, or the fault of the body
abbrev pub rest_told : AskedValue → Bytes → ToldOf RequestValue
rest_told asked after = body_told asked.length after >>= λ body. Ok (request_of asked body)

-- the request of a head and what comes after it, or its first fault
abbrev pub request_told : RequestHead → Bytes → ToldOf RequestValue
request_told head after = head_told head >>= λ asked. rest_told asked after

-- the answer to a connection's bytes: the request that they begin with, or its first fault; there is one answer, except
-- if the first bytes are no head's and too long as well
pub data Requests (input : Bytes) : ToldOf RequestValue → Type 0 where
  of_head : (head : RequestHead) → HasHead input head
      → Requests input (request_told head (drop (length (print_request head)) input))
  no_head : HasNoHead input → Requests input (Err BadRequest)
  long_head : HasLongHead input → Requests input (Err TooLarge)
