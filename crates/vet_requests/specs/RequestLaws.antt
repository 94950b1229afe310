-- Laws about the answer to a connection's bytes (ours).
use Rattle.std.specs.Prelude.{◌≡◌, ◌<◌, ◌⊎◌, length}
use Rattle.httparse.specs.Grammar.{EndsInTarget, NeverHasRequest}
use Rattle.vet_base.specs.Words.{Bytes}
use Rattle.vet_requests.specs.Head.{front}
use Rattle.vet_requests.specs.Request.{RequestValue, Requests}
use Rattle.vet_requests.specs.RequestFault.{ToldOf}
use Rattle.vet_requests.specs.declared.request_limits.TheConstants.{MOST_HEAD_BYTES}

-- the input goes on after its first bytes, which end within a target and with which no head can begin
abbrev pub IsCutTarget : Bytes → Type 0
IsCutTarget input = (MOST_HEAD_BYTES < length input) × (NeverHasRequest (front input) × EndsInTarget (front input))

-- there is one answer, unless the target is cut in this way
abbrev pub IsToldOnce : Type 0
IsToldOnce = (input : Bytes) (one other : ToldOf RequestValue)
    → Requests input one → Requests input other → (one ≡ other) ⊎ IsCutTarget input
