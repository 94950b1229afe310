-- The body of a request (RFC 9112, section 6.3).
use Rattle.std.specs.Prelude.{ℕ, length, take, if◌then◌else◌, nat_lt, Ok, Err}
use Rattle.vet_base.specs.Words.{Bytes}
use Rattle.vet_requests.specs.RequestFault.{ToldOf}
use Rattle.vet_requests.specs.declared.request_fault.RequestFault.TheVariants.{BadRequest}

-- the body of a length, at the start of the bytes after a head; anything after the body is ignored
abbrev pub body_told : ℕ → Bytes → ToldOf Bytes
body_told n after = if nat_lt (length after) n then Err BadRequest else Ok (take n after)
