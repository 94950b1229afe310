-- How a connection ends (ours).
use Rattle.std.specs.Prelude.{Bool, false, true}
use Rattle.vet_requests.specs.declared.status.Status.{Status}
use Rattle.vet_requests.specs.declared.status.Status.TheVariants as status

-- the replies that may come before the client has sent everything that it announced: its head is malformed, its body is
-- too long, or it comes in chunks
abbrev pub awaits_rest : Status → Bool
awaits_rest status.BadRequest = true
awaits_rest status.ContentTooLarge = true
awaits_rest status.NotImplemented = true
awaits_rest _ = false
