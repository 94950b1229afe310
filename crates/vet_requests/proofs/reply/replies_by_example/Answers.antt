-- The replies, worked out.
use Rattle.std.proofs.Common.{refl}
use Rattle.std.specs.Fmt.{digits}
use Rattle.vet_requests.proofs.reply.replies_by_example.Goals as goal

pub returns : goal.returns
unfolding digits
returns c = record { done = refl; not_allowed = refl; not_implemented = refl }
