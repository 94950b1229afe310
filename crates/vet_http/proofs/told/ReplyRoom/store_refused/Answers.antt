-- The line of the refusal, worked out.
use Rattle.std.specs.Fmt.{digits}
use Rattle.vet_http.specs.Told.{refusal_reply}
use Rattle.vet_http.proofs.told.ReplyRoom.store_refused.Goals as goal

pub returns : goal.returns
unfolding digits refusal_reply
returns c = c.of_line.ensures
