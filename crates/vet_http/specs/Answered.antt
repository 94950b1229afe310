-- The answer to a request, before its reply is laid out (ours).
use Rattle.std.specs.Prelude.{◌≡◌, ◌⊎◌, Ok, Err}
use Rattle.vet_base.specs.Gives.{Told}
use Rattle.vet_base.specs.declared.refusal.Refusal.TheVariants.{NoMemory}
use Rattle.vet_http.specs.Told.{outcome_reply, refusal_reply}
use Rattle.vet_http.specs.declared.answer.Answered.{Answered}
use Rattle.vet_http.specs.declared.answer.Answered.TheVariants as answered
use Rattle.vet_requests.specs.declared.reply.Reply.{Reply}

-- the reply of an answer
abbrev pub reply_of : Answered → Reply
reply_of (answered.Reply reply) = reply
reply_of (answered.Outcome outcome) = outcome_reply outcome

-- the reply to an answer; for a refusal, it may be the reply that memory ran out
unfoldable pub Tells : Told Answered → Reply → Type 0
Tells (Ok answered) reply = reply ≡ reply_of answered
Tells (Err refusal) reply = (reply ≡ refusal_reply refusal) ⊎ (reply ≡ refusal_reply NoMemory)
