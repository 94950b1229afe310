-- The replies to a refusal and to the outcome of a command (ours).
use Rattle.std.specs.Prelude.{Ok, Err}
use Rattle.vet_base.specs.Gives.{Told}
use Rattle.vet_base.specs.declared.refusal.Refusal.{Refusal}
use Rattle.vet_register.specs.declared.command.Outcome.{Outcome}
use Rattle.vet_reports.specs.OutcomeText.{outcome_text}
use Rattle.vet_reports.specs.RefusalText.{refusal_line}
use Rattle.vet_requests.specs.Reply.{text_reply}
use Rattle.vet_requests.specs.Status.{refusal_status}
use Rattle.vet_requests.specs.declared.reply.Reply.{Reply}
use Rattle.vet_requests.specs.declared.status.Status.TheVariants as status

-- the reply to a refusal
unfoldable pub refusal_reply : Refusal → Reply
refusal_reply refusal = text_reply (refusal_status refusal) (refusal_line refusal)

-- the reply, or the one to the refusal in its place
abbrev pub reply_told : Told Reply → Reply
reply_told (Ok reply) = reply
reply_told (Err refusal) = refusal_reply refusal

-- the reply to a command that was not refused
unfoldable pub outcome_reply : Outcome → Reply
outcome_reply outcome = text_reply status.Ok (outcome_text outcome)

-- the reply to a command
abbrev pub command_reply : Told Outcome → Reply
command_reply (Ok outcome) = outcome_reply outcome
command_reply (Err refusal) = refusal_reply refusal
