-- Each is told in the room.
use Rattle.std.proofs.Common.{◌∙◌, ap}
use Rattle.vet_http.specs.Told.{outcome_reply}
use Rattle.vet_http.proofs.AnswerLemmas.{tells_outcome, tells_refusal, tells_reply}
use Rattle.vet_http.proofs.answer.tell.Goals as goal

pub returns-in-Ok-Reply : goal.returns-in-Ok-Reply
returns-in-Ok-Reply c =
    tells_reply c.args.answered c.in-Ok-Reply.field-0 c.in-Ok-Reply.reply _ c.in-Ok-Reply.is c.in-Ok-Reply.field-0-is
    c.in-Ok-Reply.reply-is

pub returns-in-Ok-Outcome : goal.returns-in-Ok-Outcome
returns-in-Ok-Outcome c =
    tells_outcome c.args.answered c.in-Ok-Outcome.field-0 c.in-Ok-Outcome.outcome c.of_outcome.result
    c.in-Ok-Outcome.is c.in-Ok-Outcome.field-0-is
    (c.of_outcome.ensures ∙ ap outcome_reply c.in-Ok-Outcome.outcome-is)

pub returns-in-Err : goal.returns-in-Err
returns-in-Err c =
    tells_refusal c.args.answered c.in-Err.refusal c.of_refusal.result c.in-Err.is c.of_refusal.ensures
