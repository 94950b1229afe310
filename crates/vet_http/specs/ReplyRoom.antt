-- The room for the reply to a command (ours).
use Rattle.std.specs.Prelude.{◌≡◌, ◌+◌, ◌≤◌, [], string_bytes, string_capacity}
use Rattle.vet_http.specs.declared.told.ReplyRoom.{ReplyRoom}
use Rattle.vet_reports.specs.declared.outcome_text.TheConstants.{MOST_OUTCOME_BYTES}
use Rattle.vet_requests.specs.declared.reply.TheConstants.{MOST_REPLY_HEAD_BYTES}

-- a text for the longest line of an outcome, and one for the reply with it
pub record HasRoom (room : ReplyRoom) : Type 0 where
  pub line : string_bytes room.line ≡ []
  pub line_room : MOST_OUTCOME_BYTES ≤ string_capacity room.line
  pub text : string_bytes room.text ≡ []
  pub text_room : MOST_REPLY_HEAD_BYTES + MOST_OUTCOME_BYTES ≤ string_capacity room.text
