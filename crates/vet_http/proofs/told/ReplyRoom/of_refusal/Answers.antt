use Rattle.std.proofs.Common.{◌∙◌, ap, inl, sym}
use Rattle.vet_http.specs.Told.{refusal_reply}
use Rattle.vet_http.proofs.told.ReplyRoom.of_refusal.Goals as goal

pub returns-in-StoreRefused : goal.returns-in-StoreRefused
returns-in-StoreRefused c = inl (c.store_refused.ensures ∙ ap refusal_reply (sym c.in-StoreRefused.is))
