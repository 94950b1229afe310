use Rattle.std.proofs.Common.{◌≡◌, IsUtf8, Err, inl, inr, refl}
use Rattle.std.proofs.lemmas.Bool.{cases_Bool}
use Rattle.std.proofs.lemmas.Str.{IsUtf8-from_is_utf8, is_utf8-from_IsUtf8}
use Rattle.std.specs.Str.{is_utf8}
use Rattle.vet_base.specs.Words.{Bytes}
use Rattle.vet_base.specs.declared.refusal.Refusal.TheVariants.{BadName}
use Rattle.vet_documents.specs.DeskDocument.{name_of_bytes}
use Rattle.vet_documents.proofs.desk_document.name_of_bytes.Goals as goal

pub returns-in-Ok : goal.returns-in-Ok
returns-in-Ok c = rw (is_utf8-from_IsUtf8 c.args.bytes.now c.in-Ok.ensures.cases.1, ← c.in-Ok.ensures.cases.0)
    c.parse.ensures.told

no_text : (bytes : Bytes) → (IsUtf8 bytes → ⊥) → name_of_bytes bytes ≡ Err BadName
no_text bytes none = elim (cases_Bool (is_utf8 bytes)) [
  | inl text ↦ absurd (none (IsUtf8-from_is_utf8 bytes text))
  | inr other ↦ rw other refl
]

pub returns-in-Err : goal.returns-in-Err
returns-in-Err c = inr (no_text c.args.bytes.now c.in-Err.ensures.cases.0)
