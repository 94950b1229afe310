-- What bytes are read as that are to be a text.
use Rattle.std.proofs.Common.{◌≡◌, Bool, None, Some, Option, true, false, cond, refl, subst}
use Rattle.std.specs.Str.{IsUtf8, is_utf8}
use Rattle.std.proofs.lemmas.Str.{IsUtf8-from_is_utf8, is_utf8-from_IsUtf8}
use Rattle.vet_base.specs.Words.{Bytes, Text}
use Rattle.vet_item_rows.specs.PackedItems.{as_text}

pub text_is_read : {X : Type 0} (read : Text → Option X) (bytes : Bytes) → IsUtf8 bytes
    → as_text read bytes ≡ read bytes
text_is_read read bytes u = rw (is_utf8-from_IsUtf8 bytes u) refl

pub no_text : {X : Type 0} (read : Text → Option X) (bytes : Bytes) → (IsUtf8 bytes → ⊥) → as_text read bytes ≡ None
no_text read bytes h =
    elim (is_utf8 bytes) as (λ t. is_utf8 bytes ≡ t → cond t (read bytes) None ≡ None) [
      | true ↦ λ e. absurd (h (IsUtf8-from_is_utf8 bytes e))
      | false ↦ λ e. refl
    ] refl

-- a text that passes a test, of the bytes of a text, is what these bytes are read as
pub read_as_itself : (test : Text → Bool) (text bytes : Text) → IsUtf8 bytes → bytes ≡ text → test text ≡ true
    → as_text (λ t. cond (test t) (Some t) None) text ≡ Some text
read_as_itself test text bytes u e h =
    rw (text_is_read (λ t. cond (test t) (Some t) None) text (subst IsUtf8 e u), h) refl
