-- The bytes of a short text, wherever they are stored (ours).
use Rattle.std.specs.Prelude.{ℕ, List, string_bytes}
use Rattle.vet_base.specs.declared.short_text.Storage.{Storage}
use Rattle.vet_base.specs.declared.short_text.Storage.TheVariants.{Inline, Allocated}

abbrev pub bytes_of : Storage → List ℕ
bytes_of (Inline text) = text.bytes
bytes_of (Allocated text) = string_bytes text
