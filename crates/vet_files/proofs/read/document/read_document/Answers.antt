use Rattle.std.proofs.Common.{◌≡◌, ℕ, List, IsUtf8, None, Err, inl, inr, refl}
use Rattle.std.proofs.lemmas.Bool.{cases_Bool, false≢true}
use Rattle.std.proofs.lemmas.Str.{IsUtf8-from_is_utf8, is_utf8-from_IsUtf8}
use Rattle.std.specs.Str.{is_utf8}
use Rattle.toml.specs.Parse.{parse_document}
use Rattle.vet_base.specs.declared.refusal.Refusal.TheVariants.{TomlRefused}
use Rattle.vet_files.specs.Audits.{document_told}
use Rattle.vet_files.proofs.read.document.read_document.Goals as goal

pub returns-in-Ok : goal.returns-in-Ok
returns-in-Ok c =
    let ok = c.in-Ok.ensures.ok in
    let utf8 = is_utf8-from_IsUtf8 c.args.bytes.now ok.0 in
    rw (utf8, ok.1) refl

refused : (bytes : List ℕ) → (IsUtf8 bytes → parse_document bytes ≡ None) → document_told bytes ≡ Err TomlRefused
refused bytes none = elim (cases_Bool (is_utf8 bytes)) [
  | inl text ↦ rw (text, none (IsUtf8-from_is_utf8 bytes text)) refl
  | inr other ↦ rw other refl
]

pub returns-else-is_memory : goal.returns-else-is_memory
returns-else-is_memory c =
    inr (refused c.args.bytes.now (c.in-Err.ensures.refused (λ memory. false≢true (c.if-is_memory.ensures.1 memory))))
