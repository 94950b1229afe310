-- From what is held and what is written of it to the file.
use Rattle.std.proofs.Common.{◌≡◌, ◌∙◌, ap, subst, sym, Result, Ok, Err, IfOk, Some}
use Rattle.toml.specs.Data.{Members}
use Rattle.toml.specs.Parse.{parse_document}
use Rattle.vet_base.specs.Words.{Text}
use Rattle.vet_base.specs.declared.refusal.Refusal.{Refusal}
use Rattle.vet_documents.specs.RegisterFile.{IsFileOf, IsReadAgain, file_table}
use Rattle.vet_documents.specs.declared.register_file.RegisterFile.{RegisterFile}
use Rattle.vet_register.specs.State.{State}

module _ {C T : Type 0} (file : RegisterFile) (s : State) (held : C) (table_of : C → Members) (Is : C → Type 0)
    (Back : C → Text → Type 0) (text : T → Text) where
  -- what is written of a content that is the one held is its file
  pub file_of_held : file_table file s ≡ table_of held → ((t : Text) → Back held t → IsReadAgain file s t)
      → (content : C) (r : Result T Refusal) → content ≡ held → Is content
      → IfOk r (λ t. parse_document (text t) ≡ Some (table_of content))
      → IfOk r (λ t. Is content → Back content (text t)) → IfOk r (λ t. IsFileOf file s (text t))
  file_of_held tables backs content (Err refusal) is readable table read = tt
  file_of_held tables backs content (Ok t) is readable table read = record {
    table = table ∙ ap (λ (c : C). Some (table_of c)) is ∙ ap Some (sym tables);
    again = backs (text t) (subst (λ (c : C). Back c (text t)) is (read readable));
  }
