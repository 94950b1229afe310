-- From what the steps of showing something of a register ensure to the answer to the words.
use Rattle.std.proofs.Common.{◌≡◌, ◌≢◌, ℕ, List, Option, Some, None, Result, Ok, Err, IfOk, IfErr, refl, sym, subst}
use Rattle.sqlite.specs.Held.{Held}
use Rattle.sqlite_trees.specs.declared.store.Store.{Ghosts}
use Rattle.vet_base.specs.declared.refusal.Refusal.{Refusal}
use Rattle.vet_requests.specs.declared.io_fault.IoFault.{IoFault}
use Rattle.vet_requests.specs.declared.io_fault.IoFault.TheVariants.{Output}
use Rattle.vetd_commands.specs.Making.{Giving}
use Rattle.vetd_commands.specs.Viewing.{AnswersView, IsAnswerToView, IsNotShown, IsShown, IsUntold, IsViewFor}
use Rattle.vetd_words.specs.Answer.{Answer, Explains, Refuses, answer_for}
use Rattle.vetd_words.specs.ViewWords.{ViewAsked}

module _ {S : Type 0} (g : Ghosts S) (Gives : Giving S) {T : Type 0} (text : T → List ℕ) where
  -- where a path gave a connection, the answer is what was shown over it
  pub view_answer : (asked : ViewAsked) (told : Result T Refusal) (before after : Held S) → Gives asked.path (Ok before)
      → IfOk told (λ t. IsShown g before asked.view (text t) after)
      → IfErr told (λ refusal. IsNotShown g before refusal after)
      → IsViewFor g Gives asked (answer_for text told) (Some after)
  view_answer asked (Ok line) before after gives shown none = (before, (gives, (after, (refl, shown))))
  view_answer asked (Err refusal) before after gives shown none = (before, (gives, none))

  module _ (meant : Option ViewAsked) (asked : ViewAsked) (given : meant ≡ Some asked) where
    -- the answer to what is asked is that to what the words mean
    pub view_of_words : (told : Result T Refusal) (left : Option (Held S))
        → IsViewFor g Gives asked (answer_for text told) left
        → (Holds : Answer → Type 0) → Holds (answer_for text told)
        → AnswersView g Gives meant left Holds
    view_of_words told left is = λ Holds holds. (
      answer_for text told,
      (
        subst (λ (m : Option ViewAsked). IsAnswerToView g Gives m (answer_for text told) left) (sym given) is,
        holds,
      ),
    )

    -- a text that was told meets no fault but that of a write
    pub view_untold : (told : Result T Refusal) (left : Option (Held S)) (r : Result ℕ IoFault)
        → IsViewFor g Gives asked (answer_for text told) left
        → IfOk told (λ _. IfErr r (λ fault. fault ≡ Output))
        → IfErr r (λ fault. fault ≢ Output → IsUntold g Gives meant left)
    view_untold told left (Ok status) is printed = tt
    view_untold (Ok line) left (Err fault) is printed = λ other. absurd (other printed)
    view_untold (Err refusal) None (Err fault) is printed = λ other. tt
    view_untold (Err refusal) (Some after) (Err fault) is printed = λ other. (
      refusal,
      subst (λ (m : Option ViewAsked). IsAnswerToView g Gives m (Refuses refusal) (Some after)) (sym given) is,
    )

module _ {S : Type 0} (g : Ghosts S) (Gives : Giving S) where
  -- words that ask for nothing are explained
  pub view_explained : (meant : Option ViewAsked) → meant ≡ None → (Holds : Answer → Type 0) → Holds Explains
      → AnswersView g Gives meant None Holds
  view_explained meant none Holds holds =
      (Explains, (subst (λ (m : Option ViewAsked). IsAnswerToView g Gives m Explains None) (sym none) refl, holds))
