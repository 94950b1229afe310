-- From what a run ensures of what was asked to what its words ask for.
use Rattle.std.proofs.Common.{◌≡◌, ◌≢◌, ◌⊎◌, inl, inr, ℕ, List, Option, Some, None, Result, Ok, Err, IfOk, IfErr, refl}
use Rattle.std.proofs.Common.{sym, subst, ◌∙◌}
use Rattle.clap.specs.Words.{kind_of}
use Rattle.clap.specs.declared.error.Error.{Error}
use Rattle.clap.specs.declared.error.kind.ErrorKind.{ErrorKind}
use Rattle.clap.specs.declared.error.kind.ErrorKind.TheVariants.{OutOfMemory}
use Rattle.vetd_words.specs.Answer.{Answers, Says, Stops, Telling}
use Rattle.vetd_words.specs.Asked.{line_told, telling_of}
use Rattle.vetd_words.specs.declared.asked.FileQuery.{FileQuery}
use Rattle.vet_requests.specs.Input.{Heard}
use Rattle.vet_requests.specs.declared.io_fault.IoFault.{IoFault}
use Rattle.vet_requests.specs.declared.io_fault.IoFault.TheVariants.{Input, Output, Endless, NoMemory}

-- where clap told an error of words that mean something, memory was wanting
pub is_for_want : (Nothing : Type 0) (kind : ErrorKind) (r : Result ℕ IoFault) → (kind ≢ OutOfMemory → Nothing)
    → (kind ≡ OutOfMemory → r ≡ Err NoMemory) → (Nothing → ⊥) → r ≡ Err NoMemory
is_for_want Nothing kind (Ok status) none memory other =
    absurd (other (none (λ want. let two : Ok status ≡ Err NoMemory = memory want in cc)))
is_for_want Nothing kind (Err Input) none memory other =
    absurd (other (none (λ want. let two : Err Input ≡ Err NoMemory = memory want in cc)))
is_for_want Nothing kind (Err Output) none memory other =
    absurd (other (none (λ want. let two : Err Output ≡ Err NoMemory = memory want in cc)))
is_for_want Nothing kind (Err Endless) none memory other =
    absurd (other (none (λ want. let two : Err Endless ≡ Err NoMemory = memory want in cc)))
is_for_want Nothing kind (Err NoMemory) none memory other = refl

module _ (meant : Option Telling) where
  -- what was asked is what is meant, unless memory ran out
  same_asked : (asked : Result FileQuery Error) (r : Result ℕ IoFault) → IfOk asked (λ a. meant ≡ Some (line_told a))
      → IfErr asked (λ error. kind_of error ≢ OutOfMemory → meant ≡ None)
      → IfErr asked (λ error. kind_of error ≡ OutOfMemory → r ≡ Err NoMemory)
      → r ≢ Err NoMemory → telling_of asked ≡ meant
  same_asked (Ok a) r found refused memory other = sym found
  same_asked (Err error) r found refused memory other = sym (refused (λ want. other (memory want)))

  pub says_meant : (before after : Heard) (asked : Result FileQuery Error) (r : Result ℕ IoFault)
      (out out' errors errors' : Option (List ℕ))
      → IfOk asked (λ a. meant ≡ Some (line_told a))
      → IfErr asked (λ error. kind_of error ≢ OutOfMemory → meant ≡ None)
      → IfErr asked (λ error. kind_of error ≡ OutOfMemory → r ≡ Err NoMemory)
      → IfOk r (λ status. Answers before after (telling_of asked)
      (λ answer. Says answer status out out' errors errors'))
      → IfOk r (λ status. Answers before after meant (λ answer. Says answer status out out' errors errors'))
  says_meant before after asked (Err fault) out out' errors errors' found refused memory says = tt
  says_meant before after asked (Ok status) out out' errors errors' found refused memory says =
      subst (λ (m : Option Telling). Answers before after m (λ answer. Says answer status out out' errors errors'))
      (same_asked asked (Ok status) found refused memory (λ bad. cc)) says

  pub stops_meant : (before after : Heard) (asked : Result FileQuery Error) (r : Result ℕ IoFault)
      (out out' errors errors' : Option (List ℕ))
      → IfOk asked (λ a. meant ≡ Some (line_told a))
      → IfErr asked (λ error. kind_of error ≢ OutOfMemory → meant ≡ None)
      → IfErr asked (λ error. kind_of error ≡ OutOfMemory → r ≡ Err NoMemory)
      → IfErr r (λ fault. fault ≡ Output
      → Answers before after (telling_of asked) (λ answer. Stops answer out out' errors errors'))
      → IfErr r (λ fault. fault ≡ Output → Answers before after meant (λ answer. Stops answer out out' errors errors'))
  stops_meant before after asked (Ok status) out out' errors errors' found refused memory stops = tt
  stops_meant before after asked (Err fault) out out' errors errors' found refused memory stops = λ output.
      subst (λ (m : Option Telling). Answers before after m (λ answer. Stops answer out out' errors errors'))
      (same_asked asked (Err fault) found refused memory (λ bad. let two : Output ≡ NoMemory = cc in cc))
      (stops output)

  -- what holds where clap told an error holds where nothing is meant
  pub of_nothing : (P : Type 0) (asked : Result FileQuery Error) → IfOk asked (λ a. meant ≡ Some (line_told a))
      → meant ≡ None → IfErr asked (λ _. P) → P
  of_nothing P (Ok a) found none holds = let two : Some (line_told a) ≡ None = sym found ∙ none in cc
  of_nothing P (Err error) found none holds = holds

  -- with no read left, what is meant is not answered
  pub spent_meant : (asked : Result FileQuery Error) (r : Result ℕ IoFault)
      → IfErr asked (λ error. kind_of error ≢ OutOfMemory → meant ≡ None)
      → IfErr asked (λ error. kind_of error ≡ OutOfMemory → r ≡ Err NoMemory) → IfOk asked (λ _. r ≡ Err Endless)
      → meant ≢ None
      → (r ≡ Err Endless) ⊎ (r ≡ Err NoMemory)
  spent_meant (Ok a) r refused memory spent other = inl spent
  spent_meant (Err error) r refused memory spent other = inr (is_for_want _ (kind_of error) r refused memory other)
