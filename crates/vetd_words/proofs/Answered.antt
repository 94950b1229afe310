-- What is told, and what is written of it.
use Rattle.std.proofs.Common.{◌≡◌, ◌≢◌, ℕ, List, Option, Result, Ok, Err, IfOk, IfErr}
use Rattle.std.proofs.KnownBytes.{Keeps-refl}
use Rattle.std.specs.Io.KnownBytes.{Keeps}
use Rattle.clap.specs.declared.error.kind.ErrorKind.{ErrorKind}
use Rattle.clap.specs.declared.error.kind.ErrorKind.TheVariants.{OutOfMemory}
use Rattle.vetd_words.specs.Answer.{Answer, Explains, IsExplained, IsExplainedInPart, IsWritten, Says, Stops}
use Rattle.vetd_words.specs.declared.answer.TheConstants.{EXPLAINED}
use Rattle.vet_requests.specs.declared.io_fault.IoFault.{IoFault}
use Rattle.vet_requests.specs.declared.io_fault.IoFault.TheVariants.{Output}

module _ (Answers : (Answer → Type 0) → Type 0) (Untold : Type 0) where
  pub was_untold : (r : Result ℕ IoFault) → Untold → IfErr r (λ fault. fault ≢ Output → Untold)
  was_untold (Ok status) untold = tt
  was_untold (Err fault) untold = λ other. untold

  -- of its parts, where what is left is so whatever was told
  pub is_written : (r : Result ℕ IoFault) (out out' errors errors' : Option (List ℕ))
      → IfOk r (λ status. Answers (λ a. Says a status out out' errors errors'))
      → IfErr r (λ fault. fault ≡ Output → Answers (λ a. Stops a out out' errors errors'))
      → IfErr r (λ fault. fault ≢ Output → Keeps out out' × Keeps errors errors')
      → Untold → IsWritten Answers Untold r out out' errors errors'
  is_written r out out' errors errors' says part silent untold =
      record { says = says; part = part; silent = silent; untold = was_untold r untold }

  module _ (answer : Answer) (answers : (Holds : Answer → Type 0) → Holds answer → Answers Holds) where
    is_said : (r : Result ℕ IoFault) (out out' errors errors' : Option (List ℕ))
        → IfOk r (λ status. Says answer status out out' errors errors')
        → IfOk r (λ status. Answers (λ a. Says a status out out' errors errors'))
    is_said (Err fault) out out' errors errors' says = tt
    is_said (Ok status) out out' errors errors' says = answers (λ a. Says a status out out' errors errors') says

    is_stopped : (r : Result ℕ IoFault) (out out' errors errors' : Option (List ℕ))
        → IfErr r (λ fault. fault ≡ Output → Stops answer out out' errors errors')
        → IfErr r (λ fault. fault ≡ Output → Answers (λ a. Stops a out out' errors errors'))
    is_stopped (Ok status) out out' errors errors' stops = tt
    is_stopped (Err fault) out out' errors errors' stops = λ output.
        answers (λ a. Stops a out out' errors errors') (stops output)

    -- what was written is the answer that was told
    pub told_written : (r : Result ℕ IoFault) (out out' errors errors' : Option (List ℕ))
        → IfOk r (λ status. Says answer status out out' errors errors')
        → IfErr r (λ fault. fault ≡ Output → Stops answer out out' errors errors')
        → IfErr r (λ fault. fault ≢ Output → Keeps out out' × Keeps errors errors')
        → IfErr r (λ fault. fault ≢ Output → Untold)
        → IsWritten Answers Untold r out out' errors errors'
    told_written r out out' errors errors' says stops silent untold = record {
      says = is_said r out out' errors errors' says;
      part = is_stopped r out out' errors errors' stops;
      silent = silent;
      untold = untold;
    }

  module _ (kind : ErrorKind)
      (answers : kind ≢ OutOfMemory → (Holds : Answer → Type 0) → Holds Explains → Answers Holds) where
    is_explained : (r : Result ℕ IoFault) (out out' errors errors' : Option (List ℕ))
        → IfOk r (λ status. (status ≡ EXPLAINED) × (kind ≢ OutOfMemory) × IsExplained out out' errors errors')
        → IfOk r (λ status. Answers (λ a. Says a status out out' errors errors'))
    is_explained (Err fault) out out' errors errors' says = tt
    is_explained (Ok status) out out' errors errors' says =
        answers says.1 (λ a. Says a status out out' errors errors') (says.0, says.2)

    is_explained_in_part : (r : Result ℕ IoFault) (out out' errors errors' : Option (List ℕ))
        → IfErr r (λ fault. fault ≡ Output → (kind ≢ OutOfMemory) × IsExplainedInPart out out' errors errors')
        → IfErr r (λ fault. fault ≡ Output → Answers (λ a. Stops a out out' errors errors'))
    is_explained_in_part (Ok status) out out' errors errors' stops = tt
    is_explained_in_part (Err fault) out out' errors errors' stops = λ output.
        answers (stops output).0 (λ a. Stops a out out' errors errors') (stops output).1

    -- what was written explains the words
    pub explained_written : (r : Result ℕ IoFault) (out out' errors errors' : Option (List ℕ))
        → IfOk r (λ status. (status ≡ EXPLAINED) × (kind ≢ OutOfMemory) × IsExplained out out' errors errors')
        → IfErr r (λ fault. fault ≡ Output → (kind ≢ OutOfMemory) × IsExplainedInPart out out' errors errors')
        → IfErr r (λ fault. fault ≢ Output → Keeps out out' × Keeps errors errors')
        → Untold → IsWritten Answers Untold r out out' errors errors'
    explained_written r out out' errors errors' says stops silent untold =
        is_written r out out' errors errors' (is_explained r out out' errors errors' says)
        (is_explained_in_part r out out' errors errors' stops) silent untold

  -- with a fault of the input nothing was written
  pub failed_written : (fault : IoFault) (out errors : Option (List ℕ)) → fault ≢ Output → Untold
      → IsWritten Answers Untold (Err fault) out out errors errors
  failed_written fault out errors other untold = record {
    says = tt;
    part = λ output. absurd (other output);
    silent = λ _. (Keeps-refl out, Keeps-refl errors);
    untold = λ _. untold;
  }

-- what was written is the same answer, told of more
module _ (Answers Others : (Answer → Type 0) → Type 0) (Untold Unsaid : Type 0)
    (answers : (Holds : Answer → Type 0) → Answers Holds → Others Holds) (untold : Untold → Unsaid) where
  says_as : (r : Result ℕ IoFault) (out out' errors errors' : Option (List ℕ))
      → IfOk r (λ status. Answers (λ a. Says a status out out' errors errors'))
      → IfOk r (λ status. Others (λ a. Says a status out out' errors errors'))
  says_as (Err fault) out out' errors errors' says = tt
  says_as (Ok status) out out' errors errors' says = answers (λ a. Says a status out out' errors errors') says

  stops_as : (r : Result ℕ IoFault) (out out' errors errors' : Option (List ℕ))
      → IfErr r (λ fault. fault ≡ Output → Answers (λ a. Stops a out out' errors errors'))
      → IfErr r (λ fault. fault ≡ Output → Others (λ a. Stops a out out' errors errors'))
  stops_as (Ok status) out out' errors errors' stops = tt
  stops_as (Err fault) out out' errors errors' stops = λ output.
      answers (λ a. Stops a out out' errors errors') (stops output)

  untold_as : (r : Result ℕ IoFault) → IfErr r (λ fault. fault ≢ Output → Untold)
      → IfErr r (λ fault. fault ≢ Output → Unsaid)
  untold_as (Ok status) told = tt
  untold_as (Err fault) told = λ other. untold (told other)

  pub written_as : (r : Result ℕ IoFault) (out out' errors errors' : Option (List ℕ))
      → IsWritten Answers Untold r out out' errors errors' → IsWritten Others Unsaid r out out' errors errors'
  written_as r out out' errors errors' written = record {
    says = says_as r out out' errors errors' written.says;
    part = stops_as r out out' errors errors' written.part;
    silent = written.silent;
    untold = untold_as r written.untold;
  }
