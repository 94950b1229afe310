-- To which of the two writers an explanation of words goes.
use Rattle.std.proofs.Common.{◌≡◌, ◌≢◌, inl, inr, ℕ, [], ◌∷◌, List, Option, Result, Ok, Err, IfErr, IfOk, refl}
use Rattle.std.proofs.Common.{subst, sym}
use Rattle.std.specs.Io.KnownBytes.{Keeps}
use Rattle.clap.specs.Kinds.{IsAmong, Kinds}
use Rattle.clap.specs.Walk.{Text}
use Rattle.clap.specs.Words.{kind_of}
use Rattle.clap.specs.declared.error.Error.{Error}
use Rattle.clap.specs.declared.error.kind.ErrorKind.{ErrorKind}
use Rattle.clap.specs.declared.error.kind.ErrorKind.TheVariants.{DisplayHelp, DisplayVersion, OutOfMemory}
use Rattle.vet_base.specs.Words.{Bytes}
use Rattle.vet_requests.specs.declared.io_fault.IoFault.{IoFault}
use Rattle.vet_requests.specs.declared.io_fault.IoFault.TheVariants.{NoMemory, Output}
use Rattle.vetd_words.specs.Words.{AskForHelp, AskForNoHelp, IsErrorOf, IsOneOf, IsShown, faults_of}

-- an error of the program's own, of words that clap takes
pub own_error : (words : List Text) (kind : ErrorKind) → faults_of words ≡ [] → (IsShown kind → ⊥)
    → IsErrorOf words kind
own_error words kind clean unshown = inr (subst (λ (ks : Kinds). IsOneOf kind ks) (sym clean) unshown)

pub among_one : (kind : ErrorKind) (kinds : Kinds) → IsAmong kind kinds → IsOneOf kind kinds
among_one kind [] among = absurd among
among_one kind (first ∷ rest) among = among

shown_of : (kind : ErrorKind) (kinds : Kinds) → IsOneOf kind kinds → kinds ≢ []
    → ((k : ErrorKind) → IsAmong k kinds → IsShown k) → IsShown kind
shown_of kind [] is some all = absurd (some refl)
shown_of kind (first ∷ rest) is some all = all kind is

unshown_of : (kind : ErrorKind) (kinds : Kinds) → IsOneOf kind kinds
    → ((k : ErrorKind) → IsAmong k kinds → IsShown k → ⊥) → IsShown kind → ⊥
unshown_of kind [] is none shown = is shown
unshown_of kind (first ∷ rest) is none shown = none kind is shown

-- where memory ran out nothing was written
silent_keeps : (r : Result ℕ IoFault) (P : Type 0) → r ≡ Err NoMemory → IfErr r (λ fault. fault ≢ Output → P) → P
silent_keeps (Ok status) P is silent = let two : Ok status ≡ Err NoMemory = is in cc
silent_keeps (Err fault) P is silent = silent (λ output. let two : Err fault ≡ Err NoMemory = is in cc)

module _ (words : List Text) (kind : ErrorKind) (r : Result ℕ IoFault) (out out' errors errors' : Option Bytes)
    (is : IsErrorOf words kind) (silent : IfErr r (λ fault. fault ≢ Output → Keeps out out' × Keeps errors errors'))
    (memory : kind ≡ OutOfMemory → r ≡ Err NoMemory) where
  -- of words that ask for help nothing goes to the errors
  pub help_kept : (kind ≡ DisplayHelp → Keeps errors errors') → (kind ≡ DisplayVersion → Keeps errors errors')
      → AskForHelp words → Keeps errors errors'
  help_kept help version asks = elim is [
    | inl want ↦ (silent_keeps r (Keeps out out' × Keeps errors errors') (memory want) silent).1
    | inr one ↦ elim (shown_of kind (faults_of words) one asks.some asks.shown) [
      | inl is_help ↦ help is_help
      | inr is_version ↦ version is_version
    ]
  ]

  -- and of words that don't, nothing to the output
  pub wrong_kept : (kind ≢ DisplayHelp → kind ≢ DisplayVersion → Keeps out out') → AskForNoHelp words → Keeps out out'
  wrong_kept wrong none = elim is [
    | inl want ↦ (silent_keeps r (Keeps out out' × Keeps errors errors') (memory want) silent).0
    | inr one ↦
        let unshown = unshown_of kind (faults_of words) one none in
        wrong (λ is_help. unshown (inl is_help)) (λ is_version. unshown (inr is_version))
  ]

-- the same of what was asked, if anything was
pub asked_help : {A : Type 0} (words : List Text) (asked : Result A Error) (r : Result ℕ IoFault)
    (out out' errors errors' : Option Bytes)
    → IfOk asked (λ _. faults_of words ≡ []) → IfErr asked (λ error. IsErrorOf words (kind_of error))
    → IfErr r (λ fault. fault ≢ Output → Keeps out out' × Keeps errors errors')
    → IfErr asked (λ error. kind_of error ≡ OutOfMemory → r ≡ Err NoMemory)
    → IfErr asked (λ error. kind_of error ≡ DisplayHelp → Keeps errors errors')
    → IfErr asked (λ error. kind_of error ≡ DisplayVersion → Keeps errors errors')
    → AskForHelp words → Keeps errors errors'
asked_help words (Ok a) r out out' errors errors' clean kinds silent memory help version asks =
    absurd (asks.some clean)
asked_help words (Err error) r out out' errors errors' clean kinds silent memory help version asks =
    help_kept words (kind_of error) r out out' errors errors' kinds silent memory help version asks

pub asked_wrong : {A : Type 0} (words : List Text) (asked : Result A Error) (r : Result ℕ IoFault)
    (out out' errors errors' : Option Bytes) → IfErr asked (λ error. IsErrorOf words (kind_of error))
    → IfErr r (λ fault. fault ≢ Output → Keeps out out' × Keeps errors errors')
    → IfErr asked (λ error. kind_of error ≡ OutOfMemory → r ≡ Err NoMemory)
    → IfErr asked (λ error. kind_of error ≢ DisplayHelp → kind_of error ≢ DisplayVersion → Keeps out out')
    → AskForNoHelp words → IfErr asked (λ _. Keeps out out')
asked_wrong words (Ok a) r out out' errors errors' kinds silent memory wrong none = tt
asked_wrong words (Err error) r out out' errors errors' kinds silent memory wrong none =
    wrong_kept words (kind_of error) r out out' errors errors' kinds silent memory wrong none
