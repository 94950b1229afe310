-- From what the steps of a run ensure to the answer to what its words ask for and the input.
use Rattle.std.proofs.Common.{◌≡◌, ◌≢◌, ◌++◌, inl, inr, ℕ, ◌≤◌, ◌+◌, List, [], Option, Some, None, Result, Ok, Err}
use Rattle.std.proofs.Common.{IfOk}
use Rattle.std.proofs.Common.{IfErr, IfSome, length, refl, ap, sym, subst, ◌∙◌}
use Rattle.std.proofs.Common.{drop}
use Rattle.std.proofs.Math.Seq.{drop-append_seam}
use Rattle.std.proofs.lemmas.List.{take_all}
use Rattle.clap.specs.declared.error.kind.ErrorKind.{ErrorKind}
use Rattle.clap.specs.declared.error.kind.ErrorKind.TheVariants.{OutOfMemory}
use Rattle.vet_base.specs.Gives.{Gives, Told}
use Rattle.vet_base.specs.declared.limits.TheConstants.{MOST_INPUT_BYTES}
use Rattle.vet_base.specs.declared.refusal.Refusal.{Refusal}
use Rattle.vet_base.specs.declared.refusal.Refusal.TheVariants.{NoMemory}
use Rattle.vetd_words.specs.Answer.{Answer, Explains, Answers, IsInput, Says, Stops, Telling, answer_for, answer_of}
use Rattle.vetd_words.specs.Answer.{IsExplained, IsExplainedInPart, input_read}
use Rattle.vet_requests.specs.Input.{Hands, Heard}
use Rattle.vetd_words.specs.declared.answer.TheConstants.{EXPLAINED}
use Rattle.vet_requests.specs.declared.io_fault.IoFault.{IoFault}
use Rattle.vet_requests.specs.declared.io_fault.IoFault.TheVariants.{Output}

-- what holds anyway holds where something is asked for, and what holds of nothing where nothing is
if_asked : {A : Type 0} (P : Type 0) (asked : Option A) → P → IfSome asked (λ _. P)
if_asked P None holds = tt
if_asked P (Some a) holds = holds

unless_asked : {A : Type 0} (P : Type 0) (asked : Option A) → asked ≡ None → IfSome asked (λ _. P)
unless_asked P None none = tt
unless_asked P (Some a) none = absurd cc

by_left : (left : Option (List ℕ)) (file : List ℕ) → IfSome left (λ input. file ≡ input_read input)
    → length file ≤ MOST_INPUT_BYTES + 1
    → (input : List ℕ) × (IfSome left (λ bytes. input ≡ bytes) × (file ≡ input_read input))
by_left None file read bound = (file, (tt, sym (take_all (MOST_INPUT_BYTES + 1) file bound)))
by_left (Some bytes) file read bound = (bytes, (refl, read))

any_left : (left : Option (List ℕ)) → (input : List ℕ) × IfSome left (λ bytes. input ≡ bytes)
any_left None = ([], tt)
any_left (Some bytes) = (bytes, refl)

-- what stands behind the bytes from before is what was handed over
pub read_since : (before after : Heard) (bytes file : List ℕ) → Hands before after bytes
    → file ≡ drop (length before.handed) after.handed → file ≡ bytes
read_since before after bytes file hands is =
    is ∙ ap (drop (length before.handed)) hands.kept ∙ drop-append_seam before.handed bytes

-- what was read is what a run reads of some input, the reader's if it tells it
pub some_input : {A : Type 0} (before after : Heard) (asked : Option A) (file : List ℕ)
    → IfSome before.left (λ input. file ≡ input_read input) → after.handed ≡ before.handed ++ file
    → length file ≤ MOST_INPUT_BYTES + 1
    → (input : List ℕ) × (IsInput before after asked input × (file ≡ input_read input))
some_input before after asked file read kept bound =
    let at = by_left before.left file read bound in
    let input : List ℕ = at.0 in
    let handed : after.handed ≡ before.handed ++ input_read input =
    kept ∙ ap (λ (bytes : List ℕ). before.handed ++ bytes) at.1.1 in
    (input, (record { told = at.1.0; read = if_asked _ asked handed }, at.1.1))

-- where nothing is asked for, nothing need be read
pub any_input : {A : Type 0} (before after : Heard) (asked : Option A) → asked ≡ None
    → (input : List ℕ) × IsInput before after asked input
any_input before after asked none =
    let at = any_left before.left in
    (at.0, record { told = at.1; read = unless_asked _ asked none })

module _ {T : Type 0} (text : T → List ℕ) where
  -- an outcome is answered as what is told, unless it is that memory ran out
  same_answer : (told : Told (List ℕ)) (outcome : Result T Refusal) → Gives text told outcome → outcome ≢ Err NoMemory
      → answer_for text outcome ≡ answer_for (λ (t : List ℕ). t) told
  same_answer told (Ok line) same other = ap (answer_for (λ (t : List ℕ). t)) (sym same)
  same_answer told (Err refusal) (inl memory) other = absurd (other (ap Err memory))
  same_answer told (Err refusal) (inr same) other = ap (answer_for (λ (t : List ℕ). t)) (sym same)

  -- what holds of the outcome's answer holds of the answer to what the words ask for and the input
  answered : (P : Answer → Type 0) (before after : Heard) (file : List ℕ) (asked : Option Telling)
      (telling : Telling) (outcome : Result T Refusal)
      → IfSome before.left (λ input. file ≡ input_read input) → after.handed ≡ before.handed ++ file
      → length file ≤ MOST_INPUT_BYTES + 1 → asked ≡ Some telling
      → Gives text (telling file) outcome → outcome ≢ Err NoMemory → P (answer_for text outcome)
      → Answers before after asked P
  answered P before after file asked telling outcome read kept bound given gives other holds =
      let found = some_input before after asked file read kept bound in
      let input : List ℕ = found.0 in
      let same : answer_for text outcome ≡ answer_of asked input =
      same_answer _ outcome gives other
      ∙ ap (λ (bytes : List ℕ). answer_for (λ (t : List ℕ). t) (telling bytes)) found.1.1
      ∙ ap (λ (o : Option Telling). answer_of o input) (sym given) in
      (input, (found.1.0, subst P same holds))

  says_other : (outcome : Result T Refusal) (status : ℕ) (out out' errors errors' : Option (List ℕ))
      → Says (answer_for text outcome) status out out' errors errors' → outcome ≢ Err NoMemory
  says_other (Ok line) status out out' errors errors' says bad = cc
  says_other (Err refusal) status out out' errors errors' says bad = let memory : refusal ≡ NoMemory = cc in
      says.3 memory

  stops_other : (outcome : Result T Refusal) (out out' errors errors' : Option (List ℕ))
      → Stops (answer_for text outcome) out out' errors errors' → outcome ≢ Err NoMemory
  stops_other (Ok line) out out' errors errors' stops bad = cc
  stops_other (Err refusal) out out' errors errors' stops bad = let memory : refusal ≡ NoMemory = cc in stops.2 memory

  pub says_all : (before after : Heard) (file : List ℕ) (asked : Option Telling) (telling : Telling)
      (outcome : Result T Refusal) (r : Result ℕ IoFault)
      (out out' errors errors' : Option (List ℕ))
      → IfSome before.left (λ input. file ≡ input_read input) → after.handed ≡ before.handed ++ file
      → length file ≤ MOST_INPUT_BYTES + 1 → asked ≡ Some telling
      → Gives text (telling file) outcome
      → IfOk r (λ status. Says (answer_for text outcome) status out out' errors errors')
      → IfOk r (λ status. Answers before after asked (λ answer. Says answer status out out' errors errors'))
  says_all before after file asked telling outcome (Err fault) out out' errors errors' read kept bound given gives
      says = tt
  says_all before after file asked telling outcome (Ok status) out out' errors errors' read kept bound given gives
      says =
      answered (λ answer. Says answer status out out' errors errors') before after file asked telling outcome read
      kept bound given
      gives
      (says_other outcome status out out' errors errors' says) says

  pub stops_all : (before after : Heard) (file : List ℕ) (asked : Option Telling) (telling : Telling)
      (outcome : Result T Refusal) (r : Result ℕ IoFault)
      (out out' errors errors' : Option (List ℕ))
      → IfSome before.left (λ input. file ≡ input_read input) → after.handed ≡ before.handed ++ file
      → length file ≤ MOST_INPUT_BYTES + 1 → asked ≡ Some telling
      → Gives text (telling file) outcome
      → IfErr r (λ fault. fault ≡ Output → Stops (answer_for text outcome) out out' errors errors')
      → IfErr r (λ fault. fault ≡ Output → Answers before after asked (λ answer. Stops answer out out' errors errors'))
  stops_all before after file asked telling outcome (Ok status) out out' errors errors' read kept bound given gives
      stops = tt
  stops_all before after file asked telling outcome (Err fault) out out' errors errors' read kept bound given gives
      stops =
      λ output.
      answered (λ answer. Stops answer out out' errors errors') before after file asked telling outcome read kept
      bound given gives
      (stops_other outcome out out' errors errors' (stops output)) (stops output)

-- what holds of an explanation holds of the answer to words that ask for nothing, whatever the input
explained : (P : Answer → Type 0) (before after : Heard) (asked : Option Telling) → asked ≡ None → P Explains
    → Answers before after asked P
explained P before after asked none holds =
    let at = any_input before after asked none in
    let same : Explains ≡ answer_of asked at.0 = ap (λ (o : Option Telling). answer_of o at.0) (sym none) in
    (at.0, (at.1, subst P same holds))

pub explained_says : (before after : Heard) (asked : Option Telling) (kind : ErrorKind) (r : Result ℕ IoFault)
    (out out' errors errors' : Option (List ℕ))
    → (kind ≢ OutOfMemory → asked ≡ None)
    → IfOk r (λ status. (status ≡ EXPLAINED) × (kind ≢ OutOfMemory) × IsExplained out out' errors errors')
    → IfOk r (λ status. Answers before after asked (λ answer. Says answer status out out' errors errors'))
explained_says before after asked kind (Err fault) out out' errors errors' none says = tt
explained_says before after asked kind (Ok status) out out' errors errors' none says =
    explained (λ answer. Says answer status out out' errors errors') before after asked (none says.1) (says.0, says.2)

pub explained_stops : (before after : Heard) (asked : Option Telling) (kind : ErrorKind) (r : Result ℕ IoFault)
    (out out' errors errors' : Option (List ℕ))
    → (kind ≢ OutOfMemory → asked ≡ None)
    → IfErr r (λ fault. fault ≡ Output → (kind ≢ OutOfMemory) × IsExplainedInPart out out' errors errors')
    → IfErr r (λ fault. fault ≡ Output → Answers before after asked (λ answer. Stops answer out out' errors errors'))
explained_stops before after asked kind (Ok status) out out' errors errors' none stops = tt
explained_stops before after asked kind (Err fault) out out' errors errors' none stops = λ output.
    explained (λ answer. Stops answer out out' errors errors') before after asked (none (stops output).0)
    (stops output).1
