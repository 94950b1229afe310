-- The answers of a call, compared with the answer that a definition gives (ours).
use Rattle.std.specs.Prelude.{◌≡◌, ◌⊎◌, Bool, true, false, Option, Some, None, Result, Ok, Err, MatchResult}
use Rattle.vet_base.specs.declared.refusal.Refusal.{Refusal}
use Rattle.vet_base.specs.declared.refusal.Refusal.TheVariants.{NoMemory, UnknownCriterion}

-- a value, or a refusal in its place
abbrev pub Told : Type 0 → Type 0
Told A = Result A Refusal

-- the value that was found, or a refusal if there is none
abbrev pub found_or : {A : Type 0} → Refusal → Option A → Told A
found_or refusal None = Err refusal
found_or refusal (Some x) = Ok x

-- a refusal, if this is true
abbrev pub refuse_if : Bool → Refusal → Told (Unit {0})
refuse_if true e = Err e
refuse_if false e = Ok tt

-- the answer for a value, or the refusal that came before
infixl 10 ◌>>=◌
abbrev pub ◌>>=◌ : {A B : Type 0} → Told A → (A → Told B) → Told B
Ok x >>= f = f x
Err e >>= f = Err e

-- the call returns the answer of the definition, seen through this view, unless memory runs out
abbrev pub Gives : {A T : Type 0} → (T → A) → Told A → Result T Refusal → Type 0
Gives view told answer = MatchResult answer (λ v. told ≡ Ok (view v)) (λ e. (e ≡ NoMemory) ⊎ (told ≡ Err e))

-- the call returns the refusal; copying an unknown name into it may run out of memory
abbrev pub Refuses : {A : Type 0} → Refusal → Result A Refusal → Type 0
Refuses (UnknownCriterion n) answer = (answer ≡ Err (UnknownCriterion n)) ⊎ (answer ≡ Err NoMemory)
Refuses e answer = answer ≡ Err e

-- the call returns the answer of the definition; only copying the name of a refusal may run out of memory
abbrev pub Answers : {A : Type 0} → Told A → Result A Refusal → Type 0
Answers (Ok x) answer = answer ≡ Ok x
Answers (Err e) answer = Refuses e answer
