-- What is read from rows and columns is what was written (ours).
use Rattle.std.specs.Prelude.{◌≡◌, Err, List, [], ◌∷◌, MatchResult, None, Ok, Option, Result, Some}
use Rattle.vet_base.specs.declared.refusal.Refusal.{Refusal}
use Rattle.vet_base.specs.declared.refusal.Refusal.TheVariants as refusal
use Rattle.vet_item_rows.specs.declared.read.read_error.ReadError.{ReadError}
use Rattle.vet_item_rows.specs.declared.read.read_error.ReadError.TheVariants.{NoMemory, NotARegister}

-- ---- what was read

-- this value was read, unless memory ran out
abbrev pub Reads : {X : Type 0} → Result X ReadError → X → Type 0
Reads result x = MatchResult result (λ found. found ≡ x) (λ e. e ≡ NoMemory)

-- a value was read that is seen as this one
abbrev pub ReadsAs : {T X : Type 0} → (T → X) → Result T ReadError → X → Type 0
ReadsAs view result x = MatchResult result (λ found. view found ≡ x) (λ e. e ≡ NoMemory)

-- if it stands for a value, that value is read
abbrev pub IsReadBack : {A X : Type 0} → (A → X → Type 0) → A → Result X ReadError → Type 0
IsReadBack {A} {X} StandsFor a result = (x : X) → StandsFor a x → Reads result x

-- what was found, or an error if nothing was
abbrev pub found_or_no_register : {X : Type 0} → Option X → Result X ReadError
found_or_no_register None = Err NotARegister
found_or_no_register (Some x) = Ok x

-- a refusal because memory ran out stays one
abbrev pub read_error_of : Refusal → ReadError
read_error_of refusal.NoMemory = NoMemory
read_error_of _ = NotARegister

abbrev pub refusal_of : ReadError → Refusal
refusal_of NotARegister = refusal.NotARegister
refusal_of NoMemory = refusal.NoMemory

-- ---- what stands for it

-- each of one list stands for the one at its place in another
abbrev pub EachStandsFor : {A X : Type 0} → (A → X → Type 0) → List A → List X → Type 0
EachStandsFor StandsFor [] [] = Unit {0}
EachStandsFor StandsFor [] (x ∷ xs) = ⊥
EachStandsFor StandsFor (a ∷ rows) [] = ⊥
EachStandsFor StandsFor (a ∷ rows) (x ∷ xs) = StandsFor a x × EachStandsFor StandsFor rows xs

-- what is written of a value that can be held stands for it
abbrev pub IsWritten : {A X : Type 0} → (X → Type 0) → (X → A) → A → X → Type 0
IsWritten CanBeHeld written a x = CanBeHeld x × (a ≡ written x)

-- none or one, as a list
abbrev pub in_list : {X : Type 0} → Option X → List X
in_list None = []
in_list (Some x) = x ∷ []
