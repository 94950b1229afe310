-- The result of a check of a state (ours).
use Rattle.std.specs.Prelude.{◌≡◌, ◌⊎◌, Result, MatchResult}
use Rattle.vet_base.specs.declared.refusal.Refusal.{Refusal}
use Rattle.vet_base.specs.declared.refusal.Refusal.TheVariants.{NoMemory, NotARegister}

-- memory ran out, or it is no register, since this doesn't hold
abbrev pub Faults : Type 0 → Refusal → Type 0
Faults P e = (e ≡ NoMemory) ⊎ ((e ≡ NotARegister) × (P → ⊥))

-- a statement that passes holds, and one that is refused does not, unless memory ran out
abbrev pub Checks : Type 0 → Result (Unit {0}) Refusal → Type 0
Checks P answer = MatchResult answer (λ _. P) (Faults P)
