-- What checks answer.
use Rattle.std.proofs.Common.{◌≡◌, ◌↔◌, ◌&&◌, Bool, true, false, is_none, List, [], ◌∷◌, Option, Some, None, refl, sym}
use Rattle.std.proofs.Common.{◌∙◌, inl, inr}
use Rattle.std.specs.List.{All, list_all}
use Rattle.std.proofs.lemmas.Bool.{false≢true}
use Rattle.std.proofs.lemmas.List.Elements.{All-cons, All-head, All-nil, All-tail}
use Rattle.vet_base.specs.declared.refusal.Refusal.{Refusal}
use Rattle.vet_base.specs.declared.refusal.Refusal.TheVariants.{NotARegister}
use Rattle.vet_register.specs.Checks.{Faults}

-- what faults a part of something faults it
pub part : {P Q : Type 0} {e : Refusal} → (Q → P) → Faults P e → Faults Q e
part f (inl memory) = inl memory
part f (inr h) = inr (h.0, λ q. h.1 (f q))

-- what is told not to hold doesn't
pub refuted : {P : Type 0} {r : Bool} → (r ≡ true) ↔ P → r ≡ false → P → ⊥
refuted told is p = false≢true (sym is ∙ told.1 p)

-- a state of which this doesn't hold is no register's
pub no_register : {P : Type 0} → (P → ⊥) → Faults P NotARegister
no_register not = inr (refl, not)

-- a test of each passes just where something holds of each, if it is a test of that
all_told : {X : Type 0} (test : X → Bool) (P : X → Type 0) → ((x : X) → (test x ≡ true) ↔ P x) → (xs : List X)
    → (list_all test xs ≡ true) ↔ All P xs
all_told test P each [] = (λ t. All-nil P, λ h. refl)
all_told {X} test P each (x ∷ xs) = by (test x) (each x) (all_told test P each xs)
  where
    by : (b : Bool) → ((b ≡ true) ↔ P x) → ((list_all test xs ≡ true) ↔ All P xs)
        → ((b && list_all test xs) ≡ true) ↔ All P (x ∷ xs)
    by true here rest = (λ t. All-cons P x xs (here.0 refl) (rest.0 t), λ h. rest.1 (All-tail P x xs h))
    by false here rest = (λ t. absurd (false≢true t), λ h. here.1 (All-head P x xs h))

pub of_test : {X : Type 0} (test : X → Bool) (P : X → Type 0) → ((x : X) → (test x ≡ true) ↔ P x) → (xs : List X)
    → (r : Bool) → r ≡ list_all test xs → (r ≡ true) ↔ All P xs
of_test test P each xs r is = (
  λ t. (all_told test P each xs).0 (sym is ∙ t),
  λ h. is ∙ (all_told test P each xs).1 h,
)

-- there is none just where it is none
pub none_told : {X : Type 0} (o : Option X) → (is_none o ≡ true) ↔ (o ≡ None)
none_told None = (λ t. refl, λ e. refl)
none_told (Some x) = (λ t. absurd (false≢true t), λ e. cc e)
