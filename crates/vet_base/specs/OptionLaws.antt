-- Equality of optional values (ours).
use Rattle.std.specs.Prelude.{◌≡◌, Bool, Option, Some, None}
use Rattle.std.specs.Bool.{Decides}
use Rattle.std.specs.Option.{option_eq}
use Rattle.std.proofs.Common.{refl, ap}
use Rattle.std.proofs.lemmas.Option.{same_Some}

-- if a function decides whether two values are the same, it also decides so for values that may be absent
pub options_decide : {X : Type 0} {E : X → X → Bool} → ((a b : X) → Decides (E a b) (a ≡ b)) → (a b : Option X)
    → Decides (option_eq E a b) (a ≡ b)
options_decide d None None = (λ _. refl, λ _. refl)
options_decide d None (Some y) = (λ h. cc h, λ e. cc e)
options_decide d (Some x) None = (λ h. cc h, λ e. cc e)
options_decide {X = X} d (Some x) (Some y) =
    (λ h. ap (λ (z : X). Some z) ((d x y).0 h), λ e. (d x y).1 (same_Some x y e))
