-- Steps and sets that are the same.
use Rattle.std.proofs.Common.{◌≡◌, Bool, true, false, not, Option, Some, None, refl, sym, ap}
use mathlib.Core.Bool.{beq}
use Rattle.std.specs.Option.{option_eq}
use Rattle.std.proofs.lemmas.Bool.{false≢true}
use Rattle.vet_base.specs.Version.{VersionValue}
use Rattle.vet_base.specs.VersionOrder.{version_eq}
use Rattle.vet_base.specs.VersionOrderLaws.{version_eq-Decides}

-- what isn't false is true
pub from_not : (b : Bool) → not b ≡ false → b ≡ true
from_not true e = refl
from_not false e = absurd (false≢true (sym e))

pub not_from : (b : Bool) → not b ≡ true → b ≡ false
not_from true e = absurd (false≢true e)
not_from false e = refl

-- each is where the other is
pub both_ways : (a b : Bool) → (a ≡ true → b ≡ true) → (b ≡ true → a ≡ true) → a ≡ b
both_ways true true f g = refl
both_ways true false f g = sym (f refl)
both_ways false true f g = g refl
both_ways false false f g = refl

pub origin-same : (a b : Option VersionValue) → option_eq version_eq a b ≡ true → a ≡ b
origin-same None None e = refl
origin-same None (Some w) e = absurd (false≢true e)
origin-same (Some v) None e = absurd (false≢true e)
origin-same (Some v) (Some w) e = ap (λ (x : VersionValue). Some x) ((version_eq-Decides v w).0 e)

pub origin-itself : (a : Option VersionValue) → option_eq version_eq a a ≡ true
origin-itself None = refl
origin-itself (Some v) = (version_eq-Decides v v).1 refl

pub flag-same : (a b : Bool) → not (beq a b) ≡ false → a ≡ b
flag-same true true e = refl
flag-same true false e = absurd (false≢true (sym e))
flag-same false true e = absurd (false≢true (sym e))
flag-same false false e = refl
