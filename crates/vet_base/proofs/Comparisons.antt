-- Words of comparisons, and what they say of one another.
use Rattle.std.proofs.Common.{◌≡◌, Bool, true, false, refl}
use Rattle.std.specs.Ordering.{is_eq, is_gt, is_lt}
use Rattle.std.specs.declared.cmp.Ordering.{Ordering}
use Rattle.std.specs.declared.cmp.Ordering.TheVariants.{Less, Equal, Greater}

pub not_behind : (r : Ordering) → is_lt r ≡ true → is_gt r ≡ false
not_behind Less e = refl
not_behind Equal e = refl
not_behind Greater e = cc e

pub not_before : (r : Ordering) → is_gt r ≡ true → is_lt r ≡ false
not_before Less e = cc e
not_before Equal e = refl
not_before Greater e = refl

pub neither_lt : (r : Ordering) → is_lt r ≡ true → is_eq r ≡ false
neither_lt Less e = refl
neither_lt Equal e = cc e
neither_lt Greater e = refl

pub neither_gt : (r : Ordering) → is_gt r ≡ true → is_eq r ≡ false
neither_gt Less e = refl
neither_gt Equal e = cc e
neither_gt Greater e = refl

pub lesser : (r : Ordering) → is_lt r ≡ true → r ≡ Less
lesser Less e = refl
lesser Equal e = cc e
lesser Greater e = cc e

pub greater : (r : Ordering) → is_gt r ≡ true → r ≡ Greater
greater Less e = cc e
greater Equal e = cc e
greater Greater e = refl

pub is_false : (b : Bool) → (b ≡ true → ⊥) → b ≡ false
is_false true h = absurd (h refl)
is_false false h = refl

pub equal : (r : Ordering) → is_eq r ≡ true → r ≡ Equal
equal Less e = cc e
equal Equal e = refl
equal Greater e = cc e
