-- What follows of what is told, and of what is answered as it is told.
use Rattle.std.proofs.Common.{◌≡◌, ℕ, Bool, true, false, List, Option, Some, None, Ok, Err, refl}
use Rattle.std.proofs.Common.{sym, ap, inl, inr}
use Rattle.vet_base.specs.declared.refusal.Refusal.{Refusal}
use Rattle.vet_base.specs.declared.refusal.Refusal.TheVariants.{UnknownCriterion}
use Rattle.vet_base.specs.CriteriaChanges.{known}
use Rattle.vet_base.specs.Gives.{Answers, Refuses, Told, refuse_if, ◌>>=◌}

-- what refuses is not so
pub not_refused : (b : Bool) (e : Refusal) → refuse_if b e ≡ Ok tt → b ≡ false
not_refused true e h = cc h
not_refused false e h = refl

-- where something is told in the end, so it was at first
pub then_told : {A : Type 0} (t : Told (Unit {0})) (f : Unit {0} → Told A) (x : A) → (t >>= f) ≡ Ok x → (t ≡ Ok tt)
    × (f tt ≡ Ok x)
then_told (Ok u) f x h = (refl, h)
then_told (Err e) f x h = cc h

-- a refusal is no answer of a value
pub never_refuses : {A : Type 0} (e : Refusal) (x : A) → Refuses e (Ok x) → ⊥
never_refuses (UnknownCriterion n) x (inl h) = cc h
never_refuses (UnknownCriterion n) x (inr h) = cc h
never_refuses e x h = cc h

-- what is answered without a refusal is what is told
pub answered : {A : Type 0} (t : Told A) (x : A) → Answers t (Ok x) → t ≡ Ok x
answered (Ok y) x h = sym h
answered (Err e) x h = absurd (never_refuses e x h)

-- a refusal is the same for whatever would be answered
pub refuses_too : (A B : Type 0) (e f : Refusal) → Refuses {A = A} e (Err f) → Refuses {A = B} e (Err f)
refuses_too A B (UnknownCriterion n) f (inl h) = inl (ap Err (cc h))
refuses_too A B (UnknownCriterion n) f (inr h) = inr (ap Err (cc h))
refuses_too A B e f h = ap Err (cc h)

-- no name is unknown
pub all_known : (o : Option (List ℕ)) → known o ≡ Ok tt → o ≡ None
all_known None h = refl
all_known (Some n) h = cc h
