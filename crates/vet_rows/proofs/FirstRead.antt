-- The first item of a list.
use Rattle.std.proofs.Common.{◌≡◌, List, [], ◌∷◌, Some, None, inl, sym}
use Rattle.std.specs.List.{slice_get}
use Rattle.std.proofs.lemmas.Option.{same_Some}
use Rattle.vet_base.specs.Items.{IsIn}

pub first_in : {X : Type 0} (xs : List X) (x : X) → slice_get xs 0 ≡ Some x → IsIn x xs
first_in [] x h = cc h
first_in (y ∷ ys) x h = inl (sym (same_Some y x h))

pub none_in : {X : Type 0} (xs : List X) → slice_get xs 0 ≡ None → (x : X) → IsIn x xs → ⊥
none_in [] h x among = among
none_in (y ∷ ys) h x among = cc h
