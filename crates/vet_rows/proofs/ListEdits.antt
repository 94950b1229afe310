-- What is in a list after an edit of it.
use Rattle.std.proofs.Common.{◌≡◌, ◌⊎◌, ℕ, zero, suc, ◌<◌, inl, inr, List, [], ◌∷◌, length}
use Rattle.std.proofs.Common.{refl, sym, ap, arith, set, Some, None}
use Rattle.std.specs.List.{insert, remove, slice_get, flat_map}
use Rattle.vet_base.specs.Items.{IsIn}
use Rattle.vet_base.proofs.ItemLemmas.{in_append, in_back, in_front}

module _ {X : Type 0} where
  -- what is at a place is in the list
  pub at_in : (xs : List X) (i : ℕ) (x : X) → slice_get xs i ≡ Some x → IsIn x xs
  at_in [] i x e = absurd (cc e)
  at_in (y ∷ xs) zero x e = inl (sym (some e))
    where
      some : {a b : X} → Some a ≡ Some b → a ≡ b
      some {a} {b} h = cc h
  at_in (y ∷ xs) (suc i) x e = inr (at_in xs i x e)

  -- and there is something at each place within
  pub some_within : (xs : List X) (i : ℕ) → i < length xs → slice_get xs i ≡ None → ⊥
  some_within [] i l n = absurd (omega (arith, l))
  some_within (y ∷ xs) zero l n = cc n
  some_within (y ∷ xs) (suc i) l n = some_within xs i (omega (arith, l)) n

  -- ---- one put in

  pub insert_in : (xs : List X) (i : ℕ) (e x : X) → (x ≡ e) ⊎ IsIn x xs → IsIn x (insert xs i e)
  insert_in xs zero e x h = h
  insert_in [] (suc i) e x h = h
  insert_in (y ∷ xs) (suc i) e x (inl same) = inr (insert_in xs i e x (inl same))
  insert_in (y ∷ xs) (suc i) e x (inr (inl here)) = inl here
  insert_in (y ∷ xs) (suc i) e x (inr (inr later)) = inr (insert_in xs i e x (inr later))

  pub in_insert : (xs : List X) (i : ℕ) (e x : X) → IsIn x (insert xs i e) → (x ≡ e) ⊎ IsIn x xs
  in_insert xs zero e x h = h
  in_insert [] (suc i) e x h = h
  in_insert (y ∷ xs) (suc i) e x (inl here) = inr (inl here)
  in_insert (y ∷ xs) (suc i) e x (inr later) = elim (in_insert xs i e x later) [
    | inl same ↦ inl same
    | inr there ↦ inr (inr there)
  ]

  -- ---- one taken out

  pub in_remove : (xs : List X) (i : ℕ) (x : X) → IsIn x (remove xs i) → IsIn x xs
  in_remove [] zero x h = h
  in_remove [] (suc i) x h = h
  in_remove (y ∷ xs) zero x h = inr h
  in_remove (y ∷ xs) (suc i) x (inl here) = inl here
  in_remove (y ∷ xs) (suc i) x (inr later) = inr (in_remove xs i x later)

  pub remove_in : (xs : List X) (i : ℕ) (x : X) → IsIn x xs → IsIn x (remove xs i) ⊎ (slice_get xs i ≡ Some x)
  remove_in [] i x h = absurd h
  remove_in (y ∷ xs) zero x (inl here) = inr (ap Some (sym here))
  remove_in (y ∷ xs) zero x (inr later) = inl later
  remove_in (y ∷ xs) (suc i) x (inl here) = inl (inl here)
  remove_in (y ∷ xs) (suc i) x (inr later) = elim (remove_in xs i x later) [
    | inl there ↦ inl (inr there)
    | inr at ↦ inr at
  ]

  -- ---- one put in place of another

  pub in_set : (xs : List X) (i : ℕ) (e x : X) → IsIn x (set xs i e) → (x ≡ e) ⊎ IsIn x xs
  in_set [] i e x h = absurd h
  in_set (y ∷ xs) zero e x (inl here) = inl here
  in_set (y ∷ xs) zero e x (inr later) = inr (inr later)
  in_set (y ∷ xs) (suc i) e x (inl here) = inr (inl here)
  in_set (y ∷ xs) (suc i) e x (inr later) = elim (in_set xs i e x later) [
    | inl same ↦ inl same
    | inr there ↦ inr (inr there)
  ]

  pub set_in : (xs : List X) (i : ℕ) (e x : X) → IsIn x xs → IsIn x (set xs i e) ⊎ (slice_get xs i ≡ Some x)
  set_in [] i e x h = absurd h
  set_in (y ∷ xs) zero e x (inl here) = inr (ap Some (sym here))
  set_in (y ∷ xs) zero e x (inr later) = inl (inr later)
  set_in (y ∷ xs) (suc i) e x (inl here) = inl (inl here)
  set_in (y ∷ xs) (suc i) e x (inr later) = elim (set_in xs i e x later) [
    | inl there ↦ inl (inr there)
    | inr at ↦ inr at
  ]

  pub new_in_set : (xs : List X) (i : ℕ) (e : X) → i < length xs → IsIn e (set xs i e)
  new_in_set [] i e l = absurd (omega (arith, l))
  new_in_set (y ∷ xs) zero e l = inl refl
  new_in_set (y ∷ xs) (suc i) e l = inr (new_in_set xs i e (omega (arith, l)))

-- ---- lists of what each item gives

module _ {X Y : Type 0} (f : X → List Y) where
  pub in_flat : (xs : List X) (y : Y) → IsIn y (flat_map f xs) → (x : X) × (IsIn x xs × IsIn y (f x))
  in_flat [] y i = absurd i
  in_flat (x ∷ xs) y i = elim (in_append (f x) (flat_map f xs) y i) [
    | inl here ↦ (x, (inl refl, here))
    | inr later ↦ (let h = in_flat xs y later in (h.0, (inr h.1.0, h.1.1)))
  ]

  pub flat_in : (xs : List X) (x : X) (y : Y) → IsIn x xs → IsIn y (f x) → IsIn y (flat_map f xs)
  flat_in [] x y i j = absurd i
  flat_in (z ∷ xs) x y (inl e) j = in_front (f z) (flat_map f xs) y (rw (sym e) j)
  flat_in (z ∷ xs) x y (inr i) j = in_back (f z) (flat_map f xs) y (flat_in xs x y i j)
