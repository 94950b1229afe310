-- Rowids that rise come to an end.
use Rattle.std.proofs.Common.{ℕ, ◌<◌, ◌+◌, ◌-◌, ◌^◌, suc, ℤ, pos, negsuc, ◌<ℤ◌, Option, Some, None, IfSome, FitsSigned}
use Rattle.std.proofs.Common.{◌≡◌, Bool, T, arith, false, ltb, ltb-true, refl, true, w64}

-- how many numbers of 64 bits come after the last one, and more than of any where there is none
pub ids_above : Option ℤ → ℕ
ids_above None = 2 ^ 64 + 1
ids_above (Some (pos n)) = 2 ^ 63 - n
ids_above (Some (negsuc n)) = 2 ^ 63 + suc n

below : (m n : ℕ) → T (ltb m n) → m < n
below m n holds = by (ltb m n) refl holds
  where
    by : (b : Bool) → ltb m n ≡ b → T b → m < n
    by true is holds = ltb-true m n is
    by false is holds = absurd holds

pub fewer_above : (last : Option ℤ) (id : ℤ) → FitsSigned w64 id → IfSome last (λ m. m <ℤ id)
    → ids_above (Some id) < ids_above last
unfolding ids_above
fewer_above None (pos n) fits above = omega arith
fewer_above None (negsuc n) fits above = let small : n < 2 ^ 63 = fits.sfits in omega (arith, small)
fewer_above (Some (pos m)) (pos n) fits above =
    let small : n < 2 ^ 63 = fits.sfits in
    let less : m < n = below m n above.lt in
    omega (arith, small, less)
fewer_above (Some (pos m)) (negsuc n) fits above = absurd above.lt
fewer_above (Some (negsuc m)) (pos n) fits above = omega arith
fewer_above (Some (negsuc m)) (negsuc n) fits above =
    let less : n < m = below n m above.lt in
    omega (arith, less)
