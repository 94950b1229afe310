-- What was written of two texts, one after the other.
use Rattle.std.proofs.Common.{◌≡◌, ℕ, ◌+◌, List, [], ◌∷◌, ◌++◌, Option, length, take, ap, arith, suc}
use Rattle.std.proofs.Common.{length-append, subst, sym, ◌∙◌}
use Rattle.std.proofs.KnownBytes.{Appends-trans}
use Rattle.std.specs.Io.KnownBytes.{Appends}
use Rattle.vet_http.specs.Output.{AppendsPart}

take_past : (bs cs : List ℕ) (n : ℕ) → take (length bs + n) (bs ++ cs) ≡ bs ++ take n cs
take_past [] cs n = let none : 0 + n ≡ n = omega arith in ap (λ (k : ℕ). take k cs) none
take_past (b ∷ bs) cs n =
    let more : length (b ∷ bs) + n ≡ suc (length bs + n) = omega arith in
    ap (λ (k : ℕ). take k (b ∷ (bs ++ cs))) more ∙ ap (λ (l : List ℕ). b ∷ l) (take_past bs cs n)

-- the first and a front of the second are one of both
pub front_behind : (a b c : Option (List ℕ)) (bs cs : List ℕ) → Appends a b bs → AppendsPart b c cs
    → AppendsPart a c (bs ++ cs)
front_behind a b c bs cs first (n, (fewer, appends)) = (
  length bs + n,
  (
    omega (arith, fewer, length-append bs cs),
    subst (Appends a c) (sym (take_past bs cs n)) (Appends-trans a b c bs (take n cs) first appends),
  ),
)
