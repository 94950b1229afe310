-- Tables that have the same criteria.
use Rattle.std.proofs.Common.{◌≡◌, Bool, true, false, None, Some, Option, get_or, is_some, refl, sym, ap, ◌∙◌}
use Rattle.std.specs.Cmp.Lexicographic.{nat_list_cmp_total, slice_cmp}
use Rattle.std.specs.FinMap as map
use Rattle.std.specs.FinMap.{slice_cmp-IsAntisymmetric, nat_cmp-IsAntisymmetric}
use Rattle.std.specs.Ordering.{eq_by_cmp, nat_cmp}
use Rattle.std.proofs.lemmas.Bool.{false≢true}
use Rattle.std.proofs.lemmas.List.Folds.{Any-from_list_any}
use Rattle.vet_base.specs.declared.criterion.Criterion.{Criterion}
use Rattle.vet_base.specs.Criteria.{Criteria}
use Rattle.vet_base.specs.Words.{Name}
use Rattle.vet_masks.specs.Tables.{AreWithin}
use Rattle.vet_masks.proofs.Standings.{same_name}

-- tables that have each other's criteria are one
pub same-within : (a b : Criteria) → AreWithin a b → AreWithin b a → a ≡ b
same-within a b there back = map.same_map nat_list_cmp_total (slice_cmp-IsAntisymmetric nat_cmp-IsAntisymmetric) a b
    (λ q. by q (map.contains_key a q) refl (map.contains_key b q) refl)
  where
    at : (x y : Criteria) → AreWithin x y → (q : Name) → map.contains_key x q ≡ true → map.get x q ≡ map.get y q
    at x y within q has =
        let found = Any-from_list_any (eq_by_cmp (slice_cmp nat_cmp) q) (map.keys x)
        (sym (map.contains_key-keys x q) ∙ has) in
        let is = found.3 ∙ sym (same_name q found.1 found.4) in
        sym (ap (map.get x) is) ∙ within found.0 found.1 found.2 ∙ ap (map.get y) is

    none : (o : Option Criterion) → is_some o ≡ false → o ≡ None
    none None e = refl
    none (Some c) e = absurd (false≢true (sym e))

    by : (q : Name) (x : Bool) → map.contains_key a q ≡ x → (y : Bool) → map.contains_key b q ≡ y
        → map.get a q ≡ map.get b q
    by q true e y f = at a b there q e
    by q false e true f = sym (at b a back q f)
    by q false e false f = none (map.get a q) e ∙ sym (none (map.get b q) f)

pub within-itself : (a b : Criteria) → a ≡ b → AreWithin a b
within-itself a b e k d l = ap (λ (t : Criteria). map.get t (get_or (map.keys a) k d)) e
