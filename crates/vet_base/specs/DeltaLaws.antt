-- Equality of deltas is an equivalence, and only equal ones satisfy it (ours).
use Rattle.std.specs.Prelude.{◌≡◌}
use Rattle.std.specs.Bool.{Decides}
use Rattle.std.specs.Cmp.{IsEquivalence, and_equiv, on_equiv, eq_by_cmp_equiv}
use Rattle.std.proofs.Common.{ap}
use Rattle.std.proofs.lemmas.Bool.Decides.{Decides-and, Decides-like}
use Rattle.vet_base.specs.declared.delta.Delta.{Delta}
use Rattle.vet_base.specs.Delta.{delta_eq}
use Rattle.vet_base.specs.VersionOrderLaws.{version_eq-Decides, version_total}

-- this is an equivalence
pub delta_eq_equiv : IsEquivalence delta_eq
delta_eq_equiv =
    and_equiv
    (on_equiv (λ (d : Delta). d.from) (eq_by_cmp_equiv version_total))
    (on_equiv (λ (d : Delta). d.to) (eq_by_cmp_equiv version_total))

-- a delta is equal only to itself
pub delta_eq-Decides : (a b : Delta) → Decides (delta_eq a b) (a ≡ b)
delta_eq-Decides a b =
    Decides-like (delta_eq a b)
    (λ h. (let f : a.from ≡ b.from = h.0 in
    let t : a.to ≡ b.to = h.1 in
    λ i. record { from = f i; to = t i }))
    (λ e. (ap (λ (d : Delta). d.from) e, ap (λ (d : Delta). d.to) e))
    (Decides-and _ _ (version_eq-Decides a.from b.from) (version_eq-Decides a.to b.to))
