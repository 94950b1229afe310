-- Equality of criteria is an equivalence, and only equal ones satisfy it (ours).
use Rattle.std.specs.Prelude.{◌≡◌}
use Rattle.std.specs.Bool.{Decides}
use Rattle.std.specs.Cmp.{IsEquivalence, and_equiv, on_equiv}
use Rattle.std.specs.Cmp.Lexicographic.{bytes_decides, nat_list_eq_equiv, options_equiv}
use Rattle.std.proofs.Common.{ap}
use Rattle.std.proofs.lemmas.Bool.Decides.{Decides-and, Decides-like}
use Rattle.vet_base.specs.declared.criterion.Criterion.{Criterion}
use Rattle.vet_base.specs.NamesLaws.{same_names_equiv}
use Rattle.vet_base.specs.NamesLaws.{same_names-Decides}
use Rattle.vet_base.specs.OptionLaws.{options_decide}
use Rattle.vet_base.specs.Criterion.{criterion_eq}

-- this is an equivalence
pub criterion_eq_equiv : IsEquivalence criterion_eq
criterion_eq_equiv =
    and_equiv (and_equiv (and_equiv
    (on_equiv (λ (c : Criterion). c.name) nat_list_eq_equiv)
    (on_equiv (λ (c : Criterion). c.description) (options_equiv nat_list_eq_equiv)))
    (on_equiv (λ (c : Criterion). c.url) (options_equiv nat_list_eq_equiv)))
    (on_equiv (λ (c : Criterion). c.implies) same_names_equiv)

-- a criterion is equal only to itself
pub criterion_eq-Decides : (a b : Criterion) → Decides (criterion_eq a b) (a ≡ b)
criterion_eq-Decides a b =
    Decides-like (criterion_eq a b)
    (λ h. (let n : a.name ≡ b.name = h.0.0.0 in
    let d : a.description ≡ b.description = h.0.0.1 in
    let u : a.url ≡ b.url = h.0.1 in
    let m : a.implies ≡ b.implies = h.1 in
    λ i. record { name = n i; description = d i; url = u i; implies = m i }))
    (λ e. (
      (
        (ap (λ (c : Criterion). c.name) e, ap (λ (c : Criterion). c.description) e),
        ap (λ (c : Criterion). c.url)
            e,
      ),
      ap (λ (c : Criterion). c.implies) e,
    ))
    (Decides-and _ _ (Decides-and _ _ (Decides-and _ _
    (bytes_decides a.name b.name)
    (options_decide bytes_decides a.description b.description))
    (options_decide bytes_decides a.url b.url))
    (same_names-Decides a.implies b.implies))
