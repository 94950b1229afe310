-- A policy is equal only to itself (ours).
use Rattle.std.specs.Prelude.{◌≡◌}
use Rattle.std.specs.Bool.{Decides}
use Rattle.std.specs.Cmp.{booleans_Decides}
use Rattle.std.specs.Cmp.Lexicographic.{bytes_decides}
use Rattle.std.proofs.Common.{ap}
use Rattle.std.proofs.lemmas.Bool.Decides.{Decides-and, Decides-like}
use Rattle.vet_base.specs.NamesLaws.{same_names-Decides}
use Rattle.vet_base.specs.OptionLaws.{options_decide}
use Rattle.vet_demand.specs.DependencyCriteriaLaws.{dependencies_eq-Decides}
use Rattle.vet_demand.specs.declared.policy.Policy.{Policy}
use Rattle.vet_demand.specs.Policy.{policy_eq}

-- a policy is equal only to itself
pub policy_eq-Decides : (a b : Policy) → Decides (policy_eq a b) (a ≡ b)
policy_eq-Decides a b =
    Decides-like (policy_eq a b)
    (λ h. (let s : a.audit_as_crates_io ≡ b.audit_as_crates_io = h.0.0.0.0 in
    let c : a.criteria ≡ b.criteria = h.0.0.0.1 in
    let d : a.dev_criteria ≡ b.dev_criteria = h.0.0.1 in
    let e : a.dependency_criteria ≡ b.dependency_criteria = h.0.1 in
    let n : a.notes ≡ b.notes = h.1 in
    λ i. record {
      audit_as_crates_io = s i;
      criteria = c i;
      dev_criteria = d i;
      dependency_criteria = e i;
      notes = n i;
    }))
    (λ e. (
      (
        (
          (ap (λ (p : Policy). p.audit_as_crates_io) e, ap (λ (p : Policy). p.criteria) e),
          ap (λ (p : Policy). p.dev_criteria) e,
        ),
        ap (λ (p : Policy). p.dependency_criteria) e,
      ),
      ap (λ (p : Policy). p.notes) e,
    ))
    (Decides-and _ _ (Decides-and _ _ (Decides-and _ _ (Decides-and _ _
    (options_decide booleans_Decides a.audit_as_crates_io b.audit_as_crates_io)
    (options_decide same_names-Decides a.criteria b.criteria))
    (options_decide same_names-Decides a.dev_criteria b.dev_criteria))
    (dependencies_eq-Decides a.dependency_criteria b.dependency_criteria))
    (options_decide bytes_decides a.notes b.notes))
