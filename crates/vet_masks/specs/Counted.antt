-- What steps are seen as that are looked at (ours).
use Rattle.std.specs.Prelude.{ℕ, List}
use Rattle.std.specs.Coded.{Coded, code_by, coded×, coded_list, coded_ℕ}
use Rattle.std.proofs.Common.{refl}
use Rattle.vet_entries.specs.declared.step.Step.{Step}

-- the steps, and how many looks were made
pub record Counted : Type 0 where
  pub steps : List Step
  pub count : ℕ

abbrev pub counted_code : Coded Step → Coded Counted
counted_code step_code =
    code_by (List Step × ℕ) (coded× (coded_list step_code) coded_ℕ) (λ a. (a.steps, a.count))
    (λ p. record { steps = p.0; count = p.1 }) (λ _. refl)
