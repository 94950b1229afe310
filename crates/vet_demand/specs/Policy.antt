-- Equality of policies (ours).
use Rattle.std.specs.Prelude.{◌&&◌, Bool}
use Rattle.std.specs.Bool.{beq}
use Rattle.std.specs.Option.{option_eq}
use Rattle.vet_base.specs.Criterion.{same_text}
use Rattle.vet_base.specs.Names.{same_names}
use Rattle.vet_demand.specs.DependencyCriteria.{dependencies_eq}
use Rattle.vet_demand.specs.declared.policy.Policy.{Policy}

-- two policies agree in every field
abbrev pub policy_eq : Policy → Policy → Bool
policy_eq a b =
    option_eq beq a.audit_as_crates_io b.audit_as_crates_io && option_eq same_names a.criteria b.criteria
    && option_eq same_names a.dev_criteria b.dev_criteria && dependencies_eq a.dependency_criteria b.dependency_criteria
    && same_text a.notes b.notes
