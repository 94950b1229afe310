-- The refusals of a change of a table of criteria (ours).
use Rattle.std.specs.Prelude.{◌&&◌, ◌||◌, not, nat_le, nat_eq, Bool, Option, Some, None, Ok, Err}
use Rattle.std.specs.List.{list_any}
use Rattle.std.specs.Cmp.Lexicographic.{pointwise}
use Rattle.std.specs.FinSet as set
use Rattle.std.specs.FinMap as map
use Rattle.vet_base.specs.declared.limits.TheConstants.{MOST_CRITERIA}
use Rattle.vet_base.specs.declared.criterion.Criterion.{Criterion}
use Rattle.vet_base.specs.declared.refusal.Refusal.TheVariants.{UnknownCriterion, BuiltInCriterion, CriterionInUse}
use Rattle.vet_base.specs.declared.refusal.Refusal.TheVariants.{TooManyCriteria}
use Rattle.vet_base.specs.Criteria.{Criteria, least_unknown, safe_to_run, safe_to_deploy}
use Rattle.vet_base.specs.Gives.{Told, refuse_if, ◌>>=◌}
use Rattle.vet_base.specs.Words.{Name}

-- whether a name is new to a full table
abbrev pub is_full_for : Criteria → Name → Bool
is_full_for table name = not (map.contains_key table name) && nat_le MOST_CRITERIA (map.len table)

-- the least name that a criterion implies and that is neither in the table nor its own
abbrev pub unknown_beside : Criteria → Criterion → Option Name
unknown_beside table c = least_unknown (map.insert table c.name c) c.implies

-- whether a name is that of a built-in criterion
abbrev pub is_built_in : Name → Bool
is_built_in name = pointwise nat_eq name safe_to_run || pointwise nat_eq name safe_to_deploy

-- an unknown name is refused
abbrev pub known : Option Name → Told (Unit {0})
known None = Ok tt
known (Some name) = Err (UnknownCriterion name)

-- a criterion whose name is new to a full table is refused
abbrev pub set_limits : Criteria → Name → Told (Unit {0})
set_limits table name = refuse_if (is_full_for table name) TooManyCriteria

-- each name that a criterion implies, except its own, must be in the table
abbrev pub set_references : Criteria → Criterion → Told (Unit {0})
set_references table c = known (unknown_beside table c)

-- a built-in criterion cannot be set
abbrev pub set_rules : Name → Told (Unit {0})
set_rules name = refuse_if (is_built_in name) BuiltInCriterion

-- the verdict on setting a criterion: limits, then references, then rules
abbrev pub set_verdict : Criteria → Criterion → Told (Unit {0})
set_verdict table c = set_limits table c.name >>= λ _. set_references table c >>= λ _. set_rules c.name

-- whether a criterion has another name, and implies this name
abbrev pub is_user : Name → Criterion → Bool
is_user name c = not (pointwise nat_eq c.name name) && set.contains c.implies name

-- whether a criterion of another name implies a name
abbrev pub is_implied : Criteria → Name → Bool
is_implied table name = list_any (is_user name) (map.values table)

-- a name to be removed must be in the table
abbrev pub remove_references : Criteria → Name → Told (Unit {0})
remove_references table name = refuse_if (not (map.contains_key table name)) (UnknownCriterion name)

-- it must not be built in, and no other criterion may imply it
abbrev pub remove_rules : Criteria → Name → Told (Unit {0})
remove_rules table name =
    refuse_if (is_built_in name) BuiltInCriterion >>= λ _. refuse_if (is_implied table name) CriterionInUse

-- the verdict on removing a name: references, then rules
abbrev pub remove_verdict : Criteria → Name → Told (Unit {0})
remove_verdict table name = remove_references table name >>= λ _. remove_rules table name
