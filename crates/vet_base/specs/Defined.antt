-- The table that the criteria of a file and the built-in ones define, or the refusal of these criteria (ours).
use Rattle.std.specs.Prelude.{Bool, true, false, not, nat_lt, List, Option, Some, None, Ok, Err, if◌then◌else◌, find}
use Rattle.std.specs.Prelude.{fold}
use Rattle.std.specs.List.{list_any}
use Rattle.std.specs.Ordering.{is_lt, nat_cmp}
use Rattle.std.specs.Cmp.Lexicographic.{slice_cmp}
use Rattle.std.specs.FinMap as map
use Rattle.vet_base.specs.declared.limits.TheConstants.{MOST_CRITERIA}
use Rattle.vet_base.specs.declared.criterion.Criterion.{Criterion}
use Rattle.vet_base.specs.declared.refusal.Refusal.TheVariants.{UnknownCriterion, BuiltInCriterion, TooManyCriteria}
use Rattle.vet_base.specs.Criteria.{Criteria, built_in_criteria}
use Rattle.vet_base.specs.CriteriaChanges.{is_built_in}
use Rattle.vet_base.specs.Gives.{Told}
use Rattle.vet_base.specs.Names.{members}
use Rattle.vet_base.specs.Words.{Name}

-- the built-in criteria and these; a later one replaces an earlier one of the same name
abbrev pub defined : List Criterion → Criteria
defined criteria = fold (λ table c. map.insert table c.name c) built_in_criteria criteria

-- the lesser of two names, or the only one that is present
abbrev pub lesser : Option Name → Option Name → Option Name
lesser None b = b
lesser (Some a) None = Some a
lesser (Some a) (Some b) = if is_lt (slice_cmp nat_cmp b a) then Some b else Some a

-- the least name that a criterion implies and that is not known
abbrev pub least_implied : (Name → Bool) → Criterion → Option Name
least_implied known c = find (λ n. not (known n)) (members c.implies)

-- the least name that one of some criteria implies and that is not known
abbrev pub least_undefined : (Name → Bool) → List Criterion → Option Name
least_undefined known criteria = fold (λ least c. lesser least (least_implied known c)) None criteria

-- an unknown name is refused before a built-in one
abbrev pub table_unless : Option Name → Bool → Criteria → Told Criteria
table_unless (Some n) built_in table = Err (UnknownCriterion n)
table_unless None true table = Err BuiltInCriterion
table_unless None false table = Ok table

-- the table of some criteria; too many are refused, then an implied name that none has, then a built-in one
abbrev pub table_told : List Criterion → Told Criteria
table_told criteria =
    if nat_lt MOST_CRITERIA (map.len (defined criteria)) then Err TooManyCriteria
    else table_unless (least_undefined (map.contains_key (defined criteria)) criteria)
    (list_any (λ c. is_built_in c.name) criteria) (defined criteria)
