use Rattle.std.proofs.Common.{◌≡◌, ap, ◌∙◌, arith}
use Rattle.std.specs.FinSet as set
use Rattle.std.proofs.lemmas.List.{take_all}
use Rattle.vet_base.proofs.DefinedTables.{built_in_names, defined_len, defined_names, with_names}
use Rattle.vet_base.proofs.criteria_table.CriteriaTable.names_with.Goals as goal

all_known : (c : goal.After-loop-criterion) → c.loop-criterion.known ≡ with_names built_in_names c.args.criteria.now
all_known c = c.loop-criterion.invariant
    ∙ ap (with_names built_in_names)
    (take_all c.loop-criterion.criterion-index c.args.criteria.now (omega (arith, c.loop-criterion-test.false)))

pub returns-clause-names : goal.returns-clause-names
returns-clause-names c n = ap (λ s. set.contains s n) (all_known c) ∙ defined_names c.args.criteria.now n

pub returns-clause-len : goal.returns-clause-len
returns-clause-len c = ap set.len (all_known c) ∙ defined_len c.args.criteria.now
