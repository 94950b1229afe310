use Rattle.std.proofs.Common.{sym, ap, ◌∙◌, ◌||◌}
use Rattle.std.specs.Prelude.{◌&&◌}
use Rattle.std.specs.Cmp.{nat_cmp_total}
use Rattle.std.specs.FinSet as set
use Rattle.vet_base.specs.CriteriaSet.{has}
use Rattle.vet_entries.proofs.Violations.{or_nothing}
use Rattle.vet_entries.proofs.condemned.with_matching.Goals as goal

pub returns-then-not-matches : goal.returns-then-not-matches
returns-then-not-matches c k =
    let more = has k c.args.violation.now.criteria in
    or_nothing (has k c.args.condemned) more
    ∙ ap (λ t. has k c.args.condemned || (t && more)) (sym c.if-not-matches.true ∙ c.matches.ensures)

pub returns : goal.returns
returns c k =
    let more = has k c.args.violation.now.criteria in
    ap (has k) c.union.ensures
    ∙ set.contains-union nat_cmp_total c.args.condemned c.args.violation.now.criteria k
    ∙ ap (λ t. has k c.args.condemned || (t && more)) (sym c.if-not-matches.false ∙ c.matches.ensures)
