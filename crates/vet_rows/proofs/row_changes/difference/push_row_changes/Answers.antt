use Rattle.std.proofs.Common.{◌∙◌, ◌++◌, ap, sym}
use Rattle.vet_rows.proofs.Pushed.{as_compared, as_whole, where_ok}
use Rattle.vet_rows.proofs.row_changes.difference.push_row_changes.Goals as goal

pub returns-then-is_compared : goal.returns-then-is_compared
returns-then-is_compared c =
    where_ok c.push_difference.result
    (λ is. is ∙ ap (λ more. c.args.changes.now.items ++ more)
    (as_compared c.args.table c.args.removed.items c.args.added.items
    (sym c.is_compared.ensures ∙ c.if-is_compared.true))) c.push_difference.ensures

pub returns : goal.returns
returns c =
    where_ok c.push_drops_then_puts.result
    (λ is. is ∙ ap (λ more. c.args.changes.now.items ++ more)
    (as_whole c.args.table c.args.removed.items c.args.added.items
    (sym c.is_compared.ensures ∙ c.if-is_compared.false))) c.push_drops_then_puts.ensures
