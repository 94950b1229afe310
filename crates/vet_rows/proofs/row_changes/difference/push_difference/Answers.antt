use Rattle.std.proofs.Common.{◌≡◌, ap, map, refl, ◌∙◌}
use Rattle.std.specs.List.{list_any}
use Rattle.vet_rows.specs.RowExchanges.{less, same_row, unmarked}
use Rattle.vet_rows.proofs.Unmarked.{unmarked_by}
use Rattle.vet_rows.proofs.row_changes.difference.push_difference.Goals as goal

pub returns : goal.returns
returns c =
    let gone = c.args.removed.items in
    let come = c.args.added.items in
    let in_added : c.as_slice-5.result.now ≡ map (λ x. list_any (same_row x) come) gone =
    c.as_slice-5.ensures.value ∙ c.in_ok-in_added.ensures
    ∙ rw (c.as_slice.ensures.value, c.as_slice-2.ensures.value) refl in
    let in_removed : c.as_slice-6.result.now ≡ map (λ x. list_any (same_row x) gone) come =
    c.as_slice-6.ensures.value ∙ c.in_ok-in_removed.ensures
    ∙ rw (c.as_slice-3.ensures.value, c.as_slice-4.ensures.value) refl in
    let left : c.in_ok-removed.removed.items ≡ less gone come =
    c.in_ok-removed.ensures ∙ ap (unmarked gone) in_added ∙ unmarked_by (λ x. list_any (same_row x) come) gone in
    let right : c.in_ok-added.added.items ≡ less come gone =
    c.in_ok-added.ensures ∙ ap (unmarked come) in_removed ∙ unmarked_by (λ x. list_any (same_row x) gone) come in
    rw (left, right) at c.push_drops_then_puts.ensures
