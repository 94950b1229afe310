use Rattle.std.proofs.Common.{◌+◌, ◌∷◌, ◌++◌, [], ap, cond, false, slice_index_or, sym, ◌∙◌}
use Rattle.std.proofs.lemmas.List.{length-append}
use Rattle.vet_rows.specs.RowExchanges.{unmarked}
use Rattle.vet_rows.proofs.Unmarked.{unmarked_more}
use Rattle.vet_rows.proofs.row_changes.difference.unmarked.Goals as goal

pub rows-preserved : goal.rows-preserved
rows-preserved g c =
    let seen = c.rows.yielded in
    let marks = c.args.marks.now in
    let row = c.in-Some.row in (
      ap (λ n. n + 1) c.rows.invariant.0 ∙ sym (length-append seen (row ∷ [])),
      c.in_ok-push_unless.ensures
          ∙ ap (λ xs. xs ++ cond (slice_index_or marks c.rows.at false) [] (row ∷ [])) c.rows.invariant.1
          ∙ ap (λ n. unmarked seen marks ++ cond (slice_index_or marks n false) [] (row ∷ [])) c.rows.invariant.0
          ∙ sym (unmarked_more seen marks row),
    )
