use Rattle.std.proofs.Common.{◌≡◌, ◌∙◌, ◌++◌, [], ◌∷◌, ap, arith, map, slice_index_or, sym, take}
use Rattle.std.proofs.lemmas.List.{map-append}
use Rattle.vet_rows.specs.RowsOf.{rows_by}
use Rattle.vet_rows.proofs.rows_of.rows_by.Goals as goal
use Rattle.vet_tables.proofs.TablePlaces.{found_of, one_more_table}
use Rattle.vet_tables.specs.Forms.{code, tables}
use Rattle.vet_tables.specs.declared.table_name.TheConstants.{TABLE_COUNT}

pub tables-preserved : goal.tables-preserved
tables-preserved g c =
    let rows = rows_by c.args.version c.args.register.now.state in
    let at = c.tables.at in
    let table = c.table_at.result in
    c.in_ok-push.ensures.ok
    ∙ (λ i. c.tables.invariant i ++ c.in_ok-rows_in.ensures i ∷ [])
    ∙ sym (map-append rows (take at tables) (table ∷ []))
    ∙ ap (map rows) (one_more_table at table c.table_at.ensures)

pub returns-clause-ok : goal.returns-clause-ok
returns-clause-ok g c = λ i table.
    (let rows = rows_by c.args.version c.args.register.now.state in
    let end : c.tables.at ≡ TABLE_COUNT = omega (arith, c.tables.auto.at-end, c.tables-test.false) in
    ap (λ lists. slice_index_or lists (code table) [])
    (c.tables.invariant ∙ ap (λ n. map rows (take n tables)) end) ∙ found_of rows [] table) i
