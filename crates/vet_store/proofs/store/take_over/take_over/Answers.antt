use Rattle.std.proofs.Common.{◌≡◌, ◌∙◌, ap, subst, sym}
use Rattle.sqlite.specs.Held.{state}
use Rattle.vet_base.specs.Items.{IsIn}
use Rattle.vet_rows.specs.FitChanges.{Fits}
use Rattle.vet_rows.specs.RowChanges.{all_changed}
use Rattle.vet_rows.specs.RowsOf.{rows_by, rows_of}
use Rattle.vet_rows.specs.declared.row_change.RowChange.{RowChange}
use Rattle.vet_store.proofs.StartRows.{second_rows}
use Rattle.vet_store.proofs.TakingOver.{may_take_over, took_over}
use Rattle.vet_store.proofs.store.take_over.take_over.Goals as goal
use Rattle.vet_tables.specs.declared.version.TablesVersion.TheVariants.{First}

pub make_tables-requires-clause-fit : goal.make_tables-requires-clause-fit
make_tables-requires-clause-fit g c =
    subst (λ items. (change : RowChange) → IsIn change items → Fits change) (sym c.as_slice.ensures.value)
    c.in_ok-changes.ensures.fit

pub returns-in-Ok-clause-done : goal.returns-in-Ok-clause-done
returns-in-Ok-clause-done g c clean rests was =
    let s = c.args.register.now.state in
    let rows : all_changed c.as_slice.result.now (rows_by First s) ≡ rows_of s =
    ap (λ items. all_changed items (rows_by First s)) (c.as_slice.ensures.value ∙ c.in_ok-changes.ensures.put)
    ∙ second_rows s in
    took_over (state g.S.Store c.args.conn.now) (state g.S.Store c.make_tables.new.conn) s
    (all_changed c.as_slice.result.now) rows rests was (c.in-Ok.ensures.done clean (rows_by First s) rests was)

pub returns-in-Ok-clause-crash : goal.returns-in-Ok-clause-crash
returns-in-Ok-clause-crash g c =
    let s = c.args.register.now.state in
    let rows : all_changed c.as_slice.result.now (rows_by First s) ≡ rows_of s =
    ap (λ items. all_changed items (rows_by First s)) (c.as_slice.ensures.value ∙ c.in_ok-changes.ensures.put)
    ∙ second_rows s in
    may_take_over (state g.S.Store c.args.conn.now) (state g.S.Store c.make_tables.new.conn) s
    (all_changed c.as_slice.result.now) rows c.make_tables.ensures.crash

pub returns-in-Err-Before-clause-crash : goal.returns-in-Err-Before-clause-crash
returns-in-Err-Before-clause-crash g c =
    let s = c.args.register.now.state in
    let rows : all_changed c.as_slice.result.now (rows_by First s) ≡ rows_of s =
    ap (λ items. all_changed items (rows_by First s)) (c.as_slice.ensures.value ∙ c.in_ok-changes.ensures.put)
    ∙ second_rows s in
    may_take_over (state g.S.Store c.args.conn.now) (state g.S.Store c.make_tables.new.conn) s
    (all_changed c.as_slice.result.now) rows c.make_tables.ensures.crash

pub returns-clause-crash : goal.returns-clause-crash
returns-clause-crash g c =
    let s = c.args.register.now.state in
    let rows : all_changed c.as_slice.result.now (rows_by First s) ≡ rows_of s =
    ap (λ items. all_changed items (rows_by First s)) (c.as_slice.ensures.value ∙ c.in_ok-changes.ensures.put)
    ∙ second_rows s in
    may_take_over (state g.S.Store c.args.conn.now) (state g.S.Store c.make_tables.new.conn) s
    (all_changed c.as_slice.result.now) rows c.make_tables.ensures.crash
