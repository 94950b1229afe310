use Rattle.std.proofs.Common.{◌≡◌, ◌∙◌, not, ap, subst, sym}
use Rattle.sqlite.specs.Held.{state}
use Rattle.vet_base.specs.Items.{IsIn}
use Rattle.vet_rows.specs.FitChanges.{Fits}
use Rattle.vet_rows.specs.RowChanges.{all_changed}
use Rattle.vet_rows.specs.RowsOf.{rows_of}
use Rattle.vet_rows.specs.declared.row_change.RowChange.{RowChange}
use Rattle.vet_store.proofs.Making.{holds_none, spares_all, survives_made}
use Rattle.vet_store.specs.Stands.{Stands}
use Rattle.vet_tables.specs.Cells.{no_rows}
use Rattle.vet_tables.specs.Read.{Rests}
use Rattle.vet_store.proofs.store.create.write_start.Goals as goal

pub make_tables-requires-clause-fit : goal.make_tables-requires-clause-fit
make_tables-requires-clause-fit g c =
    subst (λ items. (change : RowChange) → IsIn change items → Fits change) (sym c.as_slice.ensures.value)
    c.in_ok-changes.ensures.fit

pub returns-in-Ok-clause-done : goal.returns-in-Ok-clause-done
returns-in-Ok-clause-done g c clean =
    let serves = c.in-Ok.ensures.opens clean in
    let rests : Rests (state g.S.Store c.args.conn.now) = record {
      is_open = serves;
      autocommit = c.requires.autocommit;
      settled = c.is_autocommit-rests.ensures.settled
          (c.is_autocommit-rests.ensures.value ∙ ap not c.requires.autocommit) serves;
    } in
    let old = (state g.S.Store c.args.conn.now).now in
    let got = c.in-Ok.ensures.done clean no_rows rests
    (holds_none old (c.schema-live.ensures.live serves).0 c.requires.free) in
    let rows : all_changed c.as_slice.result.now no_rows ≡ rows_of c.args.register.now.state =
    ap (λ items. all_changed items no_rows) c.as_slice.ensures.value ∙ c.in_ok-changes.ensures.ok in (
      subst (λ r. Stands (state g.S.Store c.make_tables.new.conn) r) rows got.0,
      spares_all old (state g.S.Store c.make_tables.new.conn).now c.requires.free got.1,
    )

pub returns-in-Ok-clause-crash : goal.returns-in-Ok-clause-crash
returns-in-Ok-clause-crash g c =
    let old = state g.S.Store c.args.conn.now in
    let rows : all_changed c.as_slice.result.now no_rows ≡ rows_of c.args.register.now.state =
    ap (λ items. all_changed items no_rows) c.as_slice.ensures.value ∙ c.in_ok-changes.ensures.ok in
    survives_made old (state g.S.Store c.make_tables.new.conn) (all_changed c.as_slice.result.now)
    (rows_of c.args.register.now.state) rows c.schema-live.ensures.live c.make_tables.ensures.crash

pub returns-in-Err-Before-clause-crash : goal.returns-in-Err-Before-clause-crash
returns-in-Err-Before-clause-crash g c =
    let old = state g.S.Store c.args.conn.now in
    let rows : all_changed c.as_slice.result.now no_rows ≡ rows_of c.args.register.now.state =
    ap (λ items. all_changed items no_rows) c.as_slice.ensures.value ∙ c.in_ok-changes.ensures.ok in
    survives_made old (state g.S.Store c.make_tables.new.conn) (all_changed c.as_slice.result.now)
    (rows_of c.args.register.now.state) rows c.schema-live.ensures.live c.make_tables.ensures.crash

pub returns-clause-crash : goal.returns-clause-crash
returns-clause-crash g c =
    let old = state g.S.Store c.args.conn.now in
    let rows : all_changed c.as_slice.result.now no_rows ≡ rows_of c.args.register.now.state =
    ap (λ items. all_changed items no_rows) c.as_slice.ensures.value ∙ c.in_ok-changes.ensures.ok in
    survives_made old (state g.S.Store c.make_tables.new.conn) (all_changed c.as_slice.result.now)
    (rows_of c.args.register.now.state) rows c.schema-live.ensures.live c.make_tables.ensures.crash
