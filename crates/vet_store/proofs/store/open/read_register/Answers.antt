use Rattle.std.proofs.Common.{◌≡◌, ◌∙◌, None, Ok, Some, ap, sym}
use Rattle.sqlite.specs.Held.{state}
use Rattle.vet_rows.specs.RowsOf.{rows_by}
use Rattle.vet_store.proofs.Opening.{if_answered, none_found, none_stored, some_found, told_stored}
use Rattle.vet_store.proofs.Tying.{holds_first_also}
use Rattle.vet_store.proofs.store.open.read_register.Goals as goal
use Rattle.vet_store.specs.Stands.{HoldsIn}
use Rattle.vet_tables.specs.Cells.{SameRows, rows_in}
use Rattle.vet_tables.specs.Versions.{table_count}

pub returns-in_err-rows-clause-none : goal.returns-in_err-rows-clause-none
returns-in_err-rows-clause-none g c clean _ =
    let none : c.in-Ok.found ≡ None = none_found c.in-Ok.found c.in_err-rows.field-0.0
    (sym c.found_register.ensures ∙ c.in_err-rows.was) in
    none_stored c.args.version (state g.S.Store c.args.conn.now).now c.requires.tables
    (c.in-Ok.ensures.none clean (ap Ok none))

pub returns-clause-found : goal.returns-clause-found
returns-clause-found g c clean =
    let version = c.args.version in
    let db = (state g.S.Store c.args.conn.now).now in
    let rows = c.in_ok-rows.rows in
    let some : c.in-Ok.found ≡ Some rows = some_found c.in-Ok.found rows (sym c.found_register.ensures
    ∙ c.in_ok-rows.was) in
    let holds : HoldsIn version db (rows_in rows) = rw some at (c.in-Ok.ensures.found clean) in
    if_answered c.register_of.result (λ r. SameRows (rows_in rows) (rows_by version r.state))
    (λ r. HoldsIn version db (rows_by version r.state))
    (λ r same. holds_first_also (table_count version) db (rows_in rows) (rows_by version r.state) same holds)
    c.register_of.ensures.found

pub returns-clause-only : goal.returns-clause-only
returns-clause-only g c clean =
    let version = c.args.version in
    let db = (state g.S.Store c.args.conn.now).now in
    let rows = c.in_ok-rows.rows in
    let some : c.in-Ok.found ≡ Some rows = some_found c.in-Ok.found rows (sym c.found_register.ensures
    ∙ c.in_ok-rows.was) in
    let holds : HoldsIn version db (rows_in rows) = rw some at (c.in-Ok.ensures.found clean) in
    if_answered c.register_of.result _ _ (λ r only t h. only t (told_stored version db (rows_in rows) holds t h))
    c.register_of.ensures.only

pub returns-clause-none : goal.returns-clause-none
returns-clause-none g c clean is t h =
    let version = c.args.version in
    let db = (state g.S.Store c.args.conn.now).now in
    let rows = c.in_ok-rows.rows in
    let some : c.in-Ok.found ≡ Some rows = some_found c.in-Ok.found rows (sym c.found_register.ensures
    ∙ c.in_ok-rows.was) in
    let holds : HoldsIn version db (rows_in rows) = rw some at (c.in-Ok.ensures.found clean) in
    c.register_of.ensures.none is t (told_stored version db (rows_in rows) holds t h)
