use Rattle.std.proofs.Common.{inl}
use Rattle.csv.specs.Records.{fields_of}
use Rattle.vet_demand.proofs.ReadingLemmas.{RowsSoFar-next, RowsSoFar-none, found_end, found_more, handed_on}
use Rattle.vet_demand.proofs.ReadingLemmas.{memory_wanting, told_all, told_end, told_refused}
use Rattle.vet_demand.proofs.table_reader.read_rows.Goals as goal

pub rows-init : goal.rows-init
rows-init c = RowsSoFar-none c.args.reader.now c.args.most c.args.table.now

pub returns-in_err-found : goal.returns-in_err-found
returns-in_err-found c = λ rows left.
    handed_on _ _ _ c.in_err-found.field-0.0 c.from_residual.ensures.1
    (inl (memory_wanting c.args.reader.now c.args.most c.args.table.now c.rows.turn c.rows.reader c.rows.table
    c.in_err-found.field-0.0 c.rows.invariant c.in_err-found.ensures.memory rows left))

pub returns-then-not-found : goal.returns-then-not-found
returns-then-not-found c =
    told_end c.args.reader.now c.args.most c.args.table.now c.rows.turn c.rows.reader c.next_row.new.reader
    c.rows.table (fields_of c.next_row.new.row) c.rows.invariant
    (found_end c.rows.reader c.next_row.new.reader c.in_ok-found.found (fields_of c.next_row.new.row)
    c.in_ok-found.ensures.first c.if-not-found.true) c.rows-test.true

pub returns-in_err-read_row : goal.returns-in_err-read_row
returns-in_err-read_row c = λ rows left.
    let found = found_more c.rows.reader c.next_row.new.reader c.in_ok-found.found (fields_of c.next_row.new.row)
    c.in_ok-found.ensures.first c.if-not-found.false in
    handed_on _ _ _ c.in_err-read_row.field-0.0 c.from_residual-in_err-read_row.ensures.1
    (told_refused c.args.reader.now c.args.most c.args.table.now c.rows.turn c.rows.reader c.next_row.new.reader
    c.rows.table (fields_of c.next_row.new.row) c.in_err-read_row.field-0.0 c.rows.invariant
    found c.rows-test.true c.in_err-read_row.ensures rows left)

pub rows-preserved : goal.rows-preserved
rows-preserved c =
    let found = found_more c.rows.reader c.next_row.new.reader c.in_ok-found.found (fields_of c.next_row.new.row)
    c.in_ok-found.ensures.first c.if-not-found.false in
    RowsSoFar-next c.args.reader.now c.args.most c.args.table.now c.rows.turn c.rows.reader c.next_row.new.reader
    c.rows.table c.read_row.new.table (fields_of c.next_row.new.row) c.rows.invariant
    found c.rows-test.true c.in_ok-read_row.ensures

pub returns : goal.returns
returns c = told_all c.args.reader.now c.args.most c.args.table.now c.rows.turn c.rows.reader c.rows.table
    c.rows.invariant c.rows-test.false
