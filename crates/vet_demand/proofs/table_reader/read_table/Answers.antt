use Rattle.std.proofs.Common.{◌≡◌, ◌∙◌, false, sym, inl, inr, refl}
use Rattle.std.specs.Prelude.{◌&&◌}
use Rattle.csv.specs.Records.{fields_of}
use Rattle.vet_demand.specs.DependencyRecord.{is_header}
use Rattle.vet_demand.proofs.ReadingLemmas.{found_more, handed_on, no_header, told_alike, under_header}
use Rattle.vet_demand.proofs.table_reader.read_table.Goals.{then-not-found-via-then-not-found}
use Rattle.vet_demand.proofs.table_reader.read_table.Goals.{then-not-found-via-else-not-found+then-not-is_header}
use Rattle.vet_demand.proofs.table_reader.read_table.Goals as goal

pub returns-in_err-found : goal.returns-in_err-found
returns-in_err-found c = λ rows left.
    handed_on _ _ _ c.in_err-found.field-0.0 c.from_residual.ensures.1 (inl (c.in_err-found.ensures.memory _ rows left))

pub returns-then-not-found : goal.returns-then-not-found
returns-then-not-found c = λ rows left.
    let fields = fields_of c.next_row.new.row in
    inr (no_header c.args.reader.now c.next_row.new.reader c.in_ok-found.found fields c.args.most
    c.in_ok-found.ensures.first
    (elim c.then-not-found.branch as (λ _. (c.in_ok-found.found && is_header fields) ≡ false) [
      | then-not-found-via-then-not-found w ↦ rw w.if-not-found.true refl
      | then-not-found-via-else-not-found+then-not-is_header w ↦
          rw w.if-not-found.false (sym w.is_header.ensures ∙ w.if-not-is_header.true)
    ]) rows left)

pub returns-in_err-read_rows : goal.returns-in_err-read_rows
returns-in_err-read_rows c = λ rows left.
    let found = found_more c.args.reader.now c.next_row.new.reader c.in_ok-found.found
    (fields_of c.next_row.new.row) c.in_ok-found.ensures.first c.if-not-found.false in
    let (rest, held, told) = under_header c.args.reader.now c.next_row.new.reader (fields_of c.next_row.new.row)
    c.args.most found (sym c.if-not-is_header.ensures) rows left in
    handed_on _ _ _ c.in_err-read_rows.field-0.0 c.from_residual-in_err-read_rows.ensures.1
    (told_alike _ _ c.in_err-read_rows.field-0.0 told
    (rw c.new-table.ensures at (c.in_err-read_rows.ensures rest held)))

pub returns : goal.returns
returns c = λ rows left.
    let found = found_more c.args.reader.now c.next_row.new.reader c.in_ok-found.found
    (fields_of c.next_row.new.row) c.in_ok-found.ensures.first c.if-not-found.false in
    let (rest, held, told) = under_header c.args.reader.now c.next_row.new.reader (fields_of c.next_row.new.row)
    c.args.most found (sym c.if-not-is_header.ensures) rows left in
    told ∙ (rw c.new-table.ensures at (c.in_ok-read_rows.ensures rest held))
