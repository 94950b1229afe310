use Rattle.std.proofs.Common.{List, arith, sym, append-nil, append_assoc, ℕ}
use Rattle.std.specs.Prelude.{string_bytes}
use Rattle.vet_reports.proofs.CsvLemmas.{none_escaped, escaped_further}
use Rattle.vet_reports.proofs.standing_csv.push_escaped.Goals as goal

pub field-init : goal.field-init
field-init c = rw none_escaped (sym (append-nil (string_bytes c.args.text.now)))

pub field-preserved : goal.field-preserved
field-preserved c =
    let text : List ℕ = string_bytes c.args.text.now in
    let further = escaped_further c.args.field.now c.field.byte-index (omega arith) in
    rw (further, c.in_ok-push_escaped_byte.ensures, c.field.invariant) (append_assoc text _ _)
