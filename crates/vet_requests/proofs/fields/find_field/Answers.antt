-- What one field more adds to what was found.
use Rattle.std.proofs.Common.{rules, ◌≡◌, ◌<◌, ◌+◌, length, take, map, get_or, true, false, subst, sym}
use Rattle.httparse.specs.Spans.{header_bytes}
use Rattle.httparse.specs.declared.spans.TheConstants.{EMPTY_HEADER_SPAN}
use Rattle.vet_requests.specs.Fields.{IsOccurrence, same_name, values_of}
use Rattle.vet_requests.proofs.OccurrenceLemmas.{found_again, found_once, passed}
use Rattle.vet_requests.proofs.fields.find_field.Goals as goal
use Rattle.vet_requests.proofs.fields.find_field.Goals.{then-has_name+in-Absent, else-has_name}

pub returns-in_default : goal.returns-in_default
returns-in_default c =
    found_again c.args.bytes.now c.args.name.now c.args.fields.now c.fields.field-index EMPTY_HEADER_SPAN
    c.fields.found (search rules) (search rules) c.fields.invariant (search rules)

pub fields-preserved : goal.fields-preserved
fields-preserved c =
    let bytes = c.args.bytes.now in
    let name = c.args.name.now in
    let fields = c.args.fields.now in
    let i = c.fields.field-index in
    let found = c.fields.found in
    let within : i < length fields = search rules in
    elim c.if-has_name.branch [
      | then-has_name+in-Absent w ↦
          let same : same_name (header_bytes bytes (get_or fields i EMPTY_HEADER_SPAN)).0 name ≡ true =
          search (rules, sym w.if-has_name.ensures) in
          subst (IsOccurrence bytes (values_of name (map (header_bytes bytes) (take (i + 1) fields)))) (sym w.found-is)
          (found_once bytes name fields i EMPTY_HEADER_SPAN found within same c.fields.invariant w.in-Absent.is
          (c.requires i EMPTY_HEADER_SPAN within).1)
      | else-has_name w ↦
          let same : same_name (header_bytes bytes (get_or fields i EMPTY_HEADER_SPAN)).0 name ≡ false =
          search (rules, sym w.if-has_name.ensures) in
          subst (IsOccurrence bytes (values_of name (map (header_bytes bytes) (take (i + 1) fields)))) (sym w.found-is)
          (passed bytes name fields i EMPTY_HEADER_SPAN found within same c.fields.invariant)
    ]
