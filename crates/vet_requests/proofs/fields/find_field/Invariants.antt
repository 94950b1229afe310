-- What was found in the fields so far.
use Rattle.std.proofs.Common.{take, map}
use Rattle.httparse.specs.Spans.{header_bytes}
use Rattle.vet_requests.specs.Fields.{IsOccurrence, values_of}
use Rattle.vet_requests.proofs.fields.find_field.Given as goal

abbrev pub invariant-fields : goal.invariant-fields
invariant-fields l =
    IsOccurrence l.bytes (values_of l.name (map (header_bytes l.bytes) (take l.field-index l.fields))) l.found
