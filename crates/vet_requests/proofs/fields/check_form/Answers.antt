-- Where there is no field of the name, nothing is refused for it.
use Rattle.std.proofs.Common.{rules, ◌≡◌, [], codes, map, false, refl}
use Rattle.std.specs.Str.{bytes_eq}
use Rattle.httparse.specs.Spans.{header_bytes}
use Rattle.vet_requests.specs.Fields.{values_of}
use Rattle.vet_requests.proofs.OccurrenceLemmas.{none_of_absent}
use Rattle.vet_requests.proofs.fields.check_form.Goals as goal

pub returns-in-Absent : goal.returns-in-Absent
returns-in-Absent c =
    let bytes = c.args.bytes.now in
    let values = values_of (codes "transfer-encoding") (map (header_bytes bytes) c.args.fields.now) in
    let none : values ≡ [] = none_of_absent bytes values c.find_field.result c.find_field.ensures c.in-Absent.is in
    let other : bytes_eq c.args.method.now (codes "HEAD") ≡ false = search (rules, c.if-eq.ensures) in
    rw none (rw other refl)
