-- What stands between the quotes so far.
use Rattle.std.proofs.Common.{◌≡◌, ◌++◌, take}
use Rattle.std.specs.Prelude.{string_bytes}
use Rattle.csv.specs.Writing.{default_writer, escaped}
use Rattle.vet_reports.proofs.standing_csv.push_escaped.Given as goal

abbrev pub invariant-field : goal.invariant-field
invariant-field l = string_bytes l.text ≡ string_bytes l.fn.text ++ escaped default_writer (take l.byte-index l.field)
