-- The names so far.
use Rattle.std.proofs.Common.{◌≡◌, ◌++◌, take}
use Rattle.std.specs.Prelude.{string_bytes}
use Rattle.vet_reports.specs.Columns.{others_text}
use Rattle.vet_reports.proofs.columns.push_others.Given as goal

abbrev pub invariant-names : goal.invariant-names
invariant-names l = string_bytes l.text ≡ string_bytes l.fn.text ++ others_text (take l.name-index l.names)
