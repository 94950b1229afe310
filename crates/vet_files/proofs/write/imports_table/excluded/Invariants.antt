use Rattle.std.proofs.Common.{◌≡◌, drop}
use Rattle.vet_files.specs.ImportsTable.{excluded_of}
use Rattle.vet_files.proofs.write.imports_table.excluded.Given as goal

abbrev pub invariant-peers : goal.invariant-peers
invariant-peers l = excluded_of (drop l.peer-index l.settings) l.name ≡ excluded_of l.settings l.name
