use Rattle.std.proofs.Common.{◌<◌, ◌≤◌}
use Rattle.vet_tables.proofs.find.has_name_taken.Given as goal
use Rattle.vet_tables.specs.Forms.{code, form_of}
use Rattle.vet_tables.specs.Free.{IsFree}
use Rattle.vet_tables.specs.declared.table_name.TableName.{TableName}

abbrev pub invariant-tables : goal.invariant-tables
invariant-tables l = record {
  begun : l.first ≤ l.at;
  free : (n : TableName) → code n < l.at → l.first ≤ code n → IsFree l.schema (form_of n).name;
}
