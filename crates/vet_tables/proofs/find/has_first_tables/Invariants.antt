use Rattle.std.proofs.Common.{◌<◌}
use Rattle.vet_tables.proofs.find.has_first_tables.Given as goal
use Rattle.vet_tables.specs.Forms.{code, form_of}
use Rattle.vet_tables.specs.Has.{HasTable}
use Rattle.vet_tables.specs.declared.table_name.TableName.{TableName}

abbrev pub invariant-tables : goal.invariant-tables
invariant-tables l = (n : TableName) → code n < l.at → HasTable l.schema (form_of n)
