-- The columns that were compared.
use Rattle.vet_tables.proofs.FormColumns.{Agree}
use Rattle.vet_tables.proofs.has_form.has_columns.Given as goal

abbrev pub invariant-places : goal.invariant-places
invariant-places l = Agree l.fn.form.columns l.columns l.at
