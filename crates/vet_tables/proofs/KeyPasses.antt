-- The test of a DELETE passes the rows of its key.
use Rattle.std.proofs.Common.{◌≡◌, refl}
use Rattle.vet_tables.proofs.TablePlaces.{each}
use Rattle.sqlite_value.specs.Order.{Row as Cells}
use Rattle.vet_tables.proofs.Answered.{passes}
use Rattle.vet_tables.proofs.Shapes.{key_tests}
use Rattle.vet_tables.specs.Form.{shown}
use Rattle.vet_tables.specs.Forms.{form_of}
use Rattle.vet_tables.specs.Keyed.{is_keyed}
use Rattle.vet_tables.specs.declared.table_name.TableName.{TableName}

pub passes_keyed : (n : TableName) (key r : Cells)
    → passes (key_tests (form_of n)) key r ≡ is_keyed (form_of n) key (shown (form_of n) r)
passes_keyed n key r =
    each (λ n. passes (key_tests (form_of n)) key r ≡ is_keyed (form_of n) key (shown (form_of n) r))
    (assumption refl) n
