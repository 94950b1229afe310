use Rattle.std.proofs.Common.{sym}
use Rattle.std.proofs.lemmas.List.{length-take-le}
use Rattle.vet_store.proofs.RowStatements.{key_cells_are, wide_enough}
use Rattle.vet_store.proofs.statements.key_cells.Goals as goal
use Rattle.vet_tables.specs.Forms.{form_of}

pub slice_bounds-result-end : goal.slice_bounds-result-end
slice_bounds-result-end c =
    let within = wide_enough c.args.table c.requires.0 c.args.cells.now c.requires.1 in
    rw (c.key.ensures, c.form.ensures) (sym (length-take-le (form_of c.args.table).key c.args.cells.now within))

pub returns : goal.returns
returns c row tells =
    rw (c.key.ensures, c.form.ensures) (key_cells_are c.args.table row c.args.cells.now tells)
