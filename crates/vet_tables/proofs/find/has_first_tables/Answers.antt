use Rattle.std.proofs.Common.{refl, subst}
use Rattle.vet_tables.proofs.TablePlaces.{up_to}
use Rattle.vet_tables.proofs.find.has_first_tables.Goals as goal
use Rattle.vet_tables.specs.Forms.{form_of}
use Rattle.vet_tables.specs.Has.{HasTable}

pub tables-preserved : goal.tables-preserved
tables-preserved c =
    up_to (λ n. HasTable c.args.schema.now (form_of n)) c.tables.at c.table_at.result c.table_at.ensures
    c.tables.invariant
    (subst (HasTable c.args.schema.now) c.form.ensures (c.has_table.ensures.0 (rw c.if-not-has_table.false refl)))
