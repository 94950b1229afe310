use Rattle.std.proofs.Common.{◌≡◌, [], drop, false, List, map}
use Rattle.sqlite.specs.Given.{HasGiven}
use Rattle.sqlite.specs.Held.{state}
use Rattle.sqlite.specs.State.{HasCleanDisk, IsUnchanged, Survives}
use Rattle.sqlite_value.specs.Order.{Row as Cells}
use Rattle.vet_tables.proofs.Readings.{Rise}
use Rattle.vet_tables.proofs.Rising.{ids_above}
use Rattle.vet_store.proofs.read_table.read_table.Given as goal
use Rattle.vet_tables.specs.Cells.{values_of}
use Rattle.vet_tables.specs.Forms.{form_of}
use Rattle.vet_tables.specs.Texts.{select_text}

abbrev pub invariant-rows : goal.invariant-rows
invariant-rows g l =
    let old = state g.S.Store l.fn.conn in
    let now = state g.S.Store l.found.conn.now in
    (l.found.conn.ghost_name ≡ l.initial.found.conn.ghost_name) × Survives old now (λ _. ⊥)
    × (HasCleanDisk now
    → (given : List Cells) × HasGiven g.S.Store (select_text (form_of l.fn.table)) [] l.found.conn.now given
    × IsUnchanged old now
    × (map (drop 1) given ≡ map values_of l.rows.items) × Rise l.last given)
    × (l.fn.conn.in_transaction ≡ false → l.found.conn.now.in_transaction ≡ false)

-- the rowids rise
abbrev pub decreases-rows : goal.decreases-rows
decreases-rows g l = ids_above l.last
