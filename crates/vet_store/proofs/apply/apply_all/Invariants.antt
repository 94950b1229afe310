use Rattle.std.proofs.Common.{◌≡◌, ◌⊎◌, IsTrue, take}
use Rattle.sqlite.specs.Held.{state}
use Rattle.sqlite.specs.State.{HasCleanDisk, KeepsCommit, Survives}
use Rattle.vet_rows.specs.RowChanges.{all_changed}
use Rattle.vet_store.proofs.apply.apply_all.Given as goal
use Rattle.vet_store.specs.Changes.{Changes}

abbrev pub invariant-loop-change : goal.invariant-loop-change
invariant-loop-change g l = record {
  same_reference : l.tx.conn.ghost_name ≡ l.fn.tx.conn.ghost_name;
  kept : HasCleanDisk (state g.S.Store l.tx.conn.now)
      → KeepsCommit (state g.S.Store l.fn.tx.conn.now) (state g.S.Store l.tx.conn.now);
  survives : Survives (state g.S.Store l.fn.tx.conn.now) (state g.S.Store l.tx.conn.now) (λ _. ⊥);
  changes : HasCleanDisk (state g.S.Store l.tx.conn.now) → IsTrue (state g.S.Store l.fn.tx.conn.now).is_open
      → IsTrue l.fn.tx.conn.now.in_transaction
      → Changes (state g.S.Store l.fn.tx.conn.now) (state g.S.Store l.tx.conn.now)
      (all_changed (take l.change-index l.changes));
  opens : HasCleanDisk (state g.S.Store l.tx.conn.now) → IsTrue l.fn.tx.conn.now.in_transaction
      → ((l.change-index ≡ 0) × (l.tx.conn.now ≡ l.fn.tx.conn.now)) ⊎ IsTrue (state g.S.Store l.fn.tx.conn.now).is_open;
}
