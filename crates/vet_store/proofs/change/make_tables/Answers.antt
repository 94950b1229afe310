use Rattle.std.proofs.Common.{◌≡◌, ◌⊎◌, IsTrue, arith, inr, refl, rules, subst}
use Rattle.sqlite.specs.Held.{state}
use Rattle.sqlite.specs.State.{HasCleanDisk, Survives}
use Rattle.vet_rows.specs.RowChanges.{all_changed}
use Rattle.vet_store.proofs.Making.{filled, made_after}
use Rattle.vet_store.proofs.Steps.{uncommitted, undone}
use Rattle.vet_store.proofs.change.make_tables.Goals as goal
use Rattle.vet_store.specs.Made.{IsFilled}
use Rattle.vet_tables.specs.Cells.{RowsValue}
use Rattle.vet_tables.specs.Extends.{AddsTables}
use Rattle.vet_tables.specs.Free.{AreUnusedFrom}
use Rattle.vet_store.specs.Stands.{HoldsFirst, Stands}
use Rattle.vet_tables.specs.Read.{Rests}

pub returns-in-Err-clause-kept : goal.returns-in-Err-clause-kept
returns-in-Err-clause-kept g c =
    let old = state g.S.Store c.args.conn.now in
    let end = c.rollback.new.self.0 in
    let begun = c.transaction-tx.ensures.begun in
    let same : end ≡ c.conn-1.given.0 = search rules in
    subst (λ h. HasCleanDisk (state g.S.Store h) → IsTrue (state g.S.Store h).is_open → Rests old
    → Rests (state g.S.Store h) × ((state g.S.Store h).now ≡ old.now)) same (λ clean serves.
    let early : HasCleanDisk (state g.S.Store c.fill.new.tx.conn.now) =
    omega (arith, c.rollback.ensures.survives.clean) in
    undone g.S.Store c.args.conn.now c.fill.new.tx.conn.now end (rw begun at (c.fill.ensures.kept early))
    (c.rollback.ensures.undone clean) serves)

pub returns-in-Ok-clause-done : goal.returns-in-Ok-clause-done
returns-in-Ok-clause-done g c =
    let old = state g.S.Store c.args.conn.now in
    let mid = c.fill.new.tx.conn.now in
    let end = c.commit.new.self.0 in
    let begun = c.transaction-tx.ensures.begun in
    let change = all_changed c.args.changes.now in
    let same : end ≡ c.conn-2-1.given.0 = search rules in
    subst (λ h. HasCleanDisk (state g.S.Store h) → (rows : RowsValue) → Rests old
    → HoldsFirst c.args.first old.now rows
    → Stands (state g.S.Store h) (change rows) × AddsTables c.args.first old.now (state g.S.Store h).now) same (λ clean.
    let early : HasCleanDisk (state g.S.Store mid) = omega (arith, c.commit.ensures.survives.clean) in
    filled g.S.Store c.args.conn.now mid end c.args.first change (λ clean serves. rw begun at
    (c.in_default.ensures.fills clean (rw begun serves) (rw begun refl))) early (c.in-Ok.ensures.ok clean).1)

pub returns-in-Err-commit-clause-kept : goal.returns-in-Err-commit-clause-kept
returns-in-Err-commit-clause-kept g c =
    let old = state g.S.Store c.args.conn.now in
    let mid = c.fill.new.tx.conn.now in
    let end = c.commit.new.self.0 in
    let begun = c.transaction-tx.ensures.begun in
    let same : end ≡ c.conn-2-1.given.0 = search rules in
    subst (λ h. HasCleanDisk (state g.S.Store h) → IsTrue (state g.S.Store h).is_open → Rests old
    → Rests (state g.S.Store h) × ((state g.S.Store h).now ≡ old.now)) same (λ clean serves.
    let early : HasCleanDisk (state g.S.Store mid) = omega (arith, c.commit.ensures.survives.clean) in
    uncommitted g.S.Store c.args.conn.now mid end c.in-Err-commit.error (rw begun at (c.fill.ensures.kept early))
    (λ live. (c.in_default.ensures.fills early (rw begun live) (rw begun refl)).inside)
    (c.in-Err-commit.ensures.err clean) serves)

pub returns-in-Ok-clause-crash : goal.returns-in-Ok-clause-crash
returns-in-Ok-clause-crash g c =
    let old = state g.S.Store c.args.conn.now in
    let mid = c.fill.new.tx.conn.now in
    let end = c.commit.new.self.0 in
    let begun = c.transaction-tx.ensures.begun in
    let change = all_changed c.args.changes.now in
    let whole = made_after g.S.Store c.args.conn.now mid end c.args.first change
    (λ clean serves. rw begun at (c.in_default.ensures.fills clean (rw begun serves) (rw begun refl)))
    (rw begun at c.fill.ensures.survives) c.commit.ensures.survives in
    let same : end ≡ c.conn-2-1.given.0 = search rules in
    subst (λ h. Survives old (state g.S.Store h) (IsFilled c.args.first old change)) same whole

pub returns-in-Err-commit-clause-crash : goal.returns-in-Err-commit-clause-crash
returns-in-Err-commit-clause-crash g c =
    let old = state g.S.Store c.args.conn.now in
    let mid = c.fill.new.tx.conn.now in
    let end = c.commit.new.self.0 in
    let begun = c.transaction-tx.ensures.begun in
    let change = all_changed c.args.changes.now in
    let whole = made_after g.S.Store c.args.conn.now mid end c.args.first change
    (λ clean serves. rw begun at (c.in_default.ensures.fills clean (rw begun serves) (rw begun refl)))
    (rw begun at c.fill.ensures.survives) c.commit.ensures.survives in
    let same : end ≡ c.conn-2-1.given.0 = search rules in
    subst (λ h. Survives old (state g.S.Store h) (IsFilled c.args.first old change)) same whole

pub returns-in-Ok-clause-opens : goal.returns-in-Ok-clause-opens
returns-in-Ok-clause-opens g c =
    let old = state g.S.Store c.args.conn.now in
    let end = c.commit.new.self.0 in
    let begun = c.transaction-tx.ensures.begun in
    let same : end ≡ c.conn-2-1.given.0 = search rules in
    subst (λ h. HasCleanDisk (state g.S.Store h) → IsTrue old.is_open) same (λ clean.
    let mid = c.fill.new.tx.conn.now in
    let early : HasCleanDisk (state g.S.Store mid) = omega (arith, c.commit.ensures.survives.clean) in
    let kept = rw begun at (c.fill.ensures.kept early) in
    kept.was_open (c.in-Ok.ensures.ok clean).1.was_open)

pub returns-in-Ok-clause-unused : goal.returns-in-Ok-clause-unused
returns-in-Ok-clause-unused g c =
    let old = state g.S.Store c.args.conn.now in
    let end = c.commit.new.self.0 in
    let begun = c.transaction-tx.ensures.begun in
    let same : end ≡ c.conn-2-1.given.0 = search rules in
    subst (λ h. HasCleanDisk (state g.S.Store h) → AreUnusedFrom c.args.first old.now.schema) same (λ clean.
    let early : HasCleanDisk (state g.S.Store c.fill.new.tx.conn.now) =
    omega (arith, c.commit.ensures.survives.clean) in
    let kept = rw begun at (c.fill.ensures.kept early) in
    let serves = kept.was_open (c.in-Ok.ensures.ok clean).1.was_open in
    (rw begun at (c.in_default.ensures.fills early (rw begun serves) (rw begun refl))).unused)

pub returns-in-Err-commit-clause-reaches : goal.returns-in-Err-commit-clause-reaches
returns-in-Err-commit-clause-reaches g c =
    let old = state g.S.Store c.args.conn.now in
    let end = c.commit.new.self.0 in
    let begun = c.transaction-tx.ensures.begun in
    let same : end ≡ c.conn-2-1.given.0 = search rules in
    subst (λ h. HasCleanDisk (state g.S.Store h) → ⊥ ⊎ IsTrue old.is_open) same (λ clean.
    let early : HasCleanDisk (state g.S.Store c.fill.new.tx.conn.now) =
    omega (arith, c.commit.ensures.survives.clean) in
    inr (rw begun at (c.in_default.ensures.opens early (rw begun refl))))
