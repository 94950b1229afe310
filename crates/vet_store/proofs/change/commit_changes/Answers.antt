use Rattle.std.proofs.Common.{◌≡◌, ◌⊎◌, [], IsTrue, arith, inr, refl, rules, subst}
use Rattle.sqlite.specs.Held.{state}
use Rattle.sqlite.specs.State.{HasCleanDisk, Survives}
use Rattle.vet_rows.specs.RowChanges.{all_changed}
use Rattle.vet_store.proofs.Steps.{committed, crash_after, others_committed, others_same}
use Rattle.vet_store.proofs.Steps.{stands_still, uncommitted, undone}
use Rattle.vet_store.proofs.change.commit_changes.Goals as goal
use Rattle.vet_tables.specs.Cells.{RowsValue}
use Rattle.vet_tables.specs.Contents.{KeepsOthers}
use Rattle.vet_store.specs.Committed.{IsAfter}
use Rattle.vet_store.specs.Stands.{Stands}

pub returns-in-Err-clause-kept : goal.returns-in-Err-clause-kept
returns-in-Err-clause-kept g c =
    let old = state g.S.Store c.args.conn.now in
    let end = c.rollback.new.self.0 in
    let begun = c.transaction-tx.ensures.begun in
    let same : end ≡ c.conn-1.given.0 = search rules in
    subst (λ h. HasCleanDisk (state g.S.Store h) → IsTrue (state g.S.Store h).is_open → (rows : RowsValue)
    → Stands old rows → Stands (state g.S.Store h) rows) same (λ clean serves.
    let early : HasCleanDisk (state g.S.Store c.apply_all.new.tx.conn.now) =
    omega (arith, c.rollback.ensures.survives.clean) in
    stands_still old (state g.S.Store end) (undone g.S.Store c.args.conn.now c.apply_all.new.tx.conn.now end
    (rw begun at (c.apply_all.ensures.kept early)) (c.rollback.ensures.undone clean) serves))

pub returns-in-Ok-clause-done : goal.returns-in-Ok-clause-done
returns-in-Ok-clause-done g c =
    let old = state g.S.Store c.args.conn.now in
    let mid = c.apply_all.new.tx.conn.now in
    let end = c.commit.new.self.0 in
    let begun = c.transaction-tx.ensures.begun in
    let same : end ≡ c.conn-2-1.given.0 = search rules in
    subst (λ h. HasCleanDisk (state g.S.Store h) → (rows : RowsValue) → Stands old rows
    → Stands (state g.S.Store h) (all_changed c.args.changes.now rows)) same (λ clean.
    let early : HasCleanDisk (state g.S.Store mid) = omega (arith, c.commit.ensures.survives.clean) in
    committed g.S.Store c.args.conn.now mid end c.args.changes.now
    (λ clean serves. rw begun at (c.in_default.ensures.changes clean (rw begun serves) (rw begun refl))) early
    (c.in-Ok.ensures.ok clean).1)

pub returns-in-Err-commit-clause-kept : goal.returns-in-Err-commit-clause-kept
returns-in-Err-commit-clause-kept g c =
    let old = state g.S.Store c.args.conn.now in
    let mid = c.apply_all.new.tx.conn.now in
    let end = c.commit.new.self.0 in
    let begun = c.transaction-tx.ensures.begun in
    let same : end ≡ c.conn-2-1.given.0 = search rules in
    subst (λ h. HasCleanDisk (state g.S.Store h) → IsTrue (state g.S.Store h).is_open → (rows : RowsValue)
    → Stands old rows → Stands (state g.S.Store h) rows) same (λ clean serves.
    let early : HasCleanDisk (state g.S.Store mid) = omega (arith, c.commit.ensures.survives.clean) in
    stands_still old (state g.S.Store end) (uncommitted g.S.Store c.args.conn.now mid end c.in-Err-commit.error
    (rw begun at (c.apply_all.ensures.kept early))
    (λ live. (c.in_default.ensures.changes early (rw begun live) (rw begun refl)).inside)
    (c.in-Err-commit.ensures.err clean) serves))

pub returns-in-Ok-clause-crash : goal.returns-in-Ok-clause-crash
returns-in-Ok-clause-crash g c =
    let begun = c.transaction-tx.ensures.begun in
    let whole =
    crash_after g.S.Store c.args.conn.now c.apply_all.new.tx.conn.now c.commit.new.self.0 c.args.changes.now
    (rw begun at c.apply_all.ensures.survives)
    (λ clean serves. rw begun at (c.in_default.ensures.changes clean (rw begun serves) (rw begun refl)))
    c.commit.ensures.survives in
    let same : c.commit.new.self.0 ≡ c.conn-2-1.given.0 = search rules in
    subst (λ h. Survives (state g.S.Store c.args.conn.now) (state g.S.Store h)
    (IsAfter (state g.S.Store c.args.conn.now) (all_changed c.args.changes.now))) same whole

pub returns-in-Err-commit-clause-crash : goal.returns-in-Err-commit-clause-crash
returns-in-Err-commit-clause-crash g c =
    let begun = c.transaction-tx.ensures.begun in
    let whole =
    crash_after g.S.Store c.args.conn.now c.apply_all.new.tx.conn.now c.commit.new.self.0 c.args.changes.now
    (rw begun at c.apply_all.ensures.survives)
    (λ clean serves. rw begun at (c.in_default.ensures.changes clean (rw begun serves) (rw begun refl)))
    c.commit.ensures.survives in
    let same : c.commit.new.self.0 ≡ c.conn-2-1.given.0 = search rules in
    subst (λ h. Survives (state g.S.Store c.args.conn.now) (state g.S.Store h)
    (IsAfter (state g.S.Store c.args.conn.now) (all_changed c.args.changes.now))) same whole

pub returns-in-Ok-clause-opens : goal.returns-in-Ok-clause-opens
returns-in-Ok-clause-opens g c =
    let old = state g.S.Store c.args.conn.now in
    let end = c.commit.new.self.0 in
    let begun = c.transaction-tx.ensures.begun in
    let same : end ≡ c.conn-2-1.given.0 = search rules in
    subst (λ h. HasCleanDisk (state g.S.Store h) → IsTrue old.is_open) same (λ clean.
    let mid = c.apply_all.new.tx.conn.now in
    let early : HasCleanDisk (state g.S.Store mid) = omega (arith, c.commit.ensures.survives.clean) in
    let kept = rw begun at (c.apply_all.ensures.kept early) in
    kept.was_open (c.in-Ok.ensures.ok clean).1.was_open)

pub returns-in-Err-commit-clause-reaches : goal.returns-in-Err-commit-clause-reaches
returns-in-Err-commit-clause-reaches g c =
    let old = state g.S.Store c.args.conn.now in
    let end = c.commit.new.self.0 in
    let begun = c.transaction-tx.ensures.begun in
    let same : end ≡ c.conn-2-1.given.0 = search rules in
    subst (λ h. HasCleanDisk (state g.S.Store h) → ⊥ ⊎ ((c.args.changes.now ≡ []) ⊎ IsTrue old.is_open)) same (λ clean.
    let early : HasCleanDisk (state g.S.Store c.apply_all.new.tx.conn.now) =
    omega (arith, c.commit.ensures.survives.clean) in
    inr (rw begun at (c.in_default.ensures.opens early (rw begun refl))))

-- ---- other tables

pub returns-in-Err-clause-others : goal.returns-in-Err-clause-others
returns-in-Err-clause-others g c =
    let old = state g.S.Store c.args.conn.now in
    let end = c.rollback.new.self.0 in
    let begun = c.transaction-tx.ensures.begun in
    let same : end ≡ c.conn-1.given.0 = search rules in
    subst (λ h. HasCleanDisk (state g.S.Store h) → IsTrue (state g.S.Store h).is_open → (rows : RowsValue)
    → Stands old rows → KeepsOthers old.now (state g.S.Store h).now) same (λ clean serves rows stands.
    let early : HasCleanDisk (state g.S.Store c.apply_all.new.tx.conn.now) =
    omega (arith, c.rollback.ensures.survives.clean) in
    others_same old.now (state g.S.Store end).now (undone g.S.Store c.args.conn.now c.apply_all.new.tx.conn.now end
    (rw begun at (c.apply_all.ensures.kept early)) (c.rollback.ensures.undone clean) serves stands.rests).1)

pub returns-in-Ok-clause-others : goal.returns-in-Ok-clause-others
returns-in-Ok-clause-others g c =
    let old = state g.S.Store c.args.conn.now in
    let mid = c.apply_all.new.tx.conn.now in
    let end = c.commit.new.self.0 in
    let begun = c.transaction-tx.ensures.begun in
    let same : end ≡ c.conn-2-1.given.0 = search rules in
    subst (λ h. HasCleanDisk (state g.S.Store h) → IsTrue (state g.S.Store h).is_open → (rows : RowsValue)
    → Stands old rows → KeepsOthers old.now (state g.S.Store h).now) same (λ clean serves.
    let early : HasCleanDisk (state g.S.Store mid) = omega (arith, c.commit.ensures.survives.clean) in
    others_committed g.S.Store c.args.conn.now mid end c.args.changes.now
    (λ clean serves. rw begun at (c.in_default.ensures.changes clean (rw begun serves) (rw begun refl))) early
    (c.in-Ok.ensures.ok clean).1)

pub returns-in-Err-commit-clause-others : goal.returns-in-Err-commit-clause-others
returns-in-Err-commit-clause-others g c =
    let old = state g.S.Store c.args.conn.now in
    let mid = c.apply_all.new.tx.conn.now in
    let end = c.commit.new.self.0 in
    let begun = c.transaction-tx.ensures.begun in
    let same : end ≡ c.conn-2-1.given.0 = search rules in
    subst (λ h. HasCleanDisk (state g.S.Store h) → IsTrue (state g.S.Store h).is_open → (rows : RowsValue)
    → Stands old rows → KeepsOthers old.now (state g.S.Store h).now) same (λ clean serves rows stands.
    let early : HasCleanDisk (state g.S.Store mid) = omega (arith, c.commit.ensures.survives.clean) in
    others_same old.now (state g.S.Store end).now (uncommitted g.S.Store c.args.conn.now mid end
    c.in-Err-commit.error (rw begun at (c.apply_all.ensures.kept early))
    (λ live. (c.in_default.ensures.changes early (rw begun live) (rw begun refl)).inside)
    (c.in-Err-commit.ensures.err clean) serves stands.rests).1)
