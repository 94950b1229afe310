use Rattle.std.proofs.Common.{IsTrue, sym, subst}
use Rattle.sqlite.specs.Held.{state}
use Rattle.sqlite.proofs.StateLemmas.{survives_weaker}
use Rattle.vet_register.specs.Machine.{next}
use Rattle.vet_base.specs.Items.{IsIn}
use Rattle.vet_rows.specs.FitChanges.{Fits}
use Rattle.vet_rows.specs.RowChanges.{all_changed}
use Rattle.vet_rows.specs.RowsOf.{rows_of}
use Rattle.vet_rows.specs.declared.row_change.RowChange.{RowChange}
use Rattle.vet_store.specs.Committed.{IsAfter, IsBefore}
use Rattle.vet_store.specs.Tied.{IsWritten}
use Rattle.vet_store.proofs.Tying.{changes_next, reaches_commit, stands_also, written_next}
use Rattle.vet_store.proofs.store.write.write_change.Goals as goal
use Rattle.vet_tables.specs.Cells.{SameRows}

pub commit_changes-requires-clause-fit : goal.commit_changes-requires-clause-fit
commit_changes-requires-clause-fit g c =
    subst (λ items. (change : RowChange) → IsIn change items → Fits change) (sym c.as_slice.ensures.value)
    c.in_ok-changes.ensures.fit

pub returns-in-Ok-clause-written : goal.returns-in-Ok-clause-written
returns-in-Ok-clause-written g c command prepared clean was =
    let s = c.args.register.now.state in
    let changes = c.as_slice.result.now in
    let same = subst (λ items. SameRows (all_changed items (rows_of s)) (rows_of (next s command)))
    (sym c.as_slice.ensures.value) (c.in_ok-changes.ensures.ok command prepared) in
    stands_also (state g.S.Store c.commit_changes.new.conn) (all_changed changes (rows_of s)) (rows_of (next s command))
    same
    (c.in-Ok.ensures.done clean (rows_of s) was)

pub returns-in-Ok-clause-crash : goal.returns-in-Ok-clause-crash
returns-in-Ok-clause-crash g c command prepared =
    let s = c.args.register.now.state in
    let change = all_changed c.as_slice.result.now in
    let old = state g.S.Store c.args.conn.now in
    let same = subst (λ items. SameRows (all_changed items (rows_of s)) (rows_of (next s command)))
    (sym c.as_slice.ensures.value) (c.in_ok-changes.ensures.ok command prepared) in
    survives_weaker old (state g.S.Store c.commit_changes.new.conn) (IsAfter old change)
    (IsWritten old (rows_of s) (rows_of (next s command)))
    (λ clean trees h. written_next old change (rows_of s) (rows_of (next s command)) same trees h)
    c.commit_changes.ensures.crash

pub returns-in-Err-Before-clause-kept : goal.returns-in-Err-Before-clause-kept
returns-in-Err-Before-clause-kept g c clean serves was =
    c.in-Err-Before.ensures.kept clean serves (rows_of c.args.register.now.state) was

pub returns-clause-kept : goal.returns-clause-kept
returns-clause-kept g c clean serves was =
    c.in-Err-Commit.ensures.kept clean serves (rows_of c.args.register.now.state) was

pub returns-clause-crash : goal.returns-clause-crash
returns-clause-crash g c command prepared =
    let s = c.args.register.now.state in
    let change = all_changed c.as_slice.result.now in
    let old = state g.S.Store c.args.conn.now in
    let same = subst (λ items. SameRows (all_changed items (rows_of s)) (rows_of (next s command)))
    (sym c.as_slice.ensures.value) (c.in_ok-changes.ensures.ok command prepared) in
    survives_weaker old (state g.S.Store c.commit_changes.new.conn) (IsAfter old change)
    (IsWritten old (rows_of s) (rows_of (next s command)))
    (λ clean trees h. written_next old change (rows_of s) (rows_of (next s command)) same trees h)
    c.commit_changes.ensures.crash

pub returns-clause-reaches : goal.returns-clause-reaches
returns-clause-reaches g c clean is =
    let s = c.args.register.now.state in
    let changes = c.as_slice.result.now in
    let command = c.requires.prepared.0 in
    let same = subst (λ items. SameRows (all_changed items (rows_of s)) (rows_of (next s command)))
    (sym c.as_slice.ensures.value) (c.in_ok-changes.ensures.ok command c.requires.prepared.1) in
    reaches_commit changes (IsBefore c.in-Err-Commit.field-0) (IsTrue (state g.S.Store c.args.conn.now).is_open)
    (λ before. subst IsBefore c.in-Err-Commit.field-0-is before) (changes_next s command changes same)
    (c.in-Err-Commit.ensures.reaches clean)

-- ---- other tables

pub returns-in-Ok-clause-others : goal.returns-in-Ok-clause-others
returns-in-Ok-clause-others g c clean serves was =
    c.in-Ok.ensures.others clean serves (rows_of c.args.register.now.state) was

pub returns-in-Err-Before-clause-others : goal.returns-in-Err-Before-clause-others
returns-in-Err-Before-clause-others g c clean serves was =
    c.in-Err-Before.ensures.others clean serves (rows_of c.args.register.now.state) was

pub returns-clause-others : goal.returns-clause-others
returns-clause-others g c clean serves was =
    c.in-Err-Commit.ensures.others clean serves (rows_of c.args.register.now.state) was
