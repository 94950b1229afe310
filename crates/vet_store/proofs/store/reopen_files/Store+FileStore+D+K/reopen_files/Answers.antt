use Rattle.std.proofs.Common.{◌∙◌, inl, inr, subst, sym}
use Rattle.std.proofs.lemmas.Bool.{and_from}
use Rattle.sqlite.specs.Closing.{IsCopied}
use Rattle.sqlite.specs.Files.{IsClosed, file_state}
use Rattle.sqlite_store.specs.Laws.{settled_at}
use Rattle.vet_register.specs.Sound.{IsSound}
use Rattle.vet_rows.specs.HeldState.{IsHeldState}
use Rattle.vet_rows.specs.RowsOf.{rows_of}
use Rattle.vet_store.proofs.Found.{stored_again}
use Rattle.vet_store.proofs.Reopening.{back_unchanged, is_back, leaves_again, leaves_shown, none_taken_back}
use Rattle.vet_store.proofs.Reopening.{remains_tied, rests_opened, shows_again}
use Rattle.vet_store.proofs.Tying.{still_clean}
use Rattle.vet_store.proofs.Versions.{in_second}
use Rattle.vet_store.specs.Opened.{IsStored}
use Rattle.vet_store.specs.TakenOver.{IsTakenOver}
use Rattle.vet_store.proofs.store.reopen_files.Store+FileStore+D+K.reopen_files.Goals as goal

-- ---- why

pub returns-in-Err-clause-refused : goal.returns-in-Err-clause-refused
returns-in-Err-clause-refused g c =
    rw (c.refused.ensures.remains, c.refused.ensures.refusal) c.refusal_of.ensures.of_store

pub returns-in-Err-open_files-clause-refused : goal.returns-in-Err-open_files-clause-refused
returns-in-Err-open_files-clause-refused g c =
    rw (c.refused-in-Err-open_files.ensures.remains, c.refused-in-Err-open_files.ensures.refusal)
    c.refusal_of-in-Err-open_files.ensures.of_store

pub returns-in-Ok-open-clause-same : goal.returns-in-Ok-open-clause-same
returns-in-Ok-open-clause-same g c clean =
    let s = c.args.self.register.state in
    let sound : IsSound s = rw c.register-2.ensures at c.facts-sound.ensures.sound in
    let held : IsHeldState s = rw c.register.ensures at c.register_is_held.ensures in
    let again = c.in-Ok-open_files.conn in
    let early = still_clean (file_state again) (file_state c.in-Ok-open.store.conn) (IsTakenOver (file_state again))
    c.in-Ok-open.ensures.crash clean in
    let found = c.in-Ok-open_files.ensures.found early in
    c.in-Ok-open.ensures.only clean s
    (stored_again c.close.result again c.in-Ok.files c.args.self.shut s c.close.ensures.tables sound held
    (c.in-Ok.ensures.copied found.honest) found (c.in-Ok-open_files.ensures.opened early))

pub returns-in-Err-open-clause-refused : goal.returns-in-Err-open-clause-refused
returns-in-Err-open-clause-refused g c =
    let s = c.args.self.register.state in
    let sound : IsSound s = rw c.register-2.ensures at c.facts-sound.ensures.sound in
    let held : IsHeldState s = rw c.register.ensures at c.register_is_held.ensures in
    let again = c.in-Ok-open_files.conn in
    rw (
      c.refused-in-Err-open.ensures.remains,
      c.refused-in-Err-open.ensures.refusal,
      c.into_parts-refusal.ensures.refusal,
      c.into_parts-refusal.ensures.conn,
    ) (
      c.in-Err-open.ensures.refused,
      λ clean serves. elim c.in-Err-open.ensures.refused [
        | inl of_store ↦ of_store
        | inr none ↦
            (let early = still_clean (file_state again) (file_state c.in-Err-open.not_opened.conn)
            (IsTakenOver (file_state again)) c.in-Err-open.ensures.crash clean in
            let found = c.in-Ok-open_files.ensures.found early in
            absurd
            (c.in-Err-open.ensures.none none clean s
            (stored_again c.close.result again c.in-Ok.files c.args.self.shut s c.close.ensures.tables sound held
            (c.in-Ok.ensures.copied found.honest) found (c.in-Ok-open_files.ensures.opened early))))
      ],
    )

-- ---- what is opened

pub returns-in-Ok-open-clause-unchanged : goal.returns-in-Ok-open-clause-unchanged
returns-in-Ok-open-clause-unchanged g c clean =
    let rows = rows_of c.args.self.register.state in
    let again = c.in-Ok-open_files.conn in
    let new = file_state c.in-Ok-open.store.conn in
    let back = is_back c.close.result c.args.self.conn again c.in-Ok.files c.args.self.shut rows new
    c.close.ensures.conn c.close.ensures.tables (λ found. c.in-Ok.ensures.copied found.honest)
    c.in-Ok-open_files.ensures.found c.in-Ok-open_files.ensures.opened c.in-Ok-open.ensures.crash clean in
    shows_again (file_state c.args.self.conn) (file_state again) new rows back
    (rests_opened (file_state again) new back.opened
    (back_unchanged (file_state c.args.self.conn) (file_state again) new rows c.in-Ok-open.store.register.state back
    (c.in-Ok-open.ensures.opened clean)))

pub returns-in-Ok-open-clause-found : goal.returns-in-Ok-open-clause-found
returns-in-Ok-open-clause-found g c clean =
    let rows = rows_of c.args.self.register.state in
    let again = c.in-Ok-open_files.conn in
    let back = is_back c.close.result c.args.self.conn again c.in-Ok.files c.args.self.shut rows
    (file_state c.in-Ok-open.store.conn) c.close.ensures.conn c.close.ensures.tables
    (λ found. c.in-Ok.ensures.copied found.honest) c.in-Ok-open_files.ensures.found c.in-Ok-open_files.ensures.opened
    c.in-Ok-open.ensures.crash clean in
    let register = c.in-Ok-open.store.register.state in
    in_second (file_state c.args.self.conn).now rows back.stands.holds register
    (subst (λ db. IsStored db register) back.shown (c.in-Ok-open.ensures.found clean))

pub returns-in-Ok-open-clause-only : goal.returns-in-Ok-open-clause-only
returns-in-Ok-open-clause-only g c clean t stored =
    let rows = rows_of c.args.self.register.state in
    let again = c.in-Ok-open_files.conn in
    let back = is_back c.close.result c.args.self.conn again c.in-Ok.files c.args.self.shut rows
    (file_state c.in-Ok-open.store.conn) c.close.ensures.conn c.close.ensures.tables
    (λ found. c.in-Ok.ensures.copied found.honest) c.in-Ok-open_files.ensures.found c.in-Ok-open_files.ensures.opened
    c.in-Ok-open.ensures.crash clean in
    c.in-Ok-open.ensures.only clean t (subst (λ db. IsStored db t) (sym back.shown) stored)

pub returns-in-Ok-open-clause-fresh : goal.returns-in-Ok-open-clause-fresh
returns-in-Ok-open-clause-fresh g c clean =
    let rows = rows_of c.args.self.register.state in
    let again = c.in-Ok-open_files.conn in
    let opened = file_state c.in-Ok-open.store.conn in
    let back = is_back c.close.result c.args.self.conn again c.in-Ok.files c.args.self.shut rows opened
    c.close.ensures.conn c.close.ensures.tables (λ found. c.in-Ok.ensures.copied found.honest)
    c.in-Ok-open_files.ensures.found c.in-Ok-open_files.ensures.opened c.in-Ok-open.ensures.crash clean in
    let same = back_unchanged (file_state c.args.self.conn) (file_state again) opened rows
    c.in-Ok-open.store.register.state back (c.in-Ok-open.ensures.opened clean) in
    let new = c.in-Ok-open_files.ensures.fresh in
    record {
      autocommit = c.in-Ok-open.ensures.outside;
      changes = same.1.changes ∙ new.changes;
      last_rowid = same.1.last_rowid ∙ new.last_rowid;
      unlimited = c.in-Ok-open.ensures.crash.limit ∙ new.unlimited;
    }

pub returns-in-Ok-open-clause-guarded : goal.returns-in-Ok-open-clause-guarded
returns-in-Ok-open-clause-guarded g c clean =
    let again = file_state c.in-Ok-open_files.conn in
    let early = still_clean again (file_state c.in-Ok-open.store.conn) (IsTakenOver again)
    c.in-Ok-open.ensures.crash clean in
    c.in-Ok-open.ensures.crash.shield (c.in-Ok-open_files.ensures.guarded early)

pub returns-in-Ok-open-clause-crash : goal.returns-in-Ok-open-clause-crash
returns-in-Ok-open-clause-crash g c =
    let conn = c.in-Ok-open.store.conn in
    leaves_shown (file_state c.args.self.conn) (file_state conn) (settled_at conn.store g.met.D.Disk.seen_may_stay)
    (λ clean. returns-in-Ok-open-clause-unchanged g c clean)

-- ---- what remains: a store that was not closed

pub returns-in-Err-clause-as_before : goal.returns-in-Err-clause-as_before
returns-in-Err-clause-as_before g c = rw c.refused.ensures.remains tt

pub returns-in-Err-clause-lost : goal.returns-in-Err-clause-lost
returns-in-Err-clause-lost g c =
    rw c.refused.ensures.remains
    (subst (λ h. IsClosed h c.in-Err.store) c.close.ensures.conn c.in-Err.ensures.err.0)

pub returns-in-Err-clause-crash : goal.returns-in-Err-clause-crash
returns-in-Err-clause-crash g c = rw c.refused.ensures.remains tt

-- ---- files that were not opened

pub returns-in-Err-open_files-clause-as_before : goal.returns-in-Err-open_files-clause-as_before
returns-in-Err-open_files-clause-as_before g c = rw c.refused-in-Err-open_files.ensures.remains tt

pub returns-in-Err-open_files-clause-lost : goal.returns-in-Err-open_files-clause-lost
returns-in-Err-open_files-clause-lost g c =
    let closed = c.in-Ok.ensures.ok in
    rw c.refused-in-Err-open_files.ensures.remains (record {
      last = closed.0;
      closed = subst (λ h. IsClosed h closed.0) c.close.ensures.conn closed.2;
      files = c.in-Ok.files;
      of_last = closed.1;
      copied = λ log db. subst (λ h. IsCopied h c.in-Ok.files) c.close.ensures.conn
          (c.in-Ok.ensures.copied (and_from _ _ log db));
      kept = c.in-Err-open_files.ensures.unharmed;
    })

pub returns-in-Err-open_files-clause-crash : goal.returns-in-Err-open_files-clause-crash
returns-in-Err-open_files-clause-crash g c = rw c.refused-in-Err-open_files.ensures.remains tt

-- ---- a connection whose register was not read

pub returns-in-Err-open-clause-as_before : goal.returns-in-Err-open-clause-as_before
returns-in-Err-open-clause-as_before g c =
    let rows = rows_of c.args.self.register.state in
    let again = c.in-Ok-open_files.conn in
    let new = file_state c.in-Err-open.not_opened.conn in
    let back = is_back c.close.result c.args.self.conn again c.in-Ok.files c.args.self.shut rows new
    c.close.ensures.conn c.close.ensures.tables (λ found. c.in-Ok.ensures.copied found.honest)
    c.in-Ok-open_files.ensures.found c.in-Ok-open_files.ensures.opened c.in-Err-open.ensures.crash in
    rw (c.refused-in-Err-open.ensures.remains, c.into_parts-refusal.ensures.conn) (λ clean serves.
    shows_again (file_state c.args.self.conn) (file_state again) new rows (back clean)
    (c.in-Err-open.ensures.as_before clean serves))

pub returns-in-Err-open-clause-lost : goal.returns-in-Err-open-clause-lost
returns-in-Err-open-clause-lost g c =
    let s = c.args.self.register.state in
    let sound : IsSound s = rw c.register-2.ensures at c.facts-sound.ensures.sound in
    let held : IsHeldState s = rw c.register.ensures at c.register_is_held.ensures in
    let again = c.in-Ok-open_files.conn in
    let new = file_state c.in-Err-open.not_opened.conn in
    let back = is_back c.close.result c.args.self.conn again c.in-Ok.files c.args.self.shut (rows_of s) new
    c.close.ensures.conn c.close.ensures.tables (λ found. c.in-Ok.ensures.copied found.honest)
    c.in-Ok-open_files.ensures.found c.in-Ok-open_files.ensures.opened c.in-Err-open.ensures.crash in
    rw (c.refused-in-Err-open.ensures.remains, c.into_parts-refusal.ensures.conn)
    (remains_tied (file_state c.args.self.conn) (file_state again) new s sound held
    c.in-Err-open.ensures.autocommit c.in-Err-open.ensures.as_before
    (settled_at again.store g.met.D.Disk.seen_may_stay)
    (none_taken_back (file_state c.args.self.conn) (file_state again) new (rows_of s) back
    c.in-Err-open.ensures.crash)
    back)

pub returns-in-Err-open-clause-crash : goal.returns-in-Err-open-clause-crash
returns-in-Err-open-clause-crash g c =
    let rows = rows_of c.args.self.register.state in
    let again = c.in-Ok-open_files.conn in
    let new = file_state c.in-Err-open.not_opened.conn in
    let back = is_back c.close.result c.args.self.conn again c.in-Ok.files c.args.self.shut rows new
    c.close.ensures.conn c.close.ensures.tables (λ found. c.in-Ok.ensures.copied found.honest)
    c.in-Ok-open_files.ensures.found c.in-Ok-open_files.ensures.opened c.in-Err-open.ensures.crash in
    rw (c.refused-in-Err-open.ensures.remains, c.into_parts-refusal.ensures.conn)
    (leaves_again (file_state c.args.self.conn) (file_state again) new rows
    (settled_at again.store g.met.D.Disk.seen_may_stay)
    (none_taken_back (file_state c.args.self.conn) (file_state again) new rows back c.in-Err-open.ensures.crash)
    back)
