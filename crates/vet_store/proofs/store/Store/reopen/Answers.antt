use Rattle.std.proofs.Common.{IsTrue, inl, inr, subst, sym}
use Rattle.sqlite.specs.Held.{state}
use Rattle.sqlite.specs.State.{IsUnchanged, Survives}
use Rattle.vet_register.specs.Sound.{IsSound}
use Rattle.vet_rows.specs.HeldState.{IsHeldState}
use Rattle.vet_rows.specs.RowsOf.{rows_of}
use Rattle.vet_store.proofs.Reopening.{still_stored, still_tied, still_unchanged}
use Rattle.vet_store.proofs.TakingOver.{none_taken_over}
use Rattle.vet_store.proofs.Tying.{still_clean}
use Rattle.vet_store.proofs.Versions.{in_second}
use Rattle.vet_store.specs.Made.{IsAsBefore}
use Rattle.vet_store.specs.Opened.{IsStored}
use Rattle.vet_store.specs.Stands.{Holds}
use Rattle.vet_store.proofs.store.Store.reopen.Goals as goal

-- ---- done

pub returns-in-Ok-clause-crash : goal.returns-in-Ok-clause-crash
returns-in-Ok-clause-crash g c =
    let new = state g.S.Store c.in-Ok.store.conn in
    subst (λ h. Survives (state g.S.Store h) new (λ _. ⊥)) c.close.ensures.conn
    (none_taken_over (state g.S.Store c.close.result) new c.args.self.shut (rows_of c.args.self.register.state)
    c.close.ensures.tables c.in-Ok.ensures.crash)

pub returns-in-Ok-clause-unchanged : goal.returns-in-Ok-clause-unchanged
returns-in-Ok-clause-unchanged g c clean =
    let old = state g.S.Store c.close.result in
    let new = state g.S.Store c.in-Ok.store.conn in
    let rows = rows_of c.args.self.register.state in
    let survives = none_taken_over old new c.args.self.shut rows c.close.ensures.tables c.in-Ok.ensures.crash in
    subst (λ h. IsUnchanged (state g.S.Store h) new) c.close.ensures.conn
    (still_unchanged old new c.args.self.shut rows c.in-Ok.store.register.state c.close.ensures.tables survives clean
    (c.in-Ok.ensures.opened clean))

pub returns-in-Ok-clause-same : goal.returns-in-Ok-clause-same
returns-in-Ok-clause-same g c clean =
    let s = c.args.self.register.state in
    let old = state g.S.Store c.close.result in
    let new = state g.S.Store c.in-Ok.store.conn in
    let sound : IsSound s = rw c.register-2.ensures at c.facts-sound.ensures.sound in
    let held : IsHeldState s = rw c.register.ensures at c.register_is_held.ensures in
    let survives = none_taken_over old new c.args.self.shut (rows_of s) c.close.ensures.tables c.in-Ok.ensures.crash in
    let serves = subst (λ h. IsTrue (state g.S.Store h).is_open) (sym c.close.ensures.conn)
    (returns-in-Ok-clause-unchanged g c clean).0.was_open in
    c.in-Ok.ensures.only clean s
    (still_stored old new c.args.self.shut s c.close.ensures.tables c.requires sound held survives clean serves)

pub returns-in-Ok-clause-found : goal.returns-in-Ok-clause-found
returns-in-Ok-clause-found g c clean =
    let s = c.args.self.register.state in
    let old = state g.S.Store c.close.result in
    let new = state g.S.Store c.in-Ok.store.conn in
    let survives = none_taken_over old new c.args.self.shut (rows_of s) c.close.ensures.tables c.in-Ok.ensures.crash in
    let serves = subst (λ h. IsTrue (state g.S.Store h).is_open) (sym c.close.ensures.conn)
    (returns-in-Ok-clause-unchanged g c clean).0.was_open in
    let stands = c.close.ensures.tables.stands (still_clean old new (λ _. ⊥) survives clean) serves in
    subst (λ h. Holds (state g.S.Store h).now (rows_of c.in-Ok.store.register.state)) c.close.ensures.conn
    (in_second old.now (rows_of s) stands.holds c.in-Ok.store.register.state (c.in-Ok.ensures.found clean))

pub returns-in-Ok-clause-only : goal.returns-in-Ok-clause-only
returns-in-Ok-clause-only g c clean t stored =
    c.in-Ok.ensures.only clean t
    (subst (λ h. IsStored (state g.S.Store h).now t) (sym c.close.ensures.conn) stored)

-- ---- after a refusal

pub returns-in-Err-clause-crash : goal.returns-in-Err-clause-crash
returns-in-Err-clause-crash g c =
    let new = state g.S.Store c.in-Err.refused.conn in
    subst (λ h. Survives (state g.S.Store h) new (λ _. ⊥)) c.close.ensures.conn
    (none_taken_over (state g.S.Store c.close.result) new c.args.self.shut (rows_of c.args.self.register.state)
    c.close.ensures.tables c.in-Err.ensures.crash)

pub returns-in-Err-clause-refused : goal.returns-in-Err-clause-refused
returns-in-Err-clause-refused g c clean serves =
    let s = c.args.self.register.state in
    let old = state g.S.Store c.close.result in
    let new = state g.S.Store c.in-Err.refused.conn in
    let sound : IsSound s = rw c.register-2.ensures at c.facts-sound.ensures.sound in
    let held : IsHeldState s = rw c.register.ensures at c.register_is_held.ensures in
    let survives = none_taken_over old new c.args.self.shut (rows_of s) c.close.ensures.tables c.in-Err.ensures.crash in
    elim (c.in-Err.ensures.refused) [
      | inl of_store ↦ of_store
      | inr none ↦ absurd
          (c.in-Err.ensures.none none clean s
          (still_stored old new c.args.self.shut s c.close.ensures.tables c.requires sound held survives clean
          (c.in-Err.ensures.was_open clean serves)))
    ]

pub returns-in-Err-clause-as_before : goal.returns-in-Err-clause-as_before
returns-in-Err-clause-as_before g c clean serves =
    subst (λ h. IsAsBefore (state g.S.Store h) (state g.S.Store c.in-Err.refused.conn)) c.close.ensures.conn
    (c.in-Err.ensures.as_before clean serves)

pub returns-in-Err-clause-was_open : goal.returns-in-Err-clause-was_open
returns-in-Err-clause-was_open g c clean serves =
    subst (λ h. IsTrue (state g.S.Store h).is_open) c.close.ensures.conn (c.in-Err.ensures.was_open clean serves)

pub returns-in-Err-clause-lost : goal.returns-in-Err-clause-lost
returns-in-Err-clause-lost g c =
    let s = c.args.self.register.state in
    let sound : IsSound s = rw c.register-2.ensures at c.facts-sound.ensures.sound in
    let held : IsHeldState s = rw c.register.ensures at c.register_is_held.ensures in
    let old = state g.S.Store c.close.result in
    let new = state g.S.Store c.in-Err.refused.conn in
    still_tied old new c.args.self.shut s c.close.ensures.tables c.requires sound held c.in-Err.ensures.autocommit
    (λ clean serves. c.in-Err.ensures.was_open clean serves)
    (λ clean serves. c.in-Err.ensures.as_before clean serves)
    (none_taken_over old new c.args.self.shut (rows_of s) c.close.ensures.tables c.in-Err.ensures.crash)
