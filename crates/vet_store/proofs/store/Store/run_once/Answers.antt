use Rattle.std.proofs.Common.{◌≡◌, ◌∙◌, IsTrue, Ok, Err, sym, ap, subst}
use Rattle.sqlite.specs.Held.{state}
use Rattle.sqlite.specs.State.{HasCleanDisk, Survives}
use Rattle.vet_register.specs.Machine.{next}
use Rattle.vet_register.specs.RegisterView.{IsAnswer, IsPrepared, answer_of}
use Rattle.vet_register.specs.declared.change.Prepared.{Prepared}
use Rattle.vet_register.specs.declared.verdict.Answer.TheVariants.{Accepted}
use Rattle.vet_register.specs.State.{State}
use Rattle.vet_register.specs.Verdict.{verdict}
use Rattle.vet_register.proofs.Turns.{turn_already, turn_done, turn_refused}
use Rattle.vet_register.specs.declared.command.Outcome.TheVariants.{Already}
use Rattle.vet_rows.specs.RowsOf.{rows_of}
use Rattle.vet_store.specs.Beside.{OthersStay}
use Rattle.vet_store.specs.Committed.{AreTreesBeside}
use Rattle.vet_store.specs.Crash.{LeavesEither}
use Rattle.vet_store.specs.Exact.{IsExact}
use Rattle.vet_store.specs.Runs.{IsTurn}
use Rattle.vet_store.specs.StoreView.{StoreView}
use Rattle.vet_store.specs.Tied.{IsTied}
use Rattle.vet_store.proofs.Crashes.{after_accepted, left_after, left_before, left_refused}
use Rattle.vet_store.proofs.Exactness.{exact_accepted, exact_already, exact_refused, would_be_done}
use Rattle.vet_store.proofs.Running.{turn_of}
use Rattle.vet_store.proofs.Tying.{others_as_were, others_stay, survives_written}
use Rattle.vet_store.proofs.Tying.{tied_refused, tied_written}
use Rattle.vet_store.proofs.store.Store.run_once.Goals as goal

pub returns-in-Err-clause-turn : goal.returns-in-Err-clause-turn
returns-in-Err-clause-turn g c =
    let s = c.self.inside.register.state in
    let command = c.args.command.now in
    let turn = turn_of s c.prepare.new.self.state command (Err c.in-Err.refusal)
    (turn_refused s c.prepare.new.self.state command c.in-Err.refusal c.in-Err.ensures.told c.prepare.ensures.state) in
    subst (λ (v : StoreView _ _). IsTurn v.register.state command (Err c.in-Err.refusal) c.prepare.new.self.state)
    c.self.view_is turn

pub returns-in-Ok-Already-clause-turn : goal.returns-in-Ok-Already-clause-turn
returns-in-Ok-Already-clause-turn g c =
    let s = c.self.inside.register.state in
    let command = c.args.command.now in
    let number = c.in-Ok-Already.number in
    let turn = turn_of s c.prepare.new.self.state command (Ok (Already number))
    (turn_already s c.prepare.new.self.state command number
    (c.in-Ok-Already.ensures.told ∙ ap (λ (p : Prepared _ _). Ok (answer_of p)) c.in-Ok-Already.field-0-is)
    c.prepare.ensures.state) in
    subst (λ (v : StoreView _ _). IsTurn v.register.state command (Ok (Already number)) c.prepare.new.self.state)
    c.self.view_is turn

pub returns-then-self-clause-tables : goal.returns-then-self-clause-tables
returns-then-self-clause-tables g c =
    subst (λ (v : StoreView _ _). IsTied (state g.S.Store v.conn) v.shut (rows_of v.register.state)) c.self.view_is
    c.self.invariant

pub invariant_of-self : goal.invariant_of-self
invariant_of-self g c =
    subst (λ (s : State). IsTied (state g.S.Store c.self.inside.conn) c.self.inside.shut (rows_of s))
    (sym c.prepare.ensures.state) c.self.invariant

pub invariant_of-self-in-Ok-Already : goal.invariant_of-self-in-Ok-Already
invariant_of-self-in-Ok-Already g c =
    subst (λ (s : State). IsTied (state g.S.Store c.self.inside.conn) c.self.inside.shut (rows_of s))
    (sym c.prepare.ensures.state) c.self.invariant

pub returns-in-Err-clause-tables : goal.returns-in-Err-clause-tables
returns-in-Err-clause-tables g c =
    subst (λ (s : State). IsTied (state g.S.Store c.self.inside.conn) c.self.inside.shut (rows_of s))
    (sym c.prepare.ensures.state) c.self.invariant

pub returns-in-Ok-Already-clause-tables : goal.returns-in-Ok-Already-clause-tables
returns-in-Ok-Already-clause-tables g c =
    subst (λ (s : State). IsTied (state g.S.Store c.self.inside.conn) c.self.inside.shut (rows_of s))
    (sym c.prepare.ensures.state) c.self.invariant

pub invariant_of-self-in-Err-write_change : goal.invariant_of-self-in-Err-write_change
invariant_of-self-in-Err-write_change g c =
    let old = state g.S.Store c.self.inside.conn in
    let tied = subst (λ (s : State). IsTied old c.self.inside.shut (rows_of s)) (sym c.prepare.ensures.state)
    c.self.invariant in
    let h = c.in-Err-write_change.ensures in
    let command = c.args.command.now in
    let prepared : IsPrepared g.K.Keeper.keeping c.prepare.new.self command c.in-Ok-Change.change =
    subst (λ (p : Prepared _ _). IsAnswer g.K.Keeper.keeping c.prepare.new.self command p) c.in-Ok-Change.field-0-is
    c.in-Ok-Change.ensures.prepared in
    tied_refused old (state g.S.Store c.write_change.new.conn) c.self.inside.shut c.write_change.new.shut
    (rows_of c.prepare.new.self.state) _ tied c.if-self.false h.autocommit h.kept h.was_open
    (c.write_change.ensures.crash command prepared) h.before

pub returns-in-Err-write_change-clause-tables : goal.returns-in-Err-write_change-clause-tables
returns-in-Err-write_change-clause-tables g c =
    let old = state g.S.Store c.self.inside.conn in
    let tied = subst (λ (s : State). IsTied old c.self.inside.shut (rows_of s)) (sym c.prepare.ensures.state)
    c.self.invariant in
    let h = c.in-Err-write_change.ensures in
    let command = c.args.command.now in
    let prepared : IsPrepared g.K.Keeper.keeping c.prepare.new.self command c.in-Ok-Change.change =
    subst (λ (p : Prepared _ _). IsAnswer g.K.Keeper.keeping c.prepare.new.self command p) c.in-Ok-Change.field-0-is
    c.in-Ok-Change.ensures.prepared in
    tied_refused old (state g.S.Store c.write_change.new.conn) c.self.inside.shut c.write_change.new.shut
    (rows_of c.prepare.new.self.state) _ tied c.if-self.false h.autocommit h.kept h.was_open
    (c.write_change.ensures.crash command prepared) h.before

pub returns-in-Ok-clause-turn : goal.returns-in-Ok-clause-turn
returns-in-Ok-clause-turn g c =
    let command = c.args.command.now in
    let s = c.prepare.new.self.state in
    let prepared : IsPrepared g.K.Keeper.keeping c.prepare.new.self command c.in-Ok-Change.change =
    subst (λ (p : Prepared _ _). IsAnswer g.K.Keeper.keeping c.prepare.new.self command p) c.in-Ok-Change.field-0-is
    c.in-Ok-Change.ensures.prepared in
    let turn = turn_of s c.install.new.self.state command (Ok c.outcome-outcome.result)
    (turn_done s c.install.new.self.state command c.outcome-outcome.result prepared.step.accepts
    (c.outcome-outcome.ensures ∙ prepared.step.outcome) (c.install.ensures command prepared)) in
    let same : s ≡ c.args.self.now.register.state =
    c.prepare.ensures.state ∙ ap (λ (v : StoreView _ _). v.register.state) c.self.view_is in
    subst (λ (t : State). IsTurn t command (Ok c.outcome-outcome.result) c.install.new.self.state) same turn

pub invariant_of-self-in-Ok : goal.invariant_of-self-in-Ok
invariant_of-self-in-Ok g c =
    let command = c.args.command.now in
    let old = state g.S.Store c.self.inside.conn in
    let new = state g.S.Store c.write_change.new.conn in
    let s = c.prepare.new.self.state in
    let tied = subst (λ (t : State). IsTied old c.self.inside.shut (rows_of t)) (sym c.prepare.ensures.state)
    c.self.invariant in
    let prepared : IsPrepared g.K.Keeper.keeping c.prepare.new.self command c.in-Ok-Change.change =
    subst (λ (p : Prepared _ _). IsAnswer g.K.Keeper.keeping c.prepare.new.self command p) c.in-Ok-Change.field-0-is
    c.in-Ok-Change.ensures.prepared in
    let h = c.in-Ok.ensures in
    let after = tied_written old new c.self.inside.shut c.write_change.new.shut (rows_of s) (rows_of (next s command)) _
    tied c.if-self.false h.autocommit (h.written command prepared) h.opens (h.crash command prepared)
    (λ trees serves leaves. g.met.S.Store.settled c.write_change.new.conn.store trees serves leaves) in
    subst (λ (t : State). IsTied new c.write_change.new.shut (rows_of t)) (sym (c.install.ensures command prepared))
    after

pub returns-in-Ok-clause-tables : goal.returns-in-Ok-clause-tables
returns-in-Ok-clause-tables g c =
    let command = c.args.command.now in
    let old = state g.S.Store c.self.inside.conn in
    let new = state g.S.Store c.write_change.new.conn in
    let s = c.prepare.new.self.state in
    let tied = subst (λ (t : State). IsTied old c.self.inside.shut (rows_of t)) (sym c.prepare.ensures.state)
    c.self.invariant in
    let prepared : IsPrepared g.K.Keeper.keeping c.prepare.new.self command c.in-Ok-Change.change =
    subst (λ (p : Prepared _ _). IsAnswer g.K.Keeper.keeping c.prepare.new.self command p) c.in-Ok-Change.field-0-is
    c.in-Ok-Change.ensures.prepared in
    let h = c.in-Ok.ensures in
    let after = tied_written old new c.self.inside.shut c.write_change.new.shut (rows_of s) (rows_of (next s command)) _
    tied c.if-self.false h.autocommit (h.written command prepared) h.opens (h.crash command prepared)
    (λ trees serves leaves. g.met.S.Store.settled c.write_change.new.conn.store trees serves leaves) in
    subst (λ (t : State). IsTied new c.write_change.new.shut (rows_of t)) (sym (c.install.ensures command prepared))
    after

pub returns-in-Err-write_change-clause-crash : goal.returns-in-Err-write_change-clause-crash
returns-in-Err-write_change-clause-crash g c =
    let command = c.args.command.now in
    let old = state g.S.Store c.self.inside.conn in
    let new = state g.S.Store c.write_change.new.conn in
    let s = c.prepare.new.self.state in
    let tied = subst (λ (t : State). IsTied old c.self.inside.shut (rows_of t)) (sym c.prepare.ensures.state)
    c.self.invariant in
    let prepared : IsPrepared g.K.Keeper.keeping c.prepare.new.self command c.in-Ok-Change.change =
    subst (λ (p : Prepared _ _). IsAnswer g.K.Keeper.keeping c.prepare.new.self command p) c.in-Ok-Change.field-0-is
    c.in-Ok-Change.ensures.prepared in
    let crash = λ (serves : IsTrue old.is_open). survives_written old new c.self.inside.shut (rows_of s)
    (rows_of (next s command)) tied c.if-self.false serves (c.write_change.ensures.crash command prepared) in
    let same : s ≡ c.args.self.now.register.state =
    c.prepare.ensures.state ∙ ap (λ (v : StoreView _ _). v.register.state) c.self.view_is in
    let conn : c.self.inside.conn ≡ c.args.self.now.conn = ap (λ (v : StoreView _ _). v.conn) c.self.view_is in
    subst (λ h. IsTrue (state g.S.Store h).is_open → Survives (state g.S.Store h) new
    (AreTreesBeside (state g.S.Store h).now (rows_of (next c.args.self.now.register.state command)))) conn
    (subst (λ (t : State). IsTrue old.is_open → Survives old new (AreTreesBeside old.now (rows_of (next t command))))
    same crash)

pub returns-in-Ok-clause-crash : goal.returns-in-Ok-clause-crash
returns-in-Ok-clause-crash g c =
    let command = c.args.command.now in
    let old = state g.S.Store c.self.inside.conn in
    let new = state g.S.Store c.write_change.new.conn in
    let s = c.prepare.new.self.state in
    let tied = subst (λ (t : State). IsTied old c.self.inside.shut (rows_of t)) (sym c.prepare.ensures.state)
    c.self.invariant in
    let prepared : IsPrepared g.K.Keeper.keeping c.prepare.new.self command c.in-Ok-Change.change =
    subst (λ (p : Prepared _ _). IsAnswer g.K.Keeper.keeping c.prepare.new.self command p) c.in-Ok-Change.field-0-is
    c.in-Ok-Change.ensures.prepared in
    let crash = λ (serves : IsTrue old.is_open). survives_written old new c.self.inside.shut (rows_of s)
    (rows_of (next s command)) tied c.if-self.false serves (c.write_change.ensures.crash command prepared) in
    let same : s ≡ c.args.self.now.register.state =
    c.prepare.ensures.state ∙ ap (λ (v : StoreView _ _). v.register.state) c.self.view_is in
    let conn : c.self.inside.conn ≡ c.args.self.now.conn = ap (λ (v : StoreView _ _). v.conn) c.self.view_is in
    subst (λ h. IsTrue (state g.S.Store h).is_open → Survives (state g.S.Store h) new
    (AreTreesBeside (state g.S.Store h).now (rows_of (next c.args.self.now.register.state command)))) conn
    (subst (λ (t : State). IsTrue old.is_open → Survives old new (AreTreesBeside old.now (rows_of (next t command))))
    same crash)

-- ---- nothing comes in place of what is told but what may

pub returns-in-Err-clause-exact : goal.returns-in-Err-clause-exact
returns-in-Err-clause-exact g c unshut =
    let command = c.args.command.now in
    subst (λ (v : StoreView _ _). IsExact v.register.state command (Err c.in-Err.refusal)) c.self.view_is
    (exact_refused g.row.K.Denot g.row.K-Update.Denot c.self.inside.register.state command c.in-Err.refusal
    c.in-Err.ensures.exact c.in-Err.ensures.told)

pub returns-in-Ok-Already-clause-exact : goal.returns-in-Ok-Already-clause-exact
returns-in-Ok-Already-clause-exact g c unshut =
    let command = c.args.command.now in
    let number = c.in-Ok-Already.number in
    let told = c.in-Ok-Already.ensures.told ∙ ap (λ (p : Prepared _ _). Ok (answer_of p)) c.in-Ok-Already.field-0-is in
    subst (λ (v : StoreView _ _). IsExact v.register.state command (Ok (Already number))) c.self.view_is
    (exact_already g.row.K.Denot g.row.K-Update.Denot c.self.inside.register.state command number
    (rw c.in-Ok-Already.field-0-is at c.in-Ok-Already.ensures.exact) told)

pub returns-in-Err-write_change-clause-exact : goal.returns-in-Err-write_change-clause-exact
returns-in-Err-write_change-clause-exact g c unshut =
    let command = c.args.command.now in
    let prepared : IsPrepared g.K.Keeper.keeping c.prepare.new.self command c.in-Ok-Change.change =
    subst (λ (p : Prepared _ _). IsAnswer g.K.Keeper.keeping c.prepare.new.self command p) c.in-Ok-Change.field-0-is
    c.in-Ok-Change.ensures.prepared in
    let same : c.prepare.new.self.state ≡ c.args.self.now.register.state =
    c.prepare.ensures.state ∙ ap (λ (v : StoreView _ _). v.register.state) c.self.view_is in
    exact_accepted c.args.self.now.register.state command (Err c.in-Err-write_change.refusal)
    (subst (λ (s : State). verdict s command ≡ Ok Accepted) same prepared.step.accepts)

pub returns-in-Ok-clause-exact : goal.returns-in-Ok-clause-exact
returns-in-Ok-clause-exact g c unshut =
    let command = c.args.command.now in
    let prepared : IsPrepared g.K.Keeper.keeping c.prepare.new.self command c.in-Ok-Change.change =
    subst (λ (p : Prepared _ _). IsAnswer g.K.Keeper.keeping c.prepare.new.self command p) c.in-Ok-Change.field-0-is
    c.in-Ok-Change.ensures.prepared in
    let same : c.prepare.new.self.state ≡ c.args.self.now.register.state =
    c.prepare.ensures.state ∙ ap (λ (v : StoreView _ _). v.register.state) c.self.view_is in
    exact_accepted c.args.self.now.register.state command (Ok c.outcome-outcome.result)
    (subst (λ (s : State). verdict s command ≡ Ok Accepted) same prepared.step.accepts)

pub returns-in-Err-write_change-clause-shuts_only : goal.returns-in-Err-write_change-clause-shuts_only
returns-in-Err-write_change-clause-shuts_only g c unshut shut =
    let command = c.args.command.now in
    let prepared : IsPrepared g.K.Keeper.keeping c.prepare.new.self command c.in-Ok-Change.change =
    subst (λ (p : Prepared _ _). IsAnswer g.K.Keeper.keeping c.prepare.new.self command p) c.in-Ok-Change.field-0-is
    c.in-Ok-Change.ensures.prepared in
    let same : c.prepare.new.self.state ≡ c.args.self.now.register.state =
    c.prepare.ensures.state ∙ ap (λ (v : StoreView _ _). v.register.state) c.self.view_is in
    would_be_done c.args.self.now.register.state command
    (subst (λ (s : State). verdict s command ≡ Ok Accepted) same prepared.step.accepts)

-- ---- what a crash leaves

pub returns-in-Err-clause-leaves : goal.returns-in-Err-clause-leaves
returns-in-Err-clause-leaves g c unshut =
    let conn = state g.S.Store c.self.inside.conn in
    subst (λ (v : StoreView _ _). HasCleanDisk conn → LeavesEither conn v.register.state c.args.command.now)
    c.self.view_is
    (λ clean. left_before conn c.self.inside.register.state c.args.command.now
    (c.self.invariant.leaves clean c.if-self.false))

pub returns-in-Ok-Already-clause-leaves : goal.returns-in-Ok-Already-clause-leaves
returns-in-Ok-Already-clause-leaves g c unshut =
    let conn = state g.S.Store c.self.inside.conn in
    subst (λ (v : StoreView _ _). HasCleanDisk conn → LeavesEither conn v.register.state c.args.command.now)
    c.self.view_is
    (λ clean. left_before conn c.self.inside.register.state c.args.command.now
    (c.self.invariant.leaves clean c.if-self.false))

pub returns-in-Err-write_change-clause-leaves : goal.returns-in-Err-write_change-clause-leaves
returns-in-Err-write_change-clause-leaves g c unshut =
    let command = c.args.command.now in
    let old = state g.S.Store c.self.inside.conn in
    let new = state g.S.Store c.write_change.new.conn in
    let s = c.prepare.new.self.state in
    let h = c.in-Err-write_change.ensures in
    let tied = subst (λ (t : State). IsTied old c.self.inside.shut (rows_of t)) (sym c.prepare.ensures.state)
    c.self.invariant in
    let prepared : IsPrepared g.K.Keeper.keeping c.prepare.new.self command c.in-Ok-Change.change =
    subst (λ (p : Prepared _ _). IsAnswer g.K.Keeper.keeping c.prepare.new.self command p) c.in-Ok-Change.field-0-is
    c.in-Ok-Change.ensures.prepared in
    let left = left_refused old new c.self.inside.shut c.write_change.new.shut s command tied c.if-self.false
    (after_accepted s command prepared.step.accepts) c.write_change.ensures.reaches
    (c.write_change.ensures.crash command prepared) h.before in
    let same : s ≡ c.args.self.now.register.state =
    c.prepare.ensures.state ∙ ap (λ (v : StoreView _ _). v.register.state) c.self.view_is in
    subst (λ (t : State). HasCleanDisk new → LeavesEither new t command) same left

pub returns-in-Ok-clause-leaves : goal.returns-in-Ok-clause-leaves
returns-in-Ok-clause-leaves g c unshut =
    let command = c.args.command.now in
    let new = state g.S.Store c.write_change.new.conn in
    let s = c.prepare.new.self.state in
    let prepared : IsPrepared g.K.Keeper.keeping c.prepare.new.self command c.in-Ok-Change.change =
    subst (λ (p : Prepared _ _). IsAnswer g.K.Keeper.keeping c.prepare.new.self command p) c.in-Ok-Change.field-0-is
    c.in-Ok-Change.ensures.prepared in
    let after = invariant_of-self-in-Ok g c in
    let left = λ (clean : HasCleanDisk new). left_after new s c.install.new.self.state command
    (c.install.ensures command prepared ∙ after_accepted s command prepared.step.accepts)
    (after.leaves clean c.in-Ok.ensures.done) in
    let same : s ≡ c.args.self.now.register.state =
    c.prepare.ensures.state ∙ ap (λ (v : StoreView _ _). v.register.state) c.self.view_is in
    subst (λ (t : State). HasCleanDisk new → LeavesEither new t command) same left

-- ---- other tables

pub returns-in-Err-clause-others : goal.returns-in-Err-clause-others
returns-in-Err-clause-others g c =
    let conn = state g.S.Store c.self.inside.conn in
    subst (λ (v : StoreView _ _). OthersStay (state g.S.Store v.conn) conn) c.self.view_is (others_as_were conn)

pub returns-in-Ok-Already-clause-others : goal.returns-in-Ok-Already-clause-others
returns-in-Ok-Already-clause-others g c =
    let conn = state g.S.Store c.self.inside.conn in
    subst (λ (v : StoreView _ _). OthersStay (state g.S.Store v.conn) conn) c.self.view_is (others_as_were conn)

pub returns-in-Err-write_change-clause-others : goal.returns-in-Err-write_change-clause-others
returns-in-Err-write_change-clause-others g c =
    let command = c.args.command.now in
    let old = state g.S.Store c.self.inside.conn in
    let new = state g.S.Store c.write_change.new.conn in
    let tied = subst (λ (s : State). IsTied old c.self.inside.shut (rows_of s)) (sym c.prepare.ensures.state)
    c.self.invariant in
    let prepared : IsPrepared g.K.Keeper.keeping c.prepare.new.self command c.in-Ok-Change.change =
    subst (λ (p : Prepared _ _). IsAnswer g.K.Keeper.keeping c.prepare.new.self command p) c.in-Ok-Change.field-0-is
    c.in-Ok-Change.ensures.prepared in
    let h = c.in-Err-write_change.ensures in
    subst (λ (v : StoreView _ _). OthersStay (state g.S.Store v.conn) new) c.self.view_is
    (others_stay old new c.self.inside.shut (rows_of c.prepare.new.self.state) _ tied h.was_open
    (c.write_change.ensures.crash command prepared) h.others)

pub returns-in-Ok-clause-others : goal.returns-in-Ok-clause-others
returns-in-Ok-clause-others g c =
    let command = c.args.command.now in
    let old = state g.S.Store c.self.inside.conn in
    let new = state g.S.Store c.write_change.new.conn in
    let tied = subst (λ (s : State). IsTied old c.self.inside.shut (rows_of s)) (sym c.prepare.ensures.state)
    c.self.invariant in
    let prepared : IsPrepared g.K.Keeper.keeping c.prepare.new.self command c.in-Ok-Change.change =
    subst (λ (p : Prepared _ _). IsAnswer g.K.Keeper.keeping c.prepare.new.self command p) c.in-Ok-Change.field-0-is
    c.in-Ok-Change.ensures.prepared in
    let h = c.in-Ok.ensures in
    subst (λ (v : StoreView _ _). OthersStay (state g.S.Store v.conn) new) c.self.view_is
    (others_stay old new c.self.inside.shut (rows_of c.prepare.new.self.state) _ tied (λ clean _. h.opens clean)
    (h.crash command prepared) h.others)
