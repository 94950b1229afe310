use Rattle.std.proofs.Common.{◌≡◌, ◌⊎◌, ◌∙◌, IsTrue, ap, inl, inr, subst, sym}
use Rattle.sqlite.specs.Held.{state}
use Rattle.sqlite.specs.State.{HasCleanDisk, Survives}
use Rattle.vet_base.specs.declared.refusal.Refusal.TheVariants.{NoMemory}
use Rattle.vet_register.specs.State.{State, start}
use Rattle.vet_rows.specs.RowsOf.{rows_of}
use Rattle.vet_store.proofs.Sparing.{free_after_all, still_spared}
use Rattle.vet_store.specs.Crash.{LeavesRun}
use Rattle.vet_store.specs.Made.{HasMade, IsAsBefore, IsMade}
use Rattle.vet_store.specs.StoreView.{StoreView}
use Rattle.vet_store.specs.Tied.{IsTied}
use Rattle.vet_store.proofs.store.Store.create_and_run.Goals as goal

pub returns-in-Ok-run_all-clause-leaves : goal.returns-in-Ok-run_all-clause-leaves
returns-in-Ok-run_all-clause-leaves g c =
    let last = c.run_all.new.self in
    subst (λ (s : State). LeavesRun (state g.S.Store last.conn) last.shut s c.args.commands.now
    c.in-Ok-run_all.answers.items last.register.state) c.in-Ok.ensures.start
    (c.in-Ok-run_all.ensures.leaves c.in-Ok.ensures.tables.0)

pub returns-in-Ok-run_all-clause-others : goal.returns-in-Ok-run_all-clause-others
returns-in-Ok-run_all-clause-others g c clean serves =
    let old = state g.S.Store c.args.conn in
    let mid = state g.S.Store c.in-Ok.store.conn in
    let new = state g.S.Store c.run_all.new.self.conn in
    let made = c.in-Ok.ensures in
    let stayed = c.run_all.ensures.others clean serves in
    let stands = made.tables.1.stands stayed.0 stayed.1.0 in
    still_spared old.now mid.now new.now (rows_of c.in-Ok.store.register.state)
    (free_after_all old.now.schema made.taken) (made.others stayed.0) stands.holds stayed.1.1

pub returns-in-Err-run_all-clause-taken : goal.returns-in-Err-run_all-clause-taken
returns-in-Err-run_all-clause-taken g c taken = absurd (c.in-Ok.ensures.taken taken)

-- ---- after a refusal

pub returns-in-Err-clause-stands : goal.returns-in-Err-clause-stands
returns-in-Err-clause-stands g c clean serves = inl (c.in-Err.ensures.as_before clean serves)

pub returns-in-Err-run_all-clause-stands : goal.returns-in-Err-run_all-clause-stands
returns-in-Err-run_all-clause-stands g c =
    let old = state g.S.Store c.args.conn in
    let rows = rows_of (start c.args.moves_limit) in
    let made = c.in-Ok.ensures in
    let conn : c.close.result ≡ c.in-Ok.store.conn =
    c.close.ensures.conn ∙ ap (λ (s : StoreView _ _). s.conn) c.in-Err-run_all.ensures.err in
    subst (λ h. HasCleanDisk (state g.S.Store h) → IsTrue (state g.S.Store h).is_open
    → IsAsBefore old (state g.S.Store h) ⊎ ((c.in-Err-run_all.refusal ≡ NoMemory)
    × HasMade old (state g.S.Store h) rows)) (sym conn) (λ clean serves.
    let tied = subst (λ (s : State). IsTied (state g.S.Store c.in-Ok.store.conn) c.in-Ok.store.shut (rows_of s))
    made.start made.tables.1 in
    inr (
      c.in-Err-run_all.ensures.memory,
      record {
        stands = tied.stands clean serves;
        leaves = tied.leaves clean made.tables.0;
        others = made.others clean;
      },
    ))

pub returns-in-Err-run_all-clause-crash : goal.returns-in-Err-run_all-clause-crash
returns-in-Err-run_all-clause-crash g c =
    let old = state g.S.Store c.args.conn in
    let conn : c.close.result ≡ c.in-Ok.store.conn =
    c.close.ensures.conn ∙ ap (λ (s : StoreView _ _). s.conn) c.in-Err-run_all.ensures.err in
    subst (λ h. Survives old (state g.S.Store h) (IsMade old (rows_of (start c.args.moves_limit)))) (sym conn)
    c.in-Ok.ensures.crash
