use Rattle.std.proofs.Common.{◌∙◌, ap, arith, inl, inr, not}
use Rattle.sqlite.proofs.StateLemmas.{survives_weaker}
use Rattle.sqlite.specs.Held.{state}
use Rattle.sqlite.specs.State.{HasCleanDisk}
use Rattle.vet_store.proofs.TakingOver.{as_before_then, leaves_then, opened_then}
use Rattle.vet_store.proofs.store.open.open_tables.Goals as goal
use Rattle.vet_store.specs.TakenOver.{IsTakenOver}
use Rattle.vet_tables.specs.Read.{Rests}

-- ---- a register that was not read

pub returns-in-Err-clause-as_before : goal.returns-in-Err-clause-as_before
returns-in-Err-clause-as_before g c clean serves =
    let kept = c.read_register.ensures.kept clean in
    let was = kept.was_open serves in
    let rests : Rests (state g.S.Store c.args.conn.now) = record {
      is_open = was;
      autocommit = c.requires.autocommit;
      settled = c.is_autocommit-rests.ensures.settled
          (c.is_autocommit-rests.ensures.value ∙ ap not c.requires.autocommit) was;
    } in
    (kept.rests serves rests, kept.same serves rests)

pub returns-in-Err-clause-was_open : goal.returns-in-Err-clause-was_open
returns-in-Err-clause-was_open g c clean serves = (c.read_register.ensures.kept clean).was_open serves

pub returns-in-Err-clause-crash : goal.returns-in-Err-clause-crash
returns-in-Err-clause-crash g c =
    let old = state g.S.Store c.args.conn.now in
    survives_weaker old (state g.S.Store c.read_register.new.conn) (λ _. ⊥) (IsTakenOver old)
    (λ clean trees none. absurd none) c.read_register.ensures.survives

-- ---- one that was

pub returns-in-Ok-ensure_second-clause-found : goal.returns-in-Ok-ensure_second-clause-found
returns-in-Ok-ensure_second-clause-found g c clean =
    let early : HasCleanDisk (state g.S.Store c.read_register.new.conn) =
    omega (arith, c.ensure_second.ensures.crash.clean, clean) in
    record {
      sound = c.in-Ok.ensures.sound;
      held = c.in-Ok.ensures.held;
      version = c.args.version;
      holds = c.in-Ok.ensures.found early;
    }

pub returns-in-Ok-ensure_second-clause-only : goal.returns-in-Ok-ensure_second-clause-only
returns-in-Ok-ensure_second-clause-only g c clean =
    let early : HasCleanDisk (state g.S.Store c.read_register.new.conn) =
    omega (arith, c.ensure_second.ensures.crash.clean, clean) in
    c.in-Ok.ensures.only early

pub returns-in-Ok-ensure_second-clause-stands : goal.returns-in-Ok-ensure_second-clause-stands
returns-in-Ok-ensure_second-clause-stands g c clean =
    let old = state g.S.Store c.args.conn.now in
    let mid = state g.S.Store c.read_register.new.conn in
    let early : HasCleanDisk mid = omega (arith, c.ensure_second.ensures.crash.clean, clean) in
    (opened_then old mid (state g.S.Store c.ensure_second.new.conn) c.args.version c.in-Ok.register.state
    c.requires.autocommit
    (c.is_autocommit-rests.ensures.settled (c.is_autocommit-rests.ensures.value ∙ ap not c.requires.autocommit))
    (λ clean. (c.in-Ok.ensures.same clean, c.in-Ok.ensures.found clean)) early
    (c.in-Ok-ensure_second.ensures.done clean)).0

pub returns-in-Ok-ensure_second-clause-opened : goal.returns-in-Ok-ensure_second-clause-opened
returns-in-Ok-ensure_second-clause-opened g c clean =
    let old = state g.S.Store c.args.conn.now in
    let mid = state g.S.Store c.read_register.new.conn in
    let early : HasCleanDisk mid = omega (arith, c.ensure_second.ensures.crash.clean, clean) in
    (opened_then old mid (state g.S.Store c.ensure_second.new.conn) c.args.version c.in-Ok.register.state
    c.requires.autocommit
    (c.is_autocommit-rests.ensures.settled (c.is_autocommit-rests.ensures.value ∙ ap not c.requires.autocommit))
    (λ clean. (c.in-Ok.ensures.same clean, c.in-Ok.ensures.found clean)) early
    (c.in-Ok-ensure_second.ensures.done clean)).1

pub returns-in-Ok-ensure_second-clause-was_open : goal.returns-in-Ok-ensure_second-clause-was_open
returns-in-Ok-ensure_second-clause-was_open g c clean serves =
    let early : HasCleanDisk (state g.S.Store c.read_register.new.conn) =
    omega (arith, c.ensure_second.ensures.crash.clean, clean) in
    (c.in-Ok.ensures.same early).0.was_open

pub returns-in-Ok-ensure_second-clause-crash : goal.returns-in-Ok-ensure_second-clause-crash
returns-in-Ok-ensure_second-clause-crash g c =
    leaves_then (state g.S.Store c.args.conn.now) (state g.S.Store c.read_register.new.conn)
    (state g.S.Store c.ensure_second.new.conn) c.args.version c.in-Ok.register.state c.requires.autocommit
    (c.is_autocommit-rests.ensures.settled (c.is_autocommit-rests.ensures.value ∙ ap not c.requires.autocommit))
    (λ clean. (c.in-Ok.ensures.same clean, c.in-Ok.ensures.found clean)) c.in-Ok.ensures.sound c.in-Ok.ensures.held
    c.read_register.ensures.survives c.ensure_second.ensures.crash

-- ---- tables that were not taken over

pub returns-in-Err-ensure_second-clause-none : goal.returns-in-Err-ensure_second-clause-none
returns-in-Err-ensure_second-clause-none g c clean is t h =
    elim c.in-Err-ensure_second.ensures.refused [ inl memory ↦ cc | inr store ↦ cc ]

pub returns-in-Err-ensure_second-clause-as_before : goal.returns-in-Err-ensure_second-clause-as_before
returns-in-Err-ensure_second-clause-as_before g c clean serves =
    let old = state g.S.Store c.args.conn.now in
    let mid = state g.S.Store c.read_register.new.conn in
    let early : HasCleanDisk mid = omega (arith, c.ensure_second.ensures.crash.clean, clean) in
    as_before_then old mid (state g.S.Store c.ensure_second.new.conn) c.args.version c.in-Ok.register.state
    c.requires.autocommit
    (c.is_autocommit-rests.ensures.settled (c.is_autocommit-rests.ensures.value ∙ ap not c.requires.autocommit))
    (λ clean. (c.in-Ok.ensures.same clean, c.in-Ok.ensures.found clean)) early
    (c.in-Err-ensure_second.ensures.kept clean serves)

pub returns-in-Err-ensure_second-clause-was_open : goal.returns-in-Err-ensure_second-clause-was_open
returns-in-Err-ensure_second-clause-was_open g c clean serves =
    let early : HasCleanDisk (state g.S.Store c.read_register.new.conn) =
    omega (arith, c.ensure_second.ensures.crash.clean, clean) in
    (c.in-Ok.ensures.same early).0.was_open

pub returns-in-Err-ensure_second-clause-crash : goal.returns-in-Err-ensure_second-clause-crash
returns-in-Err-ensure_second-clause-crash g c =
    leaves_then (state g.S.Store c.args.conn.now) (state g.S.Store c.read_register.new.conn)
    (state g.S.Store c.ensure_second.new.conn) c.args.version c.in-Ok.register.state c.requires.autocommit
    (c.is_autocommit-rests.ensures.settled (c.is_autocommit-rests.ensures.value ∙ ap not c.requires.autocommit))
    (λ clean. (c.in-Ok.ensures.same clean, c.in-Ok.ensures.found clean)) c.in-Ok.ensures.sound c.in-Ok.ensures.held
    c.read_register.ensures.survives c.ensure_second.ensures.crash
