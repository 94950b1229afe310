use Rattle.std.proofs.Common.{◌∙◌, not, refl, ap, subst}
use Rattle.sqlite.specs.Held.{state}
use Rattle.sqlite.specs.State.{Survives}
use Rattle.vet_register.specs.State.{State}
use Rattle.vet_rows.specs.RowsOf.{rows_of}
use Rattle.vet_store.specs.Made.{IsMade}
use Rattle.vet_tables.specs.Free.{AreFree}
use Rattle.vet_store.proofs.Tying.{leaves_standing}
use Rattle.vet_store.proofs.store.Store.create.Goals as goal

pub returns-then-has_name_taken-clause-as_before : goal.returns-then-has_name_taken-clause-as_before
returns-then-has_name_taken-clause-as_before g c clean serves = (
  record {
    is_open = serves;
    autocommit = c.requires.autocommit;
    settled = c.is_autocommit-rests.ensures.settled
        (c.is_autocommit-rests.ensures.value ∙ ap not c.requires.autocommit) serves;
  },
  refl,
)

pub returns-in-Err-clause-as_before : goal.returns-in-Err-clause-as_before
returns-in-Err-clause-as_before g c clean serves = (
  record {
    is_open = serves;
    autocommit = c.requires.autocommit;
    settled = c.is_autocommit-rests.ensures.settled
        (c.is_autocommit-rests.ensures.value ∙ ap not c.requires.autocommit) serves;
  },
  refl,
)

pub invariant_of-result : goal.invariant_of-result
invariant_of-result g c =
    let now = state g.S.Store c.write_start.new.conn in
    record {
      autocommit = c.write_start.ensures.autocommit;
      stands = λ clean serves. (c.in-Ok-write_start.ensures.done clean).0;
      leaves = λ clean unshut. (let stands = (c.in-Ok-write_start.ensures.done clean).0 in
          leaves_standing now (rows_of c.in-Ok.register.state)
          (λ trees leaves. g.met.S.Store.settled c.write_start.new.conn.store trees stands.rests.is_open leaves)
          stands);
    }

pub returns-in-Ok-write_start-clause-tables : goal.returns-in-Ok-write_start-clause-tables
returns-in-Ok-write_start-clause-tables g c = (refl, invariant_of-result g c)

pub returns-in-Ok-write_start-clause-taken : goal.returns-in-Ok-write_start-clause-taken
returns-in-Ok-write_start-clause-taken g c taken =
    taken (subst AreFree c.schema.ensures.value (c.has_name_taken.ensures.free c.if-has_name_taken.false))

pub returns-in-Err-write_start-clause-taken : goal.returns-in-Err-write_start-clause-taken
returns-in-Err-write_start-clause-taken g c taken =
    absurd (taken (subst AreFree c.schema.ensures.value (c.has_name_taken.ensures.free c.if-has_name_taken.false)))

pub returns-in-Ok-write_start-clause-crash : goal.returns-in-Ok-write_start-clause-crash
returns-in-Ok-write_start-clause-crash g c =
    let old = state g.S.Store c.args.conn in
    subst (λ (s : State). Survives old (state g.S.Store c.write_start.new.conn) (IsMade old (rows_of s)))
    c.in-Ok.ensures.start c.write_start.ensures.crash

pub returns-in-Err-write_start-clause-crash : goal.returns-in-Err-write_start-clause-crash
returns-in-Err-write_start-clause-crash g c =
    let old = state g.S.Store c.args.conn in
    subst (λ (s : State). Survives old (state g.S.Store c.write_start.new.conn) (IsMade old (rows_of s)))
    c.in-Ok.ensures.start c.write_start.ensures.crash
