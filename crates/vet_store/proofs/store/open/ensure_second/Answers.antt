use Rattle.std.proofs.Common.{inl, inr}
use Rattle.std.proofs.lemmas.Result.{on_ok_weaker}
use Rattle.sqlite.proofs.StateLemmas.{survives_weaker}
use Rattle.sqlite.specs.Held.{state}
use Rattle.vet_rows.specs.RowsOf.{rows_of}
use Rattle.vet_store.proofs.Versions.{holds_all}
use Rattle.vet_store.proofs.store.open.ensure_second.Goals as goal
use Rattle.vet_tables.proofs.Readings.{unchanged_self}
use Rattle.vet_tables.proofs.Steps.{survives_same}

-- ---- tables of the first version

pub returns-in-First-clause-done : goal.returns-in-First-clause-done
returns-in-First-clause-done g c =
    rw c.in-First.is (λ clean. on_ok_weaker c.take_over.result (λ made rests was.
    let it = made rests was in (it.0, inr it.1)) (c.take_over.ensures.done clean))

pub returns-in-First-clause-crash : goal.returns-in-First-clause-crash
returns-in-First-clause-crash g c =
    survives_weaker (state g.S.Store c.args.conn.now) (state g.S.Store c.take_over.new.conn) _ _
    (λ clean trees h. (c.in-First.is, h)) c.take_over.ensures.crash

-- ---- those of the second

pub returns-in-Second-clause-done : goal.returns-in-Second-clause-done
returns-in-Second-clause-done g c =
    let conn = state g.S.Store c.args.conn.now in
    rw c.in-Second.is (λ clean rests was. (
      record { rests = rests; holds = holds_all conn.now (rows_of c.args.register.now.state) was },
      inl (unchanged_self conn rests.is_open),
    ))

pub returns-in-Second-clause-crash : goal.returns-in-Second-clause-crash
returns-in-Second-clause-crash g c = survives_same (state g.S.Store c.args.conn.now) _
