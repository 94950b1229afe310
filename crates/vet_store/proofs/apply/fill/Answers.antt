use Rattle.std.proofs.Common.{arith}
use Rattle.std.proofs.lemmas.Result.{on_ok_weaker}
use Rattle.sqlite.specs.Held.{state}
use Rattle.sqlite.specs.State.{HasCleanDisk}
use Rattle.vet_rows.specs.RowChanges.{all_changed}
use Rattle.vet_store.proofs.Making.{fills}
use Rattle.vet_store.proofs.apply.fill.Goals as goal

pub returns-clause-fills : goal.returns-clause-fills
returns-clause-fills g c clean serves inside =
    let a = state g.S.Store c.args.tx.now.conn.now in
    let b = state g.S.Store c.create_from.new.tx.conn.now in
    let d = state g.S.Store c.apply_all.new.tx.conn.now in
    let early : HasCleanDisk b = omega (arith, c.apply_all.ensures.survives.clean) in
    let made = c.in_ok-create_from.ensures.makes early serves inside in
    on_ok_weaker c.apply_all.result (fills a b d c.args.first (all_changed c.args.changes.now) made)
    (c.apply_all.ensures.changes clean made.is_open made.inside)

pub returns-clause-opens : goal.returns-clause-opens
returns-clause-opens g c clean inside =
    let b = state g.S.Store c.create_from.new.tx.conn.now in
    let early : HasCleanDisk b = omega (arith, c.apply_all.ensures.survives.clean) in
    let serves = c.in_ok-create_from.ensures.opens early inside in
    let made = c.in_ok-create_from.ensures.makes early serves inside in
    on_ok_weaker c.apply_all.result (λ _. serves) (c.apply_all.ensures.changes clean made.is_open made.inside)
