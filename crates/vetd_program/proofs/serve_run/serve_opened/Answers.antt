-- What came of serving a register that was opened, or why none was.
use Rattle.std.proofs.Common.{◌≡◌, Bool, ap, inl, refl, subst, sym}
use Rattle.sqlite.specs.Held.{state}
use Rattle.vet_store.specs.Beside.{OthersStay}
use Rattle.vetd_words.specs.Answer.{IsWritten, Refuses}
use Rattle.vetd_program.specs.DoneTurns.{LeavesWhereShut}
use Rattle.vetd_program.specs.ServeRun.{Answered, IsServeOver, IsSittingOf, IsUnservedOver}
use Rattle.vetd_program.specs.Serving.{clients_of}
use Rattle.vetd_commands.proofs.Opened.{is_not_opened, is_opened}
use Rattle.vetd_program.proofs.Served.{is_told, over_opened}
use Rattle.vetd_program.proofs.serve_run.serve_opened.Goals as goal

pub returns-in-Err-clause-written : goal.returns-in-Err-clause-written
returns-in-Err-clause-written g c =
    let conn = c.args.conn in
    let refusal = c.into_parts-refusal.result.0 in
    let after = c.into_parts-refusal.result.1 in
    let is = is_not_opened g.S.Store conn c.in-Err.refused.conn after c.in-Err.refused.refusal refusal
    c.into_parts-refusal.ensures.refusal c.into_parts-refusal.ensures.conn c.in-Err.ensures.foreign
    c.in-Err.ensures.none c.in-Err.ensures.refused c.in-Err.ensures.as_before c.in-Err.ensures.crash in
    let clients = clients_of g.N.Network.may_listen g.N.Network.may_come g.N.Network.may_release
    g.N.Network.may_close g.N.Reader.Read.remaining g.N.Writer.Write.contents in
    let network = c.args.network.now in
    is_told (λ answer. IsServeOver g.S.Store clients network network c.args.service conn answer after)
    ((network ≡ network) × IsUnservedOver g.S.Store conn after) (Refuses refusal) (is, refl)
    (refl, inl (refusal, is)) c.report.result _ _ _ _ c.report.ensures.says c.report.ensures.part
    c.report.ensures.silent

pub returns-in-Ok-clause-written : goal.returns-in-Ok-clause-written
returns-in-Ok-clause-written g c =
    let first = c.in-Ok.store in
    let last = c.serve_at_port-status.new.store in
    let after = c.close.result in
    let closed : after ≡ last.conn = c.close.ensures.conn in
    let register = first.register.state in
    let end = last.register.state in
    let h = c.serve_at_port-status.ensures in
    let out = g.W.Write.contents c.args.writer.now in
    let out' = g.W.Write.contents c.serve_at_port-status.new.writer in
    let errors = g.E.Write.contents c.args.errors.now in
    let errors' = g.E.Write.contents c.serve_at_port-status.new.errors in
    let clients = clients_of g.N.Network.may_listen g.N.Network.may_come g.N.Network.may_release
    g.N.Network.may_close g.N.Reader.Read.remaining g.N.Writer.Write.contents in
    let network = c.args.network.now in
    let network' = c.serve_at_port-status.new.network in
    over_opened g.S.Store clients network network' c.args.service c.args.conn first.conn last.conn after register end
    last.shut (last ≡ first)
    (is_opened g.S.Store c.args.conn first.conn first.shut register c.in-Ok.ensures.found c.in-Ok.ensures.only
    c.in-Ok.ensures.tables c.in-Ok.ensures.opened c.in-Ok.ensures.crash)
    (ap (λ s. s.conn)) closed c.close.ensures.tables
    (subst (λ k. OthersStay (state g.S.Store first.conn) (state g.S.Store k)) (sym closed) h.others)
    c.serve_at_port-status.result out out' errors errors'
    (subst (λ (shut : Bool). IsWritten (Answered (IsSittingOf clients network network' c.args.service
    (LeavesWhereShut shut last.shut (state g.S.Store after) end) register end)) ((network' ≡ network) × (last ≡ first))
    c.serve_at_port-status.result out out' errors errors') c.in-Ok.ensures.tables.0
    (subst (λ k. IsWritten (Answered (IsSittingOf clients network network' c.args.service
    (LeavesWhereShut first.shut last.shut (state g.S.Store k) end) register end))
    ((network' ≡ network) × (last ≡ first))
    c.serve_at_port-status.result out out' errors errors') (sym closed) h.written))
