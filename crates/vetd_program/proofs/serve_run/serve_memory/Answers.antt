-- What came of serving a new register in memory, or why none was made.
use Rattle.std.proofs.Common.{◌≡◌, refl}
use Rattle.vetd_words.specs.Answer.{Refuses}
use Rattle.vetd_program.specs.ServeRun.{IsServeInMemory}
use Rattle.vetd_program.specs.Serving.{clients_of}
use Rattle.vetd_program.proofs.Served.{is_told, of_memory}
use Rattle.vetd_program.proofs.serve_run.serve_memory.Goals as goal

pub returns-in-Ok-clause-written : goal.returns-in-Ok-clause-written
returns-in-Ok-clause-written g c =
    let first = c.in-Ok.store in
    let last = c.serve_at_port.new.store in
    let clients = clients_of g.N.Network.may_listen g.N.Network.may_come g.N.Network.may_release
    g.N.Network.may_close g.N.Reader.Read.remaining g.N.Writer.Write.contents in
    of_memory clients c.args.network.now c.serve_at_port.new.network c.args.service _ (last ≡ first)
    first.register.state last.register.state c.in-Ok.ensures.start
    c.serve_at_port.result _ _ _ _ c.serve_at_port.ensures.written

pub returns-in-Err-clause-written : goal.returns-in-Err-clause-written
returns-in-Err-clause-written g c =
    let clients = clients_of g.N.Network.may_listen g.N.Network.may_come g.N.Network.may_release
    g.N.Network.may_close g.N.Reader.Read.remaining g.N.Writer.Write.contents in
    let network = c.args.network.now in
    is_told (IsServeInMemory clients network network c.args.service) (network ≡ network) (Refuses c.in-Err.refusal)
    (c.in-Err.ensures.refused, refl) refl c.report.result _ _ _ _ c.report.ensures.says c.report.ensures.part
    c.report.ensures.silent
