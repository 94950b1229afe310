-- What came of a path is what came of the register there.
use Rattle.std.proofs.Common.{◌≡◌, None, Some, refl}
use Rattle.vetd_words.specs.Answer.{Refuses}
use Rattle.vetd_program.specs.ServeRun.{IsServeAt, IsUnservedAt}
use Rattle.vetd_program.specs.Serving.{clients_of}
use Rattle.vetd_program.proofs.Served.{at_path, is_told}
use Rattle.vetd_program.proofs.serve_run.serve_file.Goals as goal
use Rattle.vetd_commands.specs.Making.{FoundBy}

pub returns-in-Ok-clause-written : goal.returns-in-Ok-clause-written
returns-in-Ok-clause-written g c =
    let clients = clients_of g.N.Network.may_listen g.N.Network.may_come g.N.Network.may_release
    g.N.Network.may_close g.N.Reader.Read.remaining g.N.Writer.Write.contents in
    at_path g.S.Store (FoundBy (g.D.Databases.may_find c.args.databases.now)) clients c.args.network.now
    c.serve_opened-status.new.network c.args.service c.args.path.now c.in-Ok.conn c.serve_opened-status.result.1
    (c.in-Ok.ensures.found, c.in-Ok.ensures.outside)
    c.serve_opened-status.result.0 _ _ _ _
    c.serve_opened-status.ensures.written

pub returns-in-Err-clause-written : goal.returns-in-Err-clause-written
returns-in-Err-clause-written g c =
    let finds = FoundBy (g.D.Databases.may_find c.args.databases.now) in
    let path = c.args.path.now in
    let clients = clients_of g.N.Network.may_listen g.N.Network.may_come g.N.Network.may_release
    g.N.Network.may_close g.N.Reader.Read.remaining g.N.Writer.Write.contents in
    let network = c.args.network.now in
    is_told (λ answer. IsServeAt g.S.Store finds clients network network c.args.service path answer None)
    ((network ≡ network) × IsUnservedAt g.S.Store finds (Some path) None) (Refuses c.in-Err.refusal)
    ((c.in-Err.ensures.found, c.in-Err.ensures.refused), refl) (refl, tt)
    c.report.result _ _ _ _ c.report.ensures.says c.report.ensures.part c.report.ensures.silent
