-- What came of what is asked for, by whether its day is one and a path is told.
use Rattle.std.proofs.Common.{◌≡◌, None, ap, option_map, refl}
use Rattle.vetd_words.specs.Answer.{Refuses}
use Rattle.vetd_words.specs.ServeAsked.{serve_asked}
use Rattle.vetd_program.specs.ServeRun.{IsServeOn, IsUnservedAt, day_told}
use Rattle.vetd_program.specs.Serving.{clients_of}
use Rattle.vetd_program.proofs.Served.{bad_day, is_told, on_none, on_path}
use Rattle.vetd_program.proofs.serve_run.serve_on.Goals as goal
use Rattle.vetd_commands.specs.Making.{FoundBy}

pub returns-in-Err-clause-written : goal.returns-in-Err-clause-written
returns-in-Err-clause-written g c =
    let finds = FoundBy (g.D.Databases.may_find c.args.databases.now) in
    let asked = serve_asked c.args.asked in
    let refusal = c.in-Err.refusal in
    let clients = clients_of g.N.Network.may_listen g.N.Network.may_come g.N.Network.may_release
    g.N.Network.may_close g.N.Reader.Read.remaining g.N.Writer.Write.contents in
    let network = c.args.network.now in
    is_told (λ answer. IsServeOn g.S.Store finds clients network network asked (day_told asked.day) answer None)
    ((network ≡ network) × IsUnservedAt g.S.Store finds asked.path None) (Refuses refusal)
    (bad_day g.S.Store finds clients network network asked refusal refl c.in-Err.ensures.day) (refl, tt)
    c.report.result _ _ _ _
    c.report.ensures.says
    c.report.ensures.part c.report.ensures.silent

pub returns-in-Some-clause-written : goal.returns-in-Some-clause-written
returns-in-Some-clause-written g c =
    let clients = clients_of g.N.Network.may_listen g.N.Network.may_come g.N.Network.may_release
    g.N.Network.may_close g.N.Reader.Read.remaining g.N.Writer.Write.contents in
    on_path g.S.Store (FoundBy (g.D.Databases.may_find c.args.databases.now)) clients c.args.network.now
    c.serve_file.new.network (serve_asked c.args.asked)
    c.in-Ok.service
    c.in-Ok.ensures.day c.in-Ok.ensures.same c.serve_file.result.conn c.in-Some.path.now
    (ap (option_map (λ path. path.now)) c.in-Some.is) c.serve_file.result.status _ _ _ _ c.serve_file.ensures.written

pub returns-in-None-clause-written : goal.returns-in-None-clause-written
returns-in-None-clause-written g c =
    let clients = clients_of g.N.Network.may_listen g.N.Network.may_come g.N.Network.may_release
    g.N.Network.may_close g.N.Reader.Read.remaining g.N.Writer.Write.contents in
    on_none g.S.Store (FoundBy (g.D.Databases.may_find c.args.databases.now)) clients c.args.network.now
    c.serve_memory.new.network (serve_asked c.args.asked)
    c.in-Ok.service c.in-Ok.ensures.day c.in-Ok.ensures.same None (ap (option_map (λ path. path.now)) c.in-None.is) refl
    c.serve_memory.result _ _ _ _ c.serve_memory.ensures.written
