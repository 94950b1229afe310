-- The answer to the words, from what was asked and what came of it.
use Rattle.std.proofs.Common.{◌≡◌, None, map, refl}
use Rattle.vetd_words.specs.ServeAsked.{serve_asked}
use Rattle.vetd_program.specs.ServeRun.{AnswersServe, IsUnserved}
use Rattle.vetd_program.specs.Serving.{clients_of}
use Rattle.vetd_words.proofs.HelpLemmas.{help_kept, wrong_kept}
use Rattle.vetd_words.proofs.Answered.{explained_written}
use Rattle.vetd_program.proofs.Served.{of_words, serve_explained}
use Rattle.vetd_program.proofs.serve_run.serve_run.Goals as goal
use Rattle.vetd_commands.specs.Making.{FoundBy}

pub returns-in-Ok-clause-written : goal.returns-in-Ok-clause-written
returns-in-Ok-clause-written g c =
    let clients = clients_of g.N.Network.may_listen g.N.Network.may_come g.N.Network.may_release
    g.N.Network.may_close g.N.Reader.Read.remaining g.N.Writer.Write.contents in
    of_words g.S.Store (FoundBy (g.D.Databases.may_find c.args.databases.now)) clients c.args.network.now
    c.serve_on.new.network (map g.T.AsStr.text c.args.words.now)
    (serve_asked c.in-Ok.asked) c.in-Ok.ensures.found c.serve_on.result.conn c.serve_on.result.status _ _ _ _
    c.serve_on.ensures.written

pub returns-in-Err-clause-written : goal.returns-in-Err-clause-written
returns-in-Err-clause-written g c =
    let finds = FoundBy (g.D.Databases.may_find c.args.databases.now) in
    let words = map g.T.AsStr.text c.args.words.now in
    let clients = clients_of g.N.Network.may_listen g.N.Network.may_come g.N.Network.may_release
    g.N.Network.may_close g.N.Reader.Read.remaining g.N.Writer.Write.contents in
    let network = c.args.network.now in
    explained_written (AnswersServe g.S.Store finds clients network network words None)
    ((network ≡ network) × IsUnserved g.S.Store finds words None) c.in-Err.error.kind
    (λ other. serve_explained g.S.Store finds clients network network words refl (c.in-Err.ensures.refused other))
    c.explain.result _ _ _ _ c.explain.ensures.says c.explain.ensures.part c.explain.ensures.silent
    (refl, tt)

pub returns-in-Err-clause-help : goal.returns-in-Err-clause-help
returns-in-Err-clause-help g c = λ asks.
    let h = c.explain.ensures in
    help_kept (map g.T.AsStr.text c.args.words.now) c.in-Err.error.kind c.explain.result _ _ _ _ c.in-Err.ensures.kinds
    h.silent h.memory h.help h.version asks

pub returns-in-Err-clause-wrong : goal.returns-in-Err-clause-wrong
returns-in-Err-clause-wrong g c = λ nothing none.
    let h = c.explain.ensures in
    wrong_kept (map g.T.AsStr.text c.args.words.now) c.in-Err.error.kind c.explain.result _ _ _ _ c.in-Err.ensures.kinds
    h.silent h.memory h.wrong none

pub returns-in-Ok-clause-help : goal.returns-in-Ok-clause-help
returns-in-Ok-clause-help g c = λ asks. absurd (asks.some c.in-Ok.ensures.clean)

pub returns-in-Ok-clause-wrong : goal.returns-in-Ok-clause-wrong
returns-in-Ok-clause-wrong g c = λ nothing none. absurd (nothing (serve_asked c.in-Ok.asked) c.in-Ok.ensures.found)
