-- The answer to the words, from what was asked and what came of it.
use Rattle.std.proofs.Common.{None, map, string_bytes}
use Rattle.vetd_commands.specs.Making.{AnswersNew, GivenBy, IsUnmade}
use Rattle.vetd_words.specs.NewAsked.{new_asked}
use Rattle.vetd_words.proofs.HelpLemmas.{help_kept, wrong_kept}
use Rattle.vetd_words.proofs.Answered.{explained_written, told_written}
use Rattle.vetd_commands.proofs.MakingLemmas.{made_of_words, new_explained, told_unmade}
use Rattle.vetd_commands.proofs.making.new_run.Goals as goal

pub returns-in-Ok-clause-written : goal.returns-in-Ok-clause-written
returns-in-Ok-clause-written g c =
    let gives = GivenBy (g.D.Databases.may_give c.args.databases.now) in
    let words = map g.T.AsStr.text c.args.words.now in
    let told = c.make_at-told.result.0 in
    let left = c.make_at-told.result.1 in
    let asked = new_asked c.in-Ok.asked in
    told_written (AnswersNew g.S.Store gives words left) (IsUnmade g.S.Store gives words left) _
    (made_of_words g.S.Store gives string_bytes words asked told left c.in-Ok.ensures.found c.make_at-told.ensures)
    c.report-status.result _ _ _ _ c.report-status.ensures.says c.report-status.ensures.part
    c.report-status.ensures.silent
    (told_unmade g.S.Store gives string_bytes words asked told left c.report-status.result c.in-Ok.ensures.found
    c.make_at-told.ensures c.report-status.ensures.printed)

pub returns-in-Err-clause-written : goal.returns-in-Err-clause-written
returns-in-Err-clause-written g c =
    let gives = GivenBy (g.D.Databases.may_give c.args.databases.now) in
    let words = map g.T.AsStr.text c.args.words.now in
    explained_written (AnswersNew g.S.Store gives words None) (IsUnmade g.S.Store gives words None)
    c.in-Err.error.kind (λ other. new_explained g.S.Store gives words (c.in-Err.ensures.refused other))
    c.explain.result _ _ _ _ c.explain.ensures.says c.explain.ensures.part c.explain.ensures.silent tt

pub returns-in-Err-clause-help : goal.returns-in-Err-clause-help
returns-in-Err-clause-help g c = λ asks.
    let h = c.explain.ensures in
    help_kept (map g.T.AsStr.text c.args.words.now) c.in-Err.error.kind c.explain.result _ _ _ _ c.in-Err.ensures.kinds
    h.silent h.memory h.help h.version asks

pub returns-in-Err-clause-wrong : goal.returns-in-Err-clause-wrong
returns-in-Err-clause-wrong g c = λ nothing none.
    let h = c.explain.ensures in
    wrong_kept (map g.T.AsStr.text c.args.words.now) c.in-Err.error.kind c.explain.result _ _ _ _ c.in-Err.ensures.kinds
    h.silent h.memory h.wrong none

pub returns-in-Ok-clause-help : goal.returns-in-Ok-clause-help
returns-in-Ok-clause-help g c = λ asks. absurd (asks.some c.in-Ok.ensures.clean)

pub returns-in-Ok-clause-wrong : goal.returns-in-Ok-clause-wrong
returns-in-Ok-clause-wrong g c = λ nothing none. absurd (nothing (new_asked c.in-Ok.asked) c.in-Ok.ensures.found)
