-- The answer to the words, from what was asked and what came of it.
use Rattle.std.proofs.Common.{◌∙◌, None, map, string_bytes, sym}
use Rattle.vetd_words.specs.ViewWords.{view_asked, view_given}
use Rattle.vetd_commands.specs.Viewing.{AnswersView, IsUntold}
use Rattle.vetd_words.proofs.HelpLemmas.{help_kept, wrong_kept}
use Rattle.vetd_words.proofs.Answered.{explained_written, told_written}
use Rattle.vetd_commands.proofs.Viewed.{view_explained, view_of_words, view_untold}
use Rattle.vetd_commands.proofs.viewing.view_run.Goals as goal
use Rattle.vetd_commands.specs.Making.{FoundBy}

pub returns-in-Ok-clause-written : goal.returns-in-Ok-clause-written
returns-in-Ok-clause-written g c =
    let gives = FoundBy (g.D.Databases.may_find c.args.databases.now) in
    let meant = view_given c.args.command (map g.T.AsStr.text c.args.words.now) in
    let told = c.view_at-told.result.0 in
    let left = c.view_at-told.result.1 in
    let asked = view_asked c.in-Ok.asked in
    told_written (AnswersView g.S.Store gives meant left) (IsUntold g.S.Store gives meant left) _
    (view_of_words g.S.Store gives string_bytes meant asked c.in-Ok.ensures.found told left c.view_at-told.ensures)
    c.report-status.result _ _ _ _ c.report-status.ensures.says c.report-status.ensures.part
    c.report-status.ensures.silent
    (view_untold g.S.Store gives string_bytes meant asked c.in-Ok.ensures.found told left c.report-status.result
    c.view_at-told.ensures c.report-status.ensures.printed)

pub returns-in-Err-clause-written : goal.returns-in-Err-clause-written
returns-in-Err-clause-written g c =
    let gives = FoundBy (g.D.Databases.may_find c.args.databases.now) in
    let meant = view_given c.args.command (map g.T.AsStr.text c.args.words.now) in
    explained_written (AnswersView g.S.Store gives meant None) (IsUntold g.S.Store gives meant None)
    c.in-Err.error.kind (λ other. view_explained g.S.Store gives meant (c.in-Err.ensures.refused other))
    c.explain.result _ _ _ _ c.explain.ensures.says c.explain.ensures.part c.explain.ensures.silent tt

pub returns-in-Err-clause-help : goal.returns-in-Err-clause-help
returns-in-Err-clause-help g c = λ asks.
    let h = c.explain.ensures in
    help_kept (map g.T.AsStr.text c.args.words.now) c.in-Err.error.kind c.explain.result _ _ _ _ c.in-Err.ensures.kinds
    h.silent h.memory h.help h.version asks

pub returns-in-Err-clause-wrong : goal.returns-in-Err-clause-wrong
returns-in-Err-clause-wrong g c = λ nothing none.
    let h = c.explain.ensures in
    wrong_kept (map g.T.AsStr.text c.args.words.now) c.in-Err.error.kind c.explain.result _ _ _ _ c.in-Err.ensures.kinds
    h.silent h.memory h.wrong none

pub returns-in-Ok-clause-help : goal.returns-in-Ok-clause-help
returns-in-Ok-clause-help g c = λ asks. absurd (asks.some c.in-Ok.ensures.clean)

pub returns-in-Ok-clause-wrong : goal.returns-in-Ok-clause-wrong
returns-in-Ok-clause-wrong g c = λ nothing none. absurd (let two = sym c.in-Ok.ensures.found ∙ nothing in cc)
