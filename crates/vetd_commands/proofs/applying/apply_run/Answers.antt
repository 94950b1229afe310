-- The answer to the words, from what was asked and what came of it.
use Rattle.std.proofs.Common.{◌≡◌, None, Option, ap, inl, inr, map, subst, sym, ◌∙◌}
use Rattle.vet_requests.specs.Input.{heard}
use Rattle.vetd_words.specs.Answer.{IsWritten}
use Rattle.vetd_words.specs.ApplyGiven.{apply_given}
use Rattle.vetd_words.specs.ApplyWords.{ApplyAsked}
use Rattle.vetd_commands.specs.Applying.{AnswersApply, IsUnapplied, day_given}
use Rattle.vetd_words.proofs.HelpLemmas.{help_kept, wrong_kept}
use Rattle.vetd_words.proofs.Answered.{explained_written}
use Rattle.vetd_commands.proofs.Applied.{apply_explained}
use Rattle.vetd_words.proofs.RunLemmas.{is_for_want}
use Rattle.vetd_commands.proofs.applying.apply_run.Goals as goal
use Rattle.vetd_commands.specs.Making.{FoundBy}

pub returns-in-Ok-clause-written : goal.returns-in-Ok-clause-written
returns-in-Ok-clause-written g c =
    let gives = FoundBy (g.D.Databases.may_find c.args.databases.now) in
    let seen = heard g.R.Read.remaining c.args.reader.now in
    let seen' = heard g.R.Read.remaining c.apply_on.new.reader in
    let left = c.apply_on.result.conn in
    subst (λ (meant : Option ApplyAsked). IsWritten (AnswersApply g.S.Store gives seen seen' meant left)
    (IsUnapplied g.S.Store gives seen seen' meant left) c.apply_on.result.status
    (g.W.Write.contents c.args.writer.now) (g.W.Write.contents c.apply_on.new.writer)
    (g.E.Write.contents c.args.errors.now) (g.E.Write.contents c.apply_on.new.errors))
    (sym c.in-Ok.ensures.found) c.apply_on.ensures.written

pub returns-in-Ok-clause-unread : goal.returns-in-Ok-clause-unread
returns-in-Ok-clause-unread g c = λ none.
    c.apply_on.ensures.unread (ap day_given (sym c.in-Ok.ensures.found) ∙ none)

pub returns-in-Ok-clause-unfailing : goal.returns-in-Ok-clause-unfailing
returns-in-Ok-clause-unfailing g c = λ none.
    c.apply_on.ensures.unfailing (ap day_given (sym c.in-Ok.ensures.found) ∙ none)

pub returns-in-Ok-clause-spent : goal.returns-in-Ok-clause-spent
returns-in-Ok-clause-spent g c = λ spent some.
    inl (c.apply_on.ensures.spent spent (λ none. some (ap day_given c.in-Ok.ensures.found ∙ none)))

pub returns-in-Err-clause-written : goal.returns-in-Err-clause-written
returns-in-Err-clause-written g c =
    let gives = FoundBy (g.D.Databases.may_find c.args.databases.now) in
    let seen = heard g.R.Read.remaining c.args.reader.now in
    let meant = apply_given (map g.T.AsStr.text c.args.words.now) in
    explained_written (AnswersApply g.S.Store gives seen seen meant None)
    (IsUnapplied g.S.Store gives seen seen meant None)
    c.in-Err.error.kind (λ other. apply_explained g.S.Store gives seen seen meant (c.in-Err.ensures.refused other))
    c.explain.result _ _ _ _ c.explain.ensures.says c.explain.ensures.part c.explain.ensures.silent tt

pub returns-in-Err-clause-spent : goal.returns-in-Err-clause-spent
returns-in-Err-clause-spent g c = λ spent some.
    inr (is_for_want (apply_given (map g.T.AsStr.text c.args.words.now) ≡ None) c.in-Err.error.kind c.explain.result
    c.in-Err.ensures.refused c.explain.ensures.memory (λ none. some (ap day_given none)))

pub returns-in-Err-clause-help : goal.returns-in-Err-clause-help
returns-in-Err-clause-help g c = λ asks.
    let h = c.explain.ensures in
    help_kept (map g.T.AsStr.text c.args.words.now) c.in-Err.error.kind c.explain.result _ _ _ _ c.in-Err.ensures.kinds
    h.silent h.memory h.help h.version asks

pub returns-in-Err-clause-wrong : goal.returns-in-Err-clause-wrong
returns-in-Err-clause-wrong g c = λ nothing none.
    let h = c.explain.ensures in
    wrong_kept (map g.T.AsStr.text c.args.words.now) c.in-Err.error.kind c.explain.result _ _ _ _ c.in-Err.ensures.kinds
    h.silent h.memory h.wrong none

pub returns-in-Ok-clause-help : goal.returns-in-Ok-clause-help
returns-in-Ok-clause-help g c = λ asks. absurd (asks.some c.in-Ok.ensures.clean)

pub returns-in-Ok-clause-wrong : goal.returns-in-Ok-clause-wrong
returns-in-Ok-clause-wrong g c = λ nothing none. absurd (let two = sym c.in-Ok.ensures.found ∙ nothing in cc)
