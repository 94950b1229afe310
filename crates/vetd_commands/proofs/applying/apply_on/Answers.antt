-- The answer to what is asked and the input, from what the steps ensure.
use Rattle.std.proofs.Common.{◌≡◌, ◌∙◌, ◌≤◌, ◌+◌, ◌++◌, IfSome, List, None, Some, ℕ, ap, arith, drop, length, refl}
use Rattle.std.proofs.Common.{string_bytes, subst, sym}
use Rattle.std.specs.Option.{option_copied}
use Rattle.vet_base.specs.Day.{read_day}
use Rattle.vet_requests.specs.Input.{heard}
use Rattle.vet_base.specs.declared.limits.TheConstants.{MOST_INPUT_BYTES}
use Rattle.vetd_words.specs.Answer.{answer_for, input_read}
use Rattle.vetd_words.specs.ApplyWords.{apply_asked}
use Rattle.vetd_commands.specs.Applying.{AnswersApply, IsUnapplied}
use Rattle.vetd_words.proofs.AnswerLemmas.{read_since}
use Rattle.vetd_words.proofs.Answered.{failed_written, told_written}
use Rattle.vetd_commands.proofs.Applied.{apply_of_input, apply_undone, apply_untold, bad_day, is_no_day, is_that_day}
use Rattle.vetd_commands.proofs.applying.apply_on.Goals as goal
use Rattle.vetd_commands.specs.Making.{FoundBy}

pub returns-in-Err-clause-written : goal.returns-in-Err-clause-written
returns-in-Err-clause-written g c =
    let gives = FoundBy (g.D.Databases.may_find c.args.databases.now) in
    let seen = heard g.R.Read.remaining c.args.reader.now in
    let asked = apply_asked c.args.asked in
    let told = is_no_day (read_day asked.day) c.in-Err.refusal c.in-Err.ensures in
    told_written (AnswersApply g.S.Store gives seen seen (Some asked) None)
    (IsUnapplied g.S.Store gives seen seen (Some asked) None) _
    (bad_day g.S.Store gives seen seen asked c.in-Err.refusal told.0 told.1)
    c.report.result _ _ _ _ c.report.ensures.says c.report.ensures.part c.report.ensures.silent
    (apply_undone g.S.Store gives seen seen (Some asked) c.report.result)

pub returns-in-Err-read_at_most-clause-written : goal.returns-in-Err-read_at_most-clause-written
returns-in-Err-read_at_most-clause-written g c =
    let gives = FoundBy (g.D.Databases.may_find c.args.databases.now) in
    let seen = heard g.R.Read.remaining c.args.reader.now in
    let seen' = heard g.R.Read.remaining c.read_at_most.new.self in
    let asked = apply_asked c.args.asked in
    failed_written (AnswersApply g.S.Store gives seen seen' (Some asked) None)
    (IsUnapplied g.S.Store gives seen seen' (Some asked) None) c.in-Err-read_at_most.fault _ _
    c.in-Err-read_at_most.ensures.faults tt

pub returns-clause-written : goal.returns-clause-written
returns-clause-written g c =
    let gives = FoundBy (g.D.Databases.may_find c.args.databases.now) in
    let seen = heard g.R.Read.remaining c.args.reader.now in
    let seen' = heard g.R.Read.remaining c.read_at_most.new.self in
    let asked = apply_asked c.args.asked in
    let told = c.apply_at-told.result.0 in
    let left = c.apply_at-told.result.1 in
    let is_day = is_that_day (read_day asked.day) c.in-Ok.day c.in-Ok.ensures in
    let giver = option_copied c.bytes_of.result in
    let read = c.in_default.ensures.read in
    let file = c.handed_from.result.now in
    let same = read_since seen seen' read.0 file read.1.1.0 (c.handed_from.ensures
    ∙ ap (λ (s : List ℕ). drop (length s) seen'.handed) c.handed-start.ensures) in
    let kept : seen'.handed ≡ seen.handed ++ file =
    read.1.1.0.kept ∙ ap (λ (bytes : List ℕ). seen.handed ++ bytes) (sym same) in
    let whole : IfSome seen.left (λ input. file ≡ input_read input) =
    subst (λ (bytes : List ℕ). IfSome seen.left (λ input. bytes ≡ input_read input)) (sym same) read.1.1.1 in
    let bound : length file ≤ MOST_INPUT_BYTES + 1 =
    omega (arith, ap length same, read.1.0, c.in_default.ensures.bound) in
    told_written (AnswersApply g.S.Store gives seen seen' (Some asked) left)
    (IsUnapplied g.S.Store gives seen seen' (Some asked) left) (answer_for string_bytes told)
    (apply_of_input g.S.Store gives seen seen' asked c.in-Ok.day is_day file file giver whole kept bound refl
    c.bytes_of.ensures (answer_for string_bytes told) left c.apply_at-told.ensures)
    c.report-status.result _ _ _ _ c.report-status.ensures.says c.report-status.ensures.part
    c.report-status.ensures.silent
    (apply_untold g.S.Store gives seen seen' asked c.in-Ok.day is_day file file giver whole kept bound refl
    c.bytes_of.ensures string_bytes told left c.report-status.result c.apply_at-told.ensures
    c.report-status.ensures.printed)
