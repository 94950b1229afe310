-- The answer to what is asked and the input, from what the steps of a run ensure.
use Rattle.std.proofs.Common.{◌≡◌, ◌∙◌, ◌≤◌, ◌+◌, ◌++◌, IfSome, List, ℕ, ap, arith, drop, length, rules, string_bytes}
use Rattle.std.proofs.Common.{subst, sym}
use Rattle.vet_base.specs.declared.limits.TheConstants.{MOST_INPUT_BYTES}
use Rattle.vet_requests.specs.Input.{heard}
use Rattle.vetd_words.specs.Answer.{input_read}
use Rattle.vetd_words.specs.Asked.{line_told, telling_of}
use Rattle.vetd_words.proofs.AnswerLemmas.{explained_says, explained_stops, read_since, says_all, stops_all}
use Rattle.vetd_words.proofs.run.run.Goals as goal

pub returns-in-Err-clause-says : goal.returns-in-Err-clause-says
returns-in-Err-clause-says g c =
    explained_says _ _ _ c.in-Err.error.kind _ _ _ _ _ (λ other. ap telling_of c.in-Err.is) c.explain.ensures.says

pub returns-in-Err-clause-part : goal.returns-in-Err-clause-part
returns-in-Err-clause-part g c =
    explained_stops _ _ _ c.in-Err.error.kind _ _ _ _ _ (λ other. ap telling_of c.in-Err.is) c.explain.ensures.part

pub returns-clause-says : goal.returns-clause-says
returns-clause-says g c =
    let before = heard g.R.Read.remaining c.args.reader.now in
    let after = heard g.R.Read.remaining c.read_at_most.new.self in
    let read = c.in_ok-read_at_most.ensures.read in
    let file = c.handed_from.result.now in
    let same = read_since before after read.0 file read.1.1.0 (c.handed_from.ensures
    ∙ ap (λ (s : List ℕ). drop (length s) after.handed) c.handed-start.ensures) in
    let bound : length file ≤ MOST_INPUT_BYTES + 1 =
    omega (arith, ap length same, read.1.0, c.in_ok-read_at_most.ensures.bound) in
    says_all string_bytes before after file _ (line_told c.in-Ok.asked) c.line-told.result _ _ _ _ _
    (subst (λ (bytes : List ℕ). IfSome before.left (λ input. bytes ≡ input_read input)) (sym same) read.1.1.1)
    (read.1.1.0.kept ∙ ap (λ (bytes : List ℕ). before.handed ++ bytes) (sym same)) bound
    (ap telling_of c.in-Ok.is) (search rules) c.report.ensures.says

pub returns-clause-part : goal.returns-clause-part
returns-clause-part g c =
    let before = heard g.R.Read.remaining c.args.reader.now in
    let after = heard g.R.Read.remaining c.read_at_most.new.self in
    let read = c.in_ok-read_at_most.ensures.read in
    let file = c.handed_from.result.now in
    let same = read_since before after read.0 file read.1.1.0 (c.handed_from.ensures
    ∙ ap (λ (s : List ℕ). drop (length s) after.handed) c.handed-start.ensures) in
    let bound : length file ≤ MOST_INPUT_BYTES + 1 =
    omega (arith, ap length same, read.1.0, c.in_ok-read_at_most.ensures.bound) in
    stops_all string_bytes before after file _ (line_told c.in-Ok.asked) c.line-told.result _ _ _ _ _
    (subst (λ (bytes : List ℕ). IfSome before.left (λ input. bytes ≡ input_read input)) (sym same) read.1.1.1)
    (read.1.1.0.kept ∙ ap (λ (bytes : List ℕ). before.handed ++ bytes) (sym same)) bound
    (ap telling_of c.in-Ok.is) (search rules) c.report.ensures.part
