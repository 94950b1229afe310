use Rattle.std.proofs.Common.{◌≡◌, ◌∙◌, Err, Ok, ap, subst, sym}
use Rattle.std.proofs.lemmas.Result.{err_from_is_err_and}
use Rattle.std.specs.FinMap as table
use Rattle.vet_base.specs.declared.refusal.Refusal.TheVariants.{CriterionInUse}
use Rattle.vet_base.specs.Defined.{defined}
use Rattle.vet_base.specs.Gives.{Gives, refuse_if, ◌>>=◌}
use Rattle.vet_register.specs.NamesOfFiles.{counted}
use Rattle.vet_register.specs.Verdict.{files_limits, files_references, names_beyond}
use Rattle.vet_base.proofs.Telling.{answered}
use Rattle.vet_register.proofs.FilesAccepted.{gives_itself, refuses_first, same_beyond}
use Rattle.vet_register.proofs.register.Register.check_files.Goals as goal

pub returns-in_err-check_references : goal.returns-in_err-check_references
returns-in_err-check_references g c day =
    let state = c.args.self.now.state in
    let files = c.args.files.now in
    let rules = refuse_if (names_beyond state (defined files.criteria)) CriterionInUse in
    let fit = sym c.check_files_limits.ensures ∙ c.in_ok-check_files_limits.was in
    let few = ap (λ cs. counted (defined cs)) (sym c.criteria.ensures) ∙ c.in_ok-known.ensures.told in
    let asked = ap (λ t. (t >>= λ _. files_limits state files) >>= λ _. files_references files >>= λ _. rules) few
    ∙ ap (λ t. t >>= λ _. files_references files >>= λ _. rules) fit in
    let passed = err_from_is_err_and c.from_residual-in_err-check_references.result
    c.from_residual-in_err-check_references.ensures.1 in
    rw (passed.1, passed.2)
    (subst (λ t. Gives (λ u. u) t (Err c.in_err-check_references.field-0.0)) (sym asked)
    (refuses_first (files_references files) rules _ c.in_err-check_references.ensures))

pub returns : goal.returns
returns g c day =
    let state = c.args.self.now.state in
    let files = c.args.files.now in
    let rules = refuse_if (names_beyond state (defined files.criteria)) CriterionInUse in
    let fit = sym c.check_files_limits.ensures ∙ c.in_ok-check_files_limits.was in
    let few = ap (λ cs. counted (defined cs)) (sym c.criteria.ensures) ∙ c.in_ok-known.ensures.told in
    let known : files_references files ≡ Ok tt = answered _ _ c.in_ok-check_references.ensures in
    let asked = ap (λ t. (t >>= λ _. files_limits state files) >>= λ _. files_references files >>= λ _. rules) few
    ∙ ap (λ t. t >>= λ _. files_references files >>= λ _. rules) fit ∙ ap (λ t. t >>= λ _. rules) known in
    let same = same_beyond state c.in_ok-known.known.table (defined files.criteria)
    (λ n. c.in_ok-known.ensures.table n ∙ ap (λ cs. table.contains_key (defined cs) n) c.criteria.ensures) in
    let left = c.check_kept.result in
    let told : left ≡ rules = c.check_kept.ensures ∙ ap (λ b. refuse_if b CriterionInUse) same in
    subst (λ t. Gives (λ u. u) t left) (sym asked) (gives_itself rules left told)
