use Rattle.std.proofs.Common.{◌≡◌, [], ◌∷◌, ◌++◌, None, ap, ◌∙◌}
use Rattle.std.specs.FinSet as set
use Rattle.vet_base.specs.Names.{NameSet}
use Rattle.vet_base.specs.Criteria.{safe_to_run, safe_to_deploy, run_criterion, deploy_criterion}
use Rattle.vet_base.proofs.definitions.list_built_in.Goals as goal

pub returns-clause-ok : goal.returns-clause-ok
returns-clause-ok c =
    let name : c.in_ok-parse.field-0 ≡ safe_to_run = (let told = c.in_ok-parse.ensures.told in cc told) in
    let implies : ◌≡◌ {A = NameSet} c.insert.new.self (set.insert set.empty safe_to_run) =
    c.in_ok-insert.ensures.ok ∙ (λ i. set.insert (c.new-implied.ensures i) (name i)) in
    let deploy : c.in_ok-built_in.field-0 ≡ deploy_criterion =
    c.in_ok-built_in.ensures.ok
    ∙ (λ i. record { name = safe_to_deploy; description = None; url = None; implies = implies i }) in
    let none : ◌≡◌ {A = NameSet} c.new.result set.empty = c.new.ensures in
    let run : c.in_ok-built_in-2.field-0 ≡ run_criterion =
    c.in_ok-built_in-2.ensures.ok
    ∙ (λ i. record { name = safe_to_run; description = None; url = None; implies = none i }) in
    c.in_ok-push-2.ensures.items
    ∙ ap (λ xs. xs ++ c.in_ok-built_in-2.field-0 ∷ [])
    (c.in_ok-push.ensures.items ∙ ap (λ xs. xs ++ c.in_ok-built_in.field-0 ∷ []) c.requires)
    ∙ (λ i. deploy i ∷ run i ∷ [])
