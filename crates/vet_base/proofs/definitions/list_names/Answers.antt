use Rattle.std.proofs.Common.{◌≡◌, [], ◌∷◌, ◌++◌, ap, ◌∙◌}
use Rattle.vet_base.specs.Criteria.{safe_to_run, safe_to_deploy}
use Rattle.vet_base.proofs.definitions.list_names.Goals as goal

pub returns-clause-ok : goal.returns-clause-ok
returns-clause-ok c =
    let a : c.in_ok-parse.field-0 ≡ safe_to_deploy = (let told = c.in_ok-parse.ensures.told in cc told) in
    let b : c.in_ok-parse-2.field-0 ≡ safe_to_run = (let told = c.in_ok-parse-2.ensures.told in cc told) in
    c.in_ok-push-2.ensures.items
    ∙ ap (λ xs. xs ++ c.in_ok-parse-2.field-0 ∷ [])
    (c.in_ok-push.ensures.items ∙ ap (λ xs. xs ++ c.in_ok-parse.field-0 ∷ []) c.requires)
    ∙ (λ i. a i ∷ b i ∷ [])
