use Rattle.std.proofs.Common.{◌≡◌, is_none, true, sym, ◌∙◌, rules, tests}
use Rattle.std.proofs.lemmas.Iterator.{YieldsList-from_slice}
use Rattle.std.proofs.lemmas.Iterator.Search.{all_from_yields_List}
use Rattle.vet_base.specs.Criteria.{least_unknown}
use Rattle.vet_demand.specs.PolicyNames.{names_in}
use Rattle.vet_demand.specs.declared.policies.KeyedPolicy.{KeyedPolicy}
use Rattle.vet_demand.proofs.Naming.{known-Decides}
use Rattle.vet_demand.proofs.policy_names.are_known.Goals as goal

pub returns : goal.returns
returns c =
    let criteria = c.args.criteria.now in
    let policies = c.args.policies.now in
    let told = all_from_yields_List (λ (k : KeyedPolicy). is_none (least_unknown criteria (names_in k.policy))) _ _
    c.all.result c.all.ensures.ran (YieldsList-from_slice policies cc) (λ x r q k. search (rules, tests)) in (
      λ t. (known-Decides criteria policies).0 (sym told ∙ t),
      λ known. told ∙ (known-Decides criteria policies).1 known,
    )
