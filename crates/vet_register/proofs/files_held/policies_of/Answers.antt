use Rattle.std.proofs.Common.{◌≡◌, ◌∙◌, [], ap, subst}
use Rattle.std.proofs.lemmas.Result.{IfOk-weaker}
use Rattle.vet_base.specs.Keyed.{all_set}
use Rattle.vet_demand.specs.Policies.{IsInKeyOrder, key_of}
use Rattle.vet_demand.specs.PolicyKey.{policy_key_cmp}
use Rattle.vet_entries.proofs.SetInOrder.{set_in_order}
use Rattle.vet_register.proofs.files_held.policies_of.Goals as goal

pub returns : goal.returns
returns c =
    let given = c.as_slice.ensures.value ∙ c.policies.ensures in
    let copied = c.in_ok-policies.ensures.items_if_clones_equal (λ a b h. h) ∙ given in
    let ordered = subst IsInKeyOrder c.policies.ensures c.as_slice.ensures.in_order in
    IfOk-weaker c.of.result (λ p. p.items ≡ all_set policy_key_cmp key_of [] c.in_ok-policies.policies.items)
    (λ p. p.items ≡ c.args.files.now.policies)
    (λ p is. is ∙ ap (all_set policy_key_cmp key_of []) copied ∙ set_in_order policy_key_cmp key_of
    c.args.files.now.policies ordered)
    c.of.ensures
