use Rattle.std.proofs.Common.{◌≡◌, ◌∙◌, ap}
use Rattle.std.proofs.lemmas.Result.{IfOk-weaker}
use Rattle.vet_demand.specs.Policies.{in_key_order, key_of}
use Rattle.vet_demand.specs.PolicyKey.{policy_key_cmp}
use Rattle.vet_entries.proofs.SetInOrder.{set_in_order}
use Rattle.vet_register.proofs.held_files.policies_copied.Goals as goal

pub returns : goal.returns
returns c =
    let copied = c.in_ok-to_vec.ensures.items_if_clones_equal (λ a b h. h) in
    IfOk-weaker c.of.result (λ copies. copies ≡ in_key_order c.in_ok-to_vec.field-0.items)
    (λ copies. copies ≡ c.args.policies.now)
    (λ copies is. is ∙ ap in_key_order copied ∙ set_in_order policy_key_cmp key_of c.args.policies.now c.requires)
    c.of.ensures
