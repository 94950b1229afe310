use Rattle.std.proofs.Common.{◌≡◌, Some}
use Rattle.vet_demand.specs.PolicyKey.{key_text, read_key}
use Rattle.vet_demand.specs.declared.policies.KeyedPolicy.{KeyedPolicy}
use Rattle.vet_rows.proofs.SoFar.{one_more}
use Rattle.vet_rows.proofs.row_changes.key_texts.keys_are_read.Goals as goal

pub policies-preserved : goal.policies-preserved
policies-preserved c =
    one_more (λ (p : KeyedPolicy). read_key (key_text p.key) ≡ Some p.key)
    c.args.policies.now c.policies.policy-index c.policy-item.result c.policies-test.true c.policy-item.is
    c.policies.invariant c.key_text_reads_back.ensures
