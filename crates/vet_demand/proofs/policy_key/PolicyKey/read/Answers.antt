use Rattle.vet_demand.proofs.KeyLemmas.{not_for_memory}
use Rattle.vet_demand.proofs.policy_key.PolicyKey.read.Goals as goal

pub returns-in-Err-NoMemory-clause-no_key : goal.returns-in-Err-NoMemory-clause-no_key
returns-in-Err-NoMemory-clause-no_key c none =
    absurd (not_for_memory c.args.text.now c.in-Err-NoMemory.field-0 c.in-Err-NoMemory.ensures.refused
    c.in-Err-NoMemory.field-0-is none)
