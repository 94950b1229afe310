use Rattle.std.proofs.Common.{IfErr, ◌≡◌, Err, sym, subst, arith}
use Rattle.vet_demand.proofs.KeyLemmas.{told_at_colon}
use Rattle.vet_demand.proofs.policy_key.PolicyKey.parse.Goals as goal

pub returns-in-Some-clause-refused : goal.returns-in-Some-clause-refused
returns-in-Some-clause-refused c =
    let split = c.in-Some.ensures.byte (omega arith) (λ w o h. h) in
    let told = told_at_colon c.args.text.now c.in-Some.name.now c.in-Some.version.now split.2 split.0 split.1 in
    subst (λ t. IfErr t (λ e. c.versioned.result ≡ Err e)) (sym told) c.versioned.ensures.refused
