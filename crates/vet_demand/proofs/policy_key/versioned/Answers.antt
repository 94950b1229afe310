use Rattle.std.proofs.lemmas.Result.{err_from_is_err_and}
use Rattle.vet_demand.proofs.KeyLemmas.{version_refused}
use Rattle.vet_demand.proofs.policy_key.versioned.Goals as goal

pub returns-in_err-parse-in-Err-clause-refused : goal.returns-in_err-parse-in-Err-clause-refused
returns-in_err-parse-in-Err-clause-refused c =
    let passed = err_from_is_err_and c.from_residual-in_err-parse-in-Err.result
    c.from_residual-in_err-parse-in-Err.ensures.1 in
    rw (passed.1, passed.2) (version_refused c.args.name.now c.args.version.now _
    (λ none. cc (c.in-Err.ensures.no_name none)) (λ none. cc (c.in_err-parse-in-Err.ensures.refused none)))
