use Rattle.std.proofs.Common.{ap, ◌∙◌}
use Rattle.vet_base.specs.Criteria.{placed, safe_to_deploy, safe_to_run}
use Rattle.vet_demand.specs.Passed.{only}
use Rattle.vet_demand.proofs.terms.Terms.of.Goals as goal

pub returns-clause-terms : goal.returns-clause-terms
returns-clause-terms c =
    let criteria = c.args.criteria.now in
    record {
      table = c.names-names.ensures.table;
      names = c.names-names.ensures.names;
      closures = c.closures-closures.ensures;
      deploy = c.close-deploy.ensures.closure criteria (only safe_to_deploy) c.closures-closures.ensures
          (c.set_of.ensures ∙ ap (placed criteria) c.in_ok-deploy.ensures.ok);
      run = c.close-run.ensures.closure criteria (only safe_to_run) c.closures-closures.ensures (c.set_of-2.ensures
          ∙ ap (placed criteria) c.in_ok-run.ensures.ok);
    }
