use Rattle.vet_graph.proofs.class.is_reached.Goals as goal

pub returns-clause-ok : goal.returns-clause-ok
returns-clause-ok c =
    let met = c.in_ok-reached.ensures.reached c.args.version.now in (
      λ h. met.0 (rw (c.steps.ensures, c.as_slice.ensures.value) at (c.leads_to.ensures.0 h)),
      λ r. c.leads_to.ensures.1 (rw (c.steps.ensures, c.as_slice.ensures.value) (met.1 r)),
    )
