-- The audited ones of the nodes so far.
use Rattle.vet_demand.specs.Audited.{AreAuditedBefore, AreParallel, audited_list}
use Rattle.vet_demand.proofs.audited.audited_of.Given as goal

abbrev pub invariant-nodes : goal.invariant-nodes
invariant-nodes l = record {
  parallel : AreParallel l.audited;
  audited : AreAuditedBefore l.terms.policies.now.items l.terms.criteria.now l.project l.place (audited_list l.audited);
}
