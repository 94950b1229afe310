use Rattle.std.proofs.Common.{◌∙◌}
use Rattle.vet_demand.proofs.Merging.{beside-push}
use Rattle.vet_demand.specs.Audited.{audited_nodes}
use Rattle.vet_demand.proofs.audited.AuditedNodes.push.Goals as goal

pub returns-clause-pushed : goal.returns-clause-pushed
returns-clause-pushed c =
    (λ i. audited_nodes (c.in_ok-push.ensures.items i) (c.in_ok-push-2.ensures.items i))
    ∙ beside-push c.args.self.now.nodes.items c.args.self.now.needs.items c.args.node c.args.needs c.requires
