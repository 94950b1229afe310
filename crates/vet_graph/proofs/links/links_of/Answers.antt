use Rattle.std.specs.BTreeMap.{get}
use Rattle.vet_base.specs.VersionOrder.{version_cmp}
use Rattle.vet_graph.proofs.Linking.{IsLinked-from}
use Rattle.vet_graph.proofs.links.links_of.Goals as goal

pub returns-clause-ok : goal.returns-clause-ok
returns-clause-ok c =
    IsLinked-from c.args.steps.now (get version_cmp c.in_ok-found.found.numbers) _ c.in_ok-found.ensures.ok
    c.in_ok-filed.ensures.ok
