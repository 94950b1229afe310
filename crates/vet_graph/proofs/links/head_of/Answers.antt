use Rattle.std.proofs.Common.{◌∙◌, sym}
use Rattle.std.specs.BTreeMap.{get}
use Rattle.vet_base.specs.VersionOrder.{version_cmp}
use Rattle.vet_graph.proofs.Linking.{Knows-already}
use Rattle.vet_graph.proofs.links.head_of.Goals as goal

pub returns-in-Some-clause-knows : goal.returns-in-Some-clause-knows
returns-in-Some-clause-knows c =
    Knows-already (get version_cmp c.args.numbers.now) c.args.version.now c.in-Some.head
    (sym c.get.ensures.value ∙ sym c.copied.ensures ∙ c.in-Some.is)
