use Rattle.std.proofs.Common.{◌∙◌, sym}
use Rattle.vet_demand.proofs.TableLemmas.{IsTable-node, without_fault}
use Rattle.vet_demand.proofs.dependency_table.DependencyTable.take_node.Goals as goal

pub invariant_of-self-2 : goal.invariant_of-self-2
invariant_of-self-2 c =
    let told = rw (← c.self.view_is) at (sym c.judge_node.ensures ∙ c.in_ok-judge_node.was) in
    let n = c.args.node in
    let fine = without_fault c.args.number c.self.inside.nodes.keys n told in (
      rw c.in_ok-insert.ensures.keys
          (IsTable-node c.self.inside.nodes.keys c.self.inside.edges.items n c.self.invariant.0 fine.0 fine.1 fine.2),
      c.self.invariant.1,
    )
