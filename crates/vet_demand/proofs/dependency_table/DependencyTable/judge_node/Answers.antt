use Rattle.std.proofs.Common.{◌∙◌, ap, sym, rules}
use Rattle.vet_demand.specs.DependencyTable.{double_told}
use Rattle.vet_demand.proofs.TableLemmas.{double_refused}
use Rattle.vet_demand.proofs.dependency_table.DependencyTable.judge_node.Goals as goal

pub returns-in_err-judge_double : goal.returns-in_err-judge_double
returns-in_err-judge_double c =
    let n = c.args.node.now in
    let told = double_refused c.args.number c.self.inside.nodes.keys n c.in_err-judge_double.field-0.0
    (c.if-node-len.false ∙ c.len.ensures.len)
    (ap (double_told c.args.number n.node.party) (sym c.get.ensures.key) ∙ sym c.judge_double.ensures
    ∙ c.in_err-judge_double.was) in
    rw (← c.self.view_is, told) (search rules)
