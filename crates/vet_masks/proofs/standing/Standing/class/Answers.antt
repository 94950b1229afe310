use Rattle.std.proofs.Common.{sym, ap, ◌∙◌}
use Rattle.vet_demand.specs.declared.pair.Pair.{Pair}
use Rattle.vet_graph.specs.Standing.{class_in}
use Rattle.vet_masks.proofs.Standings.{all-in_order, class-by_package}
use Rattle.vet_masks.proofs.standing.Standing.class.Goals as goal

pub returns-clause-value : goal.returns-clause-value
returns-clause-value c =
    let pair : Pair = record {
      «package» = c.args.«package».now;
      version = c.args.version.now;
      criterion = c.args.criterion.now;
    } in
    c.class_in.ensures ∙ ap (λ stands. class_in stands pair) c.of.ensures.value
    ∙ sym (class-by_package c.args.self.now pair c.of.ensures.by_package)

pub returns-clause-in_order : goal.returns-clause-in_order
returns-clause-in_order c = all-in_order c.args.self.now c.of.ensures.by_package
