use Rattle.std.proofs.Common.{subst}
use Rattle.std.specs.FinMap as map
use Rattle.std.specs.List.{All}
use Rattle.std.proofs.lemmas.List.Elements.{All-filter}
use Rattle.vet_base.specs.FurtherCriteria.{is_further}
use Rattle.vet_item_rows.specs.Values.{IsCriterion}
use Rattle.vet_rows.proofs.held_register.peers.DefinitionsCanBeHeld.is_held.Goals as goal

pub returns : goal.returns
returns c =
    All-filter is_further IsCriterion (map.values c.args.self.now)
    (subst (All IsCriterion) c.criteria.ensures.values c.are_held.ensures)
