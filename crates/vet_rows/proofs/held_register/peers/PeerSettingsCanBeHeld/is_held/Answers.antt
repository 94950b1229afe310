use Rattle.std.proofs.Common.{subst}
use Rattle.std.specs.List.{All}
use Rattle.std.proofs.lemmas.List.Elements.{All-map}
use Rattle.vet_entries.specs.declared.criteria_map.MappedCriterion.{MappedCriterion}
use Rattle.vet_item_rows.specs.ReadFacts.{IsMapped}
use Rattle.vet_rows.proofs.held_register.peers.PeerSettingsCanBeHeld.is_held.Goals as goal

pub returns : goal.returns
returns c = record {
  name = c.is_held.ensures;
  url = c.is_held-2.ensures;
  exclude = c.is_held-3.ensures;
  map = subst (All IsMapped) c.items.ensures.entries
      (All-map IsMapped (λ (m : MappedCriterion). (m.name, m.criteria)) c.items.result.now c.are_held.ensures);
}
