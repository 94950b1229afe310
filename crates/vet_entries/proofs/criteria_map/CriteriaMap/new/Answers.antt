use Rattle.vet_entries.proofs.MappedCriteria.{no_items}
use Rattle.vet_entries.proofs.criteria_map.CriteriaMap.new.Goals as goal

pub returns : goal.returns
returns c = no_items c.new.result.items c.new.ensures
