use Rattle.std.proofs.Common.{sym, ◌∙◌}
use Rattle.vet_entries.proofs.MappedCriteria.{len_in}
use Rattle.vet_entries.proofs.criteria_map.CriteriaMap.len.Goals as goal

pub returns : goal.returns
returns c = c.len.ensures ∙ sym (len_in c.self.inside.items.items c.args.self.now c.self.invariant c.self.view_is)
