use Rattle.std.proofs.Common.{ap, ◌∙◌}
use Rattle.std.specs.FinSet as set
use Rattle.vet_entries.specs.Mapped.{all_targets}
use Rattle.vet_entries.proofs.Targets.{contains-targets}
use Rattle.vet_entries.proofs.criteria_map.CriteriaMap.leads_to.Goals as goal

pub returns : goal.returns
returns c =
    c.lists.ensures
    ∙ contains-targets c.items.result.now c.args.name.now
    ∙ ap (λ es. set.contains (all_targets es) c.args.name.now) c.items.ensures.entries
