use Rattle.std.proofs.Common.{◌∙◌}
use Rattle.vet_entries.proofs.Standing.{stand_at, stand_past}
use Rattle.vet_entries.proofs.by_package.stand.Goals as goal

pub returns-in-Some : goal.returns-in-Some
returns-in-Some c = c.cmp.ensures ∙ stand_at c.args.entries.now c.args.name.now c.args.place c.in-Some.held.now
    c.in-Some.ensures.lookup.3.0 c.in-Some.ensures.lookup.1

pub returns-in-None : goal.returns-in-None
returns-in-None c = stand_past c.args.entries.now c.args.name.now c.args.place c.in-None.ensures.lookup.3
