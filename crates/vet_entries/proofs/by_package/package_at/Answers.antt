use Rattle.std.proofs.Common.{◌∙◌}
use Rattle.vet_entries.proofs.SortedPlaces.{package_is, package_past}
use Rattle.vet_entries.proofs.by_package.package_at.Goals as goal

pub returns-in-Some : goal.returns-in-Some
returns-in-Some c = c.as_str.ensures.value ∙ package_is c.args.entries.now c.args.place c.in-Some.held.now
    c.in-Some.ensures.lookup.3.0 c.in-Some.ensures.lookup.1

pub returns-in-None : goal.returns-in-None
returns-in-None c = package_past c.args.entries.now c.args.place c.in-None.ensures.lookup.3
