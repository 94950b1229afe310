use Rattle.std.proofs.Common.{ap, ◌∙◌}
use Rattle.std.specs.FinSet as set
use Rattle.vet_base.proofs.SetsByKey.{from_list-all_set}
use Rattle.vet_base.proofs.package_names.PackageNames.of.Goals as goal

pub returns : goal.returns
returns c = ap set.from_list c.in_ok-of.ensures ∙ from_list-all_set c.args.names.items
