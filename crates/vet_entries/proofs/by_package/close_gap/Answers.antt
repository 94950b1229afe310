use Rattle.std.proofs.Common.{rules}
use Rattle.std.proofs.lemmas.List.Edits.{map_over_more}
use Rattle.vet_entries.specs.ByPackage.{down}
use Rattle.vet_entries.proofs.by_package.close_gap.Goals as goal

pub loop-i-preserved : goal.loop-i-preserved
loop-i-preserved c = search (rules, map_over_more (down c.args.place))
