use Rattle.std.proofs.Common.{rules}
use Rattle.std.proofs.lemmas.List.Edits.{map_over_more}
use Rattle.vet_entries.specs.ByPackage.{up}
use Rattle.vet_entries.proofs.by_package.move_up.Goals as goal

pub loop-i-preserved : goal.loop-i-preserved
loop-i-preserved c = search (rules, map_over_more (up c.args.place))
