-- Each read that goes on takes bytes.
use Rattle.std.proofs.Common.{◌-◌}
use Rattle.vetd.proofs.timed.read_away.Given as goal

abbrev pub decreases-away : goal.decreases-away
decreases-away g l = 33554432 - l.taken
