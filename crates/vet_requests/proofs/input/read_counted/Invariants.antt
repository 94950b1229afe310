-- Interrupted reads take no byte, and each is counted.
use Rattle.std.proofs.Common.{◌-◌, ◌≡◌, ◌≤◌, length}
use Rattle.std.specs.Io.KnownBytes.{Keeps}
use Rattle.vet_base.specs.declared.limits.TheConstants.{MOST_READS}
use Rattle.vet_requests.proofs.input.read_counted.Given as goal

abbrev pub invariant-loop-made : goal.invariant-loop-made
invariant-loop-made g l = record {
  room : length l.buf ≡ length l.initial.buf;
  within : l.made ≤ MOST_READS;
  kept : Keeps (g.R.Read.remaining l.initial.source) (g.R.Read.remaining l.source);
}

abbrev pub decreases-loop-made : goal.decreases-loop-made
decreases-loop-made g l = MOST_READS - l.made
