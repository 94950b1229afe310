-- What was read so far was handed over behind what came before, and nothing where no read was left.
use Rattle.std.proofs.Common.{◌≡◌, ◌≤◌, ◌-◌, List, ℕ, length}
use Rattle.vet_base.specs.declared.limits.TheConstants.{MOST_READS}
use Rattle.vet_requests.specs.Input.{Hands, heard}
use Rattle.vet_requests.proofs.input.CountedReader.read_at_most.Given as goal

abbrev pub invariant-loop-count : goal.invariant-loop-count
invariant-loop-count g l = record {
  short : l.count ≤ l.limit;
  read : (bytes : List ℕ) × ((length bytes ≡ l.count)
      × Hands (heard g.R.Read.remaining l.initial.self) (heard g.R.Read.remaining l.self) bytes);
  spent : l.initial.self.made ≡ MOST_READS → (l.count ≡ 0) × (l.self ≡ l.initial.self);
}

abbrev pub decreases-loop-count : goal.decreases-loop-count
decreases-loop-count g l = l.limit - l.count
