-- What each of the criteria so far stands for with all that it implies.
use Rattle.std.proofs.Common.{◌≡◌, ℕ, ◌<◌, get_or, length, []}
use Rattle.std.specs.FinSet as set
use Rattle.vet_base.specs.declared.limits.TheConstants.{MOST_CRITERIA as most}
use Rattle.std.specs.FinMap as map
use Rattle.vet_entries.specs.LocalCriteria.{stands_for}
use Rattle.vet_entries.proofs.local_criteria.PeerWords.of.Given as goal

abbrev pub invariant-loop-place : goal.invariant-loop-place
invariant-loop-place l = record {
  long : length l.stands ≡ most;
  below : (p : ℕ) → p < l.place
      → get_or l.stands p set.empty ≡ stands_for l.criteria l.peer (get_or (map.keys l.peer.content.table) p []);
}
