-- What each of the criteria so far stands for.
use Rattle.std.proofs.Common.{◌≡◌, ℕ, ◌<◌, get_or, length, []}
use Rattle.std.specs.FinSet as set
use Rattle.vet_base.specs.declared.limits.TheConstants.{MOST_CRITERIA as most}
use Rattle.vet_base.specs.Criteria.{placed}
use Rattle.vet_entries.specs.LocalCriteria.{direct}
use Rattle.vet_entries.proofs.local_criteria.direct_words.Given as goal

abbrev pub invariant-loop-place : goal.invariant-loop-place
invariant-loop-place l = record {
  long : length l.words ≡ most;
  below : (p : ℕ) → p < l.place
      → get_or l.words p set.empty ≡ placed l.criteria (direct l.definitions l.map (get_or l.names p []));
}
