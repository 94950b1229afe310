-- The criteria for which the violations so far condemn the version.
use Rattle.std.proofs.Common.{◌≡◌, ℕ, take}
use Rattle.vet_base.specs.CriteriaSet.{has}
use Rattle.vet_entries.specs.Condemned.{condemned_by}
use Rattle.vet_entries.proofs.condemned.condemned_by.Given as goal

abbrev pub invariant-loop-violation : goal.invariant-loop-violation
invariant-loop-violation l = (c : ℕ) → has c l.condemned ≡ condemned_by (take l.violation-index l.violations) c
    l.version
