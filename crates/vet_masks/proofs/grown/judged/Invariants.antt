-- What was held stays, and each version is judged or still to come.
use Rattle.std.proofs.Common.{◌≡◌, ◌⊎◌, ◌<◌, ℕ, Some, get_or, length}
use Rattle.std.specs.BTreeMap.{get}
use Rattle.std.specs.FinSet as set
use Rattle.std.specs.List.{All, Contains}
use Rattle.vet_base.specs.CriteriaSet.{has}
use Rattle.vet_base.specs.Version.{VersionValue}
use Rattle.vet_base.specs.VersionOrder.{version_cmp}
use Rattle.vet_entries.specs.Condemned.{condemned_by}
use Rattle.vet_masks.proofs.grown.judged.Given as goal

abbrev pub invariant-versions : goal.invariant-versions
invariant-versions l = record {
  next : (goal.iterator-versions).can_next l.version-iterator;
  finite : (goal.iterator-versions).is_finite l.version-iterator;
  long : length l.sets.items ≡ length l.index.after.items;
  known : All (λ e. get version_cmp l.index.numbers e.0 ≡ Some e.1) l.version-iterator;
  held : (n : ℕ) → n < length l.held → get_or l.sets.items n set.empty ≡ get_or l.held n set.empty;
  each : (v : VersionValue) (n : ℕ) → get version_cmp l.index.numbers v ≡ Some n
      → ((c : ℕ) → has c (get_or l.sets.items n set.empty) ≡ condemned_by l.violations c v)
      ⊎ Contains l.version-iterator (v, n);
}
