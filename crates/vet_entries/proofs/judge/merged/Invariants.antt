-- What is merged of the violations so far.
use Rattle.std.proofs.Common.{◌≡◌, ℕ, take}
use Rattle.std.specs.BTreeMap.{get}
use Rattle.std.specs.Cmp.Lexicographic.{slice_cmp}
use Rattle.std.specs.Ordering.{nat_cmp}
use Rattle.vet_base.specs.Version.{VersionValue}
use Rattle.vet_entries.specs.Condemned.{condemned_by}
use Rattle.vet_entries.specs.Judge.{ArePlaced}
use Rattle.vet_entries.proofs.judge.merged.Given as goal

abbrev pub invariant-loop-violation : goal.invariant-loop-violation
invariant-loop-violation l = record {
  placed : ArePlaced l.merged.items (get (slice_cmp nat_cmp) l.places);
  same : (c : ℕ) (v : VersionValue)
      → condemned_by l.merged.items c v ≡ condemned_by (take l.violation-index l.violations) c v;
}
