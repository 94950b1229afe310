-- The versions so far are barred.
use Rattle.std.proofs.Common.{◌≡◌, ℕ, Some, get_or, length, take}
use Rattle.std.specs.BTreeMap.{get}
use Rattle.std.specs.FinSet as set
use Rattle.vet_base.specs.CriteriaSet.{has}
use Rattle.vet_base.specs.Version.{VersionValue}
use Rattle.vet_base.specs.VersionOrder.{version_cmp}
use Rattle.vet_masks.specs.Vouched.{barred_by}
use Rattle.vet_masks.proofs.search.bars_of.Given as goal

abbrev pub invariant-barred : goal.invariant-barred
invariant-barred l = record {
  count : length l.bars.items ≡ length l.index.after.items;
  bars : (v : VersionValue) (n c : ℕ) → get version_cmp l.index.numbers v ≡ Some n
      → has c (get_or l.bars.items n set.empty) ≡ barred_by (take l.one-index l.barred) c v;
}
