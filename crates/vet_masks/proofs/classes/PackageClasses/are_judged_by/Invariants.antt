-- Each version is judged alike, or it is still to come.
use Rattle.std.proofs.Common.{◌≡◌, Some}
use Rattle.std.specs.BTreeMap.{get}
use Rattle.std.specs.List.{All}
use Rattle.vet_base.specs.VersionOrder.{version_cmp}
use Rattle.vet_entries.specs.Condemned.{condemned_by}
use Rattle.vet_masks.proofs.Indexing.{numbers_in}
use Rattle.vet_masks.proofs.Judging.{AreJudgedBut}
use Rattle.vet_masks.proofs.classes.PackageClasses.are_judged_by.Given as goal

abbrev pub invariant-versions : goal.invariant-versions
invariant-versions l = record {
  next : (goal.iterator-versions).can_next l.version-iterator;
  finite : (goal.iterator-versions).is_finite l.version-iterator;
  known : All (λ e. get version_cmp l.self.index.numbers e.0 ≡ Some e.1) l.version-iterator;
  each : AreJudgedBut (numbers_in l.self.index) (condemned_by l.violations) l.self.condemned.items l.version-iterator;
}
