-- What is found of a package once further steps come to it (ours).
use Rattle.std.specs.Prelude.{◌≡◌, ◌≤◌, ℕ, List, Some, length, take}
use Rattle.std.specs.Prelude.{Bool}
use Rattle.std.specs.BTreeMap.{get}
use Rattle.vet_base.specs.CriteriaSet.{Places}
use Rattle.vet_base.specs.declared.limits.TheConstants.{MOST_CRITERIA as most}
use Rattle.vet_base.specs.Version.{VersionValue}
use Rattle.vet_base.specs.VersionOrder.{version_cmp}
use Rattle.vet_entries.specs.declared.step.Step.{Step}
use Rattle.vet_graph.specs.Chain.{Condemned}
use Rattle.vet_masks.specs.declared.classes.PackageClasses.{PackageClasses}
use Rattle.vet_masks.specs.declared.grown.Shared.{Shared}
use Rattle.vet_masks.specs.declared.index.Index.{Index}
use Rattle.vet_masks.specs.declared.rule.Rule.{Rule}
use Rattle.vet_masks.specs.Classes.{AreJudged, IsFound, exempt_number, is_taken_by, spent_by}
use Rattle.vet_masks.specs.Exempt.{AreExemptNumbers}
use Rattle.vet_masks.specs.Index.{IsIndex, Keeps}
use Rattle.vet_masks.specs.Masks.{size}

-- the versions that have a number are condemned alike
abbrev pub AreJudgedAlike : Index → Condemned → Condemned → Type 0
AreJudgedAlike index old new = (v : VersionValue) (n c : ℕ) → get version_cmp index.numbers v ≡ Some n
    → old c v ≡ new c v

-- this was found of the first of these steps, where the versions that they name were condemned as they are now; and the
-- searches share the index of all steps, the criteria for which versions are condemned, and the numbers of those that
-- have exempt steps
pub record IsShared (steps : List Step) (condemned : Condemned) (p : PackageClasses) (s : Shared) : Type 0 where
  pub first : s.first ≤ length steps
  pub found : (old : Condemned) × IsFound (take s.first steps) old p × AreJudgedAlike p.index old condemned
  pub keeps : Keeps (get version_cmp p.index.numbers) (get version_cmp s.index.now.numbers)
  pub more : length p.index.after.items ≤ length s.index.now.after.items
  pub index : IsIndex steps s.index.now
  pub judged : AreJudged s.index.now condemned s.condemned.now
  pub exempt : AreExemptNumbers s.index.now.ends.items s.exempt.now
  pub versions : length s.exempt.now.numbers.items ≡ length s.index.now.after.items

-- whether a search with this rule takes a step
abbrev pub is_taken_now : Shared → Rule → Step → Bool
is_taken_now s rule = is_taken_by (exempt_number s.index.now s.exempt.now.numbers.items) rule

-- what searches spent that reached this by the first steps
abbrev pub spent_first : Shared → List (List Places) → ℕ
spent_first s helds = spent_by (size most s.index.now.used) helds (take s.first s.index.now.ends.items)

-- and by all steps
abbrev pub spent_now : Shared → List (List Places) → ℕ
spent_now s helds = spent_by (size most s.index.now.used) helds s.index.now.ends.items
