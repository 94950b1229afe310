-- The facts known while a package's violations judge its versions (ours).
use Rattle.std.specs.Prelude.{◌≡◌, ℕ, ◌<◌, List, Option, Some, get_or, length}
use Rattle.vet_base.specs.CriteriaSet.{Places, has}
use Rattle.vet_base.specs.Version.{VersionValue}
use Rattle.vet_base.specs.Words.{Name}
use Rattle.vet_entries.specs.Condemned.{condemned_by}
use Rattle.vet_entries.specs.declared.condemned.Violation.{Violation}

-- for each version that is known, the criteria for which some violations condemn it
abbrev pub AreJudged : List Violation → (VersionValue → Option Places) → Type 0
AreJudged violations judged = (v : VersionValue) (condemned : Places) → judged v ≡ Some condemned → (c : ℕ)
    → has c condemned ≡ condemned_by violations c v

-- for each requirement that is known, the place of a violation that has it
abbrev pub ArePlaced : List Violation → (Name → Option ℕ) → Type 0
ArePlaced violations places = (r : Name) (p : ℕ) → places r ≡ Some p
    → (p < length violations) × ((d : Violation) → (get_or violations p d).requirement ≡ r)
