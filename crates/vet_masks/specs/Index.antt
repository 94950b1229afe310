-- The versions that steps name, by numbers (ours).
use Rattle.std.specs.Prelude.{◌≡◌, ◌==◌, ◌+◌, ℕ, ◌<◌, Bool, true, false, cond, List, [], ◌∷◌, Option, Some, None}
use Rattle.std.specs.Prelude.{option_map, map}
use Rattle.std.specs.Prelude.{get_or, length, unwrap_or, is_some}
use Rattle.std.specs.BTreeMap.{get}
use Rattle.std.specs.List.{All, list_any}
use Rattle.vet_base.specs.CriteriaSet.{has}
use Rattle.vet_base.specs.Version.{VersionValue}
use Rattle.vet_base.specs.VersionOrder.{version_cmp}
use Rattle.vet_demand.specs.Spread.{lists_in}
use Rattle.vet_entries.specs.declared.step.Step.{Step}
use Rattle.vet_masks.specs.declared.index.Ends.{Ends}
use Rattle.vet_masks.specs.declared.index.Index.{Index}

-- the number of each version that has one
abbrev pub Numbers : Type 0
Numbers = VersionValue → Option ℕ

-- these are the numbers below n, a version each
pub record IsNumbering (numbers : Numbers) (n : ℕ) : Type 0 where
  pub below : (v : VersionValue) (k : ℕ) → numbers v ≡ Some k → k < n
  pub apart : (v w : VersionValue) (k : ℕ) → numbers v ≡ Some k → numbers w ≡ Some k → v ≡ w
  pub each : (k : ℕ) → k < n → (v : VersionValue) × (numbers v ≡ Some k)

-- a version that has a number keeps it
abbrev pub Keeps : Numbers → Numbers → Type 0
Keeps old new = (v : VersionValue) (k : ℕ) → old v ≡ Some k → new v ≡ Some k

-- the number of a version
abbrev pub number_of : Numbers → VersionValue → ℕ
number_of numbers v = unwrap_or (numbers v) 0

-- the numbers of the versions between which a step leads, and whether it is exempt
abbrev pub ends_of : Numbers → Step → Ends
ends_of numbers s = record {
  origin = option_map (number_of numbers) s.origin;
  target = number_of numbers s.target;
  exempt = s.exempt;
}

-- what stands for the version at which a step starts
abbrev pub IsOrigin : Numbers → Option VersionValue → Option ℕ → Type 0
IsOrigin numbers None o = o ≡ None
IsOrigin numbers (Some v) o = (n : ℕ) × (o ≡ Some n) × (numbers v ≡ Some n)

-- both versions of a step have a number
pub record IsNamed (numbers : Numbers) (s : Step) : Type 0 where
  pub target : is_some (numbers s.target) ≡ true
  pub origin : (v : VersionValue) → s.origin ≡ Some v → is_some (numbers v) ≡ true

-- whether one starts at the version of a number
abbrev pub is_from : ℕ → Option ℕ → Bool
is_from n None = false
is_from n (Some m) = m == n

-- the places, from this one on, of the steps that start at the version of a number
unfoldable pub places_from : ℕ → ℕ → List Ends → List ℕ
places_from place n [] = []
places_from place n (e ∷ rest) =
    cond (is_from n e.origin) (place ∷ places_from (place + 1) n rest) (places_from (place + 1) n rest)

-- what a read past the end would give
abbrev pub no_ends : Ends
no_ends = record { origin = None; target = 0; exempt = false }

-- whether some step has a criterion
abbrev pub is_used : List Step → ℕ → Bool
is_used steps c = list_any (λ s. has c s.criteria) steps

-- the index of these steps
pub record IsIndex (steps : List Step) (index : Index) : Type 0 where
  pub numbering : IsNumbering (get version_cmp index.numbers) (length index.after.items)
  pub named : All (IsNamed (get version_cmp index.numbers)) steps
  pub ends : index.ends.items ≡ map (ends_of (get version_cmp index.numbers)) steps
  pub filed : (n : ℕ) → get_or (lists_in index.after.items) n [] ≡ places_from 0 n index.ends.items
  pub used : (c : ℕ) → has c index.used ≡ is_used steps c
