-- The closures of all criteria of a table (ours).
use Rattle.std.specs.Prelude.{ℕ, ◌≡◌, nat_lt, if◌then◌else◌, slice_index_or}
use Rattle.std.specs.FinSet as set
use Rattle.vet_base.specs.declared.closures.Closures.{Closures}
use Rattle.vet_base.specs.Criteria.{Criteria, closure_at}
use Rattle.vet_base.specs.CriteriaSet.{Places, has}

-- the closure that is found of the criterion at a place
abbrev pub closed_at : Closures → ℕ → Places
closed_at closures p = slice_index_or closures.closed p set.empty

-- these are the closures of the criteria of a table
abbrev pub AreClosures : Criteria → Closures → Type 0
AreClosures table closures = (p : ℕ) → closed_at closures p ≡ closure_at table p

-- only the place itself, if it is one of the first
abbrev pub apart_at : ℕ → ℕ → Places
apart_at count p = if nat_lt p count then set.insert set.empty p else set.empty

-- a set, with more places if it has a given one
abbrev pub led_on : ℕ → Places → Places → Places
led_on place more found = if has place found then set.union found more else found
