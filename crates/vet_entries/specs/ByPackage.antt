-- The places of entries in the order of packages (ours).
use Rattle.std.specs.Prelude.{ℕ, zero, suc, ◌≡◌, ◌<◌, ◌≤◌, ◌-◌, Bool, List, [], ◌∷◌, length, filter, take, drop}
use Rattle.std.specs.Prelude.{Option, option_map, ℤ}
use Rattle.std.specs.List.{All, between, filter_map, range_with_len, slice_get}
use Rattle.std.specs.List.Sorted.{IsNonDecreasingBy}
use Rattle.std.specs.Ordering.{is_eq, nat_cmp, ordering_index}
use Rattle.std.specs.Cmp.Lexicographic.{slice_cmp}
use Rattle.std.specs.Str.{bytes_eq}
use Rattle.std.specs.declared.cmp.Ordering.{Ordering}
use Rattle.std.specs.declared.cmp.Ordering.TheVariants.{Less, Equal, Greater}
use Rattle.vet_base.specs.Day.{day_number}
use Rattle.vet_base.specs.Words.{Name}
use Rattle.vet_entries.specs.Kind.{last_day_of}
use Rattle.vet_entries.specs.declared.facts.HeldEntry.{HeldEntry}
use Rattle.vet_entries.specs.declared.kind.Kind.{Kind}

-- an entry is of a package
abbrev pub is_of : Name → HeldEntry → Bool
is_of name held = bytes_eq held.entry.«package» name

-- the number of the last day of a kind, if it has one
abbrev pub last_number : Kind → Option ℤ
last_number kind = option_map day_number (last_day_of kind)

-- that of a held entry
abbrev pub held_last_number : HeldEntry → Option ℤ
held_last_number held = last_number held.entry.kind

-- entries, and the number of further ones for which there is room
pub record EntriesRoom : Type 0 where
  pub entries : List HeldEntry
  pub room : ℕ

-- the lesser of two numbers
abbrev pub lesser : ℕ → ℕ → ℕ
lesser a b = a - (a - b)

-- how the package of the entry at a place compares with a name: greater if there is no entry
abbrev pub stand : List HeldEntry → Name → ℕ → Ordering
stand [] name place = Greater
stand (held ∷ entries) name zero = slice_cmp nat_cmp held.entry.«package» name
stand (held ∷ entries) name (suc place) = stand entries name place

-- the package of the entry at a place, or an empty text if there is no entry
abbrev pub package_at : List HeldEntry → ℕ → Name
package_at [] place = []
package_at (held ∷ entries) zero = held.entry.«package»
package_at (held ∷ entries) (suc place) = package_at entries place

-- the entry at a place is of a package
abbrev pub is_at : List HeldEntry → Name → ℕ → Bool
is_at entries name place = is_eq (stand entries name place)

-- the places of a package's entries, in rising order
abbrev pub places_of : List HeldEntry → Name → List ℕ
places_of entries name = filter (is_at entries name) (range_with_len 0 (length entries))

-- the entries at some places
abbrev pub gathered : List HeldEntry → List ℕ → List HeldEntry
gathered entries places = filter_map (slice_get entries) places

-- each place of the entries once, in the order of packages and, within a package, in rising order
pub record IsByPackage (entries : List HeldEntry) (order : List ℕ) : Type 0 where
  pub rising : (name : Name) → IsNonDecreasingBy (λ place. ordering_index (stand entries name place)) order
  pub same : (name : Name) → filter (is_at entries name) order ≡ places_of entries name
  pub within : All (λ place. place < length entries) order
  pub long : length order ≡ length entries

-- the places of a package are those of the order from low up to high
pub record IsRange (entries : List HeldEntry) (name : Name) (order : List ℕ) (low high : ℕ) : Type 0 where
  pub ordered : low ≤ high
  pub inside : high ≤ length order
  pub lower : All (λ place. stand entries name place ≡ Less) (take low order)
  pub here : All (λ place. stand entries name place ≡ Equal) (between low high order)
  pub upper : All (λ place. stand entries name place ≡ Greater) (drop high order)

-- a place of a package's entry belongs at a slot of the order
pub record IsSlot (entries : List HeldEntry) (name : Name) (place : ℕ) (order : List ℕ) (slot : ℕ) : Type 0 where
  pub inside : slot ≤ length order
  pub front : All (λ other. ordering_index (stand entries name other) ≤ 1) (take slot order)
  pub back : All (λ other. 1 ≤ ordering_index (stand entries name other)) (drop slot order)
  pub below : All (λ other. other < place) (filter (is_at entries name) (take slot order))
  pub above : All (λ other. place ≤ other) (filter (is_at entries name) (drop slot order))

-- a place after an entry was inserted at another
abbrev pub up : ℕ → ℕ → ℕ
up zero place = suc place
up (suc at) zero = zero
up (suc at) (suc place) = suc (up at place)

-- a place after the entry at another was removed
abbrev pub down : ℕ → ℕ → ℕ
down zero zero = zero
down zero (suc place) = place
down (suc at) zero = zero
down (suc at) (suc place) = suc (down at place)
