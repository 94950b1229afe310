-- Entries by their numbers (ours).
--
-- Own entries are a list in the order of their numbers, and so are those of each peer (AreByNumber). Entries that are
-- given without numbers are numbered from 1 (numbered). An own entry is found by its number at its place in the list
-- (place_of).
use Rattle.std.specs.Prelude.{ℕ, ◌<◌, ◌+◌, ◌==◌, Bool, List, [], ◌∷◌, Option, find, option_map}
use Rattle.std.specs.List.{AllPairs, position}
use Rattle.vet_entries.specs.declared.entry.Entry.{Entry}
use Rattle.vet_entries.specs.declared.facts.HeldEntry.{HeldEntry}
use Rattle.vet_entries.specs.Entry.{entry_eq, own}

-- the number of an entry
abbrev pub entry_number : HeldEntry → ℕ
entry_number held = held.number

-- some entries, with numbers from this one on
abbrev pub numbered : ℕ → List Entry → List HeldEntry
numbered n [] = []
numbered n (entry ∷ rest) = (record { number = n; entry = entry }) ∷ numbered (n + 1) rest

-- an entry has a number
abbrev pub has_number : ℕ → HeldEntry → Bool
has_number n held = held.number == n

-- the place of the entry with a number
abbrev pub place_of : List HeldEntry → ℕ → Option ℕ
place_of entries n = position (has_number n) entries

-- the number of the held entry that equals this one taken as an own one
abbrev pub number_of : List HeldEntry → Entry → Option ℕ
number_of entries entry = option_map (λ h. h.number) (find (λ h. entry_eq h.entry (own entry)) entries)

-- an entry's number is lower than another's
abbrev pub Rise : HeldEntry → HeldEntry → Type 0
Rise g h = g.number < h.number

-- each entry's number is lower than the numbers of those after it
abbrev pub AreByNumber : List HeldEntry → Type 0
AreByNumber entries = AllPairs Rise entries
