-- Sets of names (ours).
use Rattle.std.specs.Prelude.{◌≡◌, Bool, List, [], ◌∷◌, nat_eq}
use Rattle.std.specs.List.{AllPairs}
use Rattle.std.specs.Ordering.{nat_cmp, on}
use Rattle.std.specs.Cmp.Lexicographic.{slice_cmp, pointwise}
use Rattle.std.specs.declared.cmp.Ordering.TheVariants.{Less}
use Rattle.std.specs.FinSet.{FinSet, items}
use Rattle.std.specs.FinMap.{from_entries, keys}
use Rattle.vet_base.specs.Words.{Name}

-- a set of names, which are ordered by their bytes
abbrev pub NameSet : Type 0
NameSet = FinSet (slice_cmp nat_cmp)

-- each name comes before all those after it
abbrev pub IsRising : List Name → Type 0
IsRising names = AllPairs (λ a b. slice_cmp nat_cmp a b ≡ Less) names

-- each name of a list, paired with nothing
abbrev pub bare : List Name → List (Name × Unit {0})
bare [] = []
bare (n ∷ names) = (n, tt) ∷ bare names

-- the names of a set, in order, each once
abbrev pub members : NameSet → List Name
members names = keys (from_entries {R = slice_cmp nat_cmp} (bare (items names)))

-- whether two sets have the same names
abbrev pub same_names : NameSet → NameSet → Bool
same_names = on members (pointwise (pointwise nat_eq))
