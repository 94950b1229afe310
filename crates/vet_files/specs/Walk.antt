-- Keys that increase, and walks over a table and over a list (ours). Each step continues from what was found before it,
-- or returns a fault.
use Rattle.std.specs.Prelude.{ℕ, ◌≡◌, ◌+◌, Ok}
use Rattle.std.specs.Cmp.Lexicographic.{slice_cmp}
use Rattle.std.specs.Ordering.{nat_cmp}
use Rattle.std.specs.declared.cmp.Ordering.TheVariants.{Less}
use Rattle.toml.specs.Data.{Data, Items, no_items, item, Members, no_members, member}
use Rattle.vet_base.specs.Gives.{Told, ◌>>=◌}
use Rattle.vet_base.specs.Words.{Key}

-- a key comes before another
abbrev pub IsLess : Key → Key → Type 0
IsLess k l = slice_cmp nat_cmp k l ≡ Less

-- a key comes before each key of the members
abbrev pub IsBelow : Key → Members → Type 0
IsBelow k no_members = Unit {0}
IsBelow k (member l d ms) = IsLess k l × IsBelow k ms

-- each key comes before those after it
abbrev pub KeysRise : Members → Type 0
KeysRise no_members = Unit {0}
KeysRise (member k d ms) = IsBelow k ms × KeysRise ms

-- over the keys of a table, in the order of their bytes
abbrev pub each_member : {S : Type 0} → (S → Key → Data → Told S) → S → Members → Told S
each_member read found no_members = Ok found
each_member read found (member key d rest) = read found key d >>= λ more. each_member read more rest

-- over a list, from a place on
abbrev pub each_item : {S : Type 0} → (S → ℕ → Data → Told S) → S → ℕ → Items → Told S
each_item read found place no_items = Ok found
each_item read found place (item d rest) = read found place d >>= λ more. each_item read more (place + 1) rest
