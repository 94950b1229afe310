-- Sets of places in a table of criteria (ours).
use Rattle.std.specs.Prelude.{ℕ, zero, suc, ◌≡◌, ◌||◌, ◌==◌, ◌+◌, ◌^◌, Bool, false, cond}
use Rattle.std.specs.List.{list_any}
use Rattle.std.specs.Ordering.{nat_cmp}
use Rattle.std.specs.Int.{bit_at}
use Rattle.std.specs.FinSet.{FinSet, empty, insert, retain, contains, items, union}

-- a set of places in a table of criteria
abbrev pub Places : Type 0
Places = FinSet nat_cmp

-- whether a place is in a set
abbrev pub has : ℕ → Places → Bool
has place places = contains places place

-- whether a place of one set is in the other
abbrev pub meet : Places → Places → Bool
meet a b = list_any (contains b) (items a)

-- a set meets the union of two sets exactly if it meets one of them
abbrev pub MeetOfUnions : Type 0
MeetOfUnions = (a b c : Places) → meet a (union b c) ≡ (meet a b || meet a c)

-- no set meets the empty set
abbrev pub MeetOfNothing : Type 0
MeetOfNothing = (a : Places) → meet a empty ≡ false

-- the places from 0 up to, but not including, a number
unfoldable pub places_below : ℕ → FinSet nat_cmp
places_below zero = empty
places_below (suc n) = insert (places_below n) n

-- the places below a number whose bits are set
abbrev pub set_places : ℕ → ℕ → FinSet nat_cmp
set_places n word = retain (places_below n) (λ p. bit_at word p == 1)

-- the word with the bits of a set at the places below a number
unfoldable pub word_below : ℕ → FinSet nat_cmp → ℕ
word_below zero places = 0
word_below (suc n) places = word_below n places + cond (contains places n) (2 ^ n) 0
