-- Lists of items in the order of their keys, with no key twice (ours), and edits of them.
use Rattle.std.specs.Prelude.{ℕ, ◌≡◌, ◌<◌, ◌≤◌, ◌+◌, ◌-◌, not, true, Bool, List, [], ◌∷◌, ◌++◌, Option, length, filter}
use Rattle.std.specs.Prelude.{find, insert, remove, slice_index_or, slice_set}
use Rattle.std.specs.List.{AllPairs}
use Rattle.std.specs.List.Sorted.{IsPartitionPoint}
use Rattle.std.specs.Ordering.{is_eq, is_gt, is_lt}
use Rattle.std.specs.declared.cmp.Ordering.{Ordering}
use Rattle.std.specs.declared.cmp.Ordering.TheVariants.{Less}
use Rattle.std.specs.declared.result.Result.{Result}
use Rattle.std.specs.declared.result.Result.TheVariants.{Ok, Err}
use Rattle.vet_base.specs.declared.keyed.KeyedEdit.{KeyedEdit}
use Rattle.vet_base.specs.declared.keyed.KeyedEdit.TheVariants as edit

-- items, and the number of further ones for which there is room
pub record KeyedRoom (E : Type 0) : Type 0 where
  pub items : List E
  pub room : ℕ

-- an item's key is equal to, less than, or greater than this one
abbrev pub is_of : {K E : Type 0} → (K → K → Ordering) → (E → K) → K → E → Bool
is_of cmp key k e = is_eq (cmp (key e) k)

abbrev pub is_before : {K E : Type 0} → (K → K → Ordering) → (E → K) → K → E → Bool
is_before cmp key k e = is_lt (cmp (key e) k)

abbrev pub is_behind : {K E : Type 0} → (K → K → Ordering) → (E → K) → K → E → Bool
is_behind cmp key k e = is_gt (cmp (key e) k)

-- each item's key comes before the keys of those after it
abbrev pub IsByKey : {K E : Type 0} → (K → K → Ordering) → (E → K) → List E → Type 0
IsByKey cmp key items = AllPairs (λ a b. cmp (key a) (key b) ≡ Less) items

-- the item of a key, if there is one
abbrev pub item_of : {K E : Type 0} → (K → K → Ordering) → (E → K) → List E → K → Option E
item_of cmp key items k = find (is_of cmp key k) items

-- the items with lesser keys, then this one, then those with greater keys
abbrev pub with_item : {K E : Type 0} → (K → K → Ordering) → (E → K) → List E → E → List E
with_item cmp key items e = filter (is_before cmp key (key e)) items ++ (e ∷ filter (is_behind cmp key (key e)) items)

-- the items except that of a key
abbrev pub without_item : {K E : Type 0} → (K → K → Ordering) → (E → K) → List E → K → List E
without_item cmp key items k = filter (λ e. not (is_of cmp key k e)) items

-- the items after these are set one after another, so that the last one of each key remains
abbrev pub all_set : {K E : Type 0} → (K → K → Ordering) → (E → K) → List E → List E → List E
all_set cmp key held [] = held
all_set cmp key held (e ∷ more) = all_set cmp key (with_item cmp key held e) more

-- the place of the item of a key, or where one belongs: after the lesser keys, and before the greater ones
abbrev pub IsPlace : {K E : Type 0} → (K → K → Ordering) → (E → K) → List E → K → Result ℕ ℕ → Type 0
IsPlace {K} {E} cmp key items k (Ok place) = (place < length items) × ((d : E) → key (slice_index_or items place d) ≡ k)
IsPlace cmp key items k (Err place) = (place ≤ length items)
    × IsPartitionPoint (λ e. is_before cmp key k e ≡ true) (λ e. is_behind cmp key k e ≡ true) items place

-- ---- edits

-- the items after an edit
abbrev pub edited : {E : Type 0} → KeyedEdit E → List E → List E
edited (edit.Put place e) items = insert items place e
edited (edit.Take place) items = remove items place
edited (edit.Swap place e) items = slice_set items place e

-- an edit leaves the keys in order, and there is room for an inserted item
abbrev pub Fits : {K E : Type 0} → (K → K → Ordering) → (E → K) → KeyedEdit E → KeyedRoom E → Type 0
Fits cmp key (edit.Put place e) k = IsPlace cmp key k.items (key e) (Err place) × (0 < k.room)
Fits cmp key (edit.Take place) k = place < length k.items
Fits cmp key (edit.Swap place e) k = IsPlace cmp key k.items (key e) (Ok place)

-- the room after an edit
abbrev pub room_after : {E : Type 0} → KeyedEdit E → ℕ → ℕ
room_after (edit.Put place e) room = room - 1
room_after (edit.Take place) room = room + 1
room_after (edit.Swap place e) room = room
