-- Items that are filed under the keys of others (ours).
use Rattle.std.specs.Prelude.{Bool, List, [], ◌∷◌, ◌++◌, map, filter, if◌then◌else◌}
use Rattle.std.specs.Ordering.{is_eq}
use Rattle.std.specs.declared.cmp.Ordering.{Ordering}
use Rattle.vet_item_rows.specs.declared.read.gathered.WithKey.{WithKey}

-- a head, and the items that are filed under its key
pub record Gathered (H T : Type 0) : Type 0 where
  pub head : H
  pub items : List T

-- an item is filed under a key
abbrev pub is_filed_at : {K T : Type 0} → (K → K → Ordering) → K → WithKey K T → Bool
is_filed_at cmp k filed = is_eq (cmp k filed.key)

-- the items that are filed under a key, in their order
abbrev pub items_at : {K T : Type 0} → (K → K → Ordering) → K → List (WithKey K T) → List T
items_at cmp k filed = map (λ f. f.item) (filter (is_filed_at cmp k) filed)

-- a head with what is filed under its key
abbrev pub gathered : {K H T : Type 0} → (K → K → Ordering) → (H → K) → List (WithKey K T) → H → Gathered H T
gathered cmp key filed h = record { head = h; items = items_at cmp (key h) filed }

-- the key of a head with its items
abbrev pub head_key : {K H T : Type 0} → (H → K) → Gathered H T → K
head_key key g = key g.head

-- one item more, if it is filed there
abbrev pub with_filed : {K H T : Type 0} → (K → K → Ordering) → (H → K) → WithKey K T → Gathered H T → Gathered H T
with_filed cmp key f g =
    if is_filed_at cmp (key g.head) f then record g { items = g.items ++ f.item ∷ [] } else g
