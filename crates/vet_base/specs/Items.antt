-- Lists of items, compared as sets (ours).
use Rattle.std.specs.Prelude.{◌≡◌, ◌⊎◌, List, [], ◌∷◌}
use Rattle.std.specs.List.{AllPairs}
use Rattle.vet_base.specs.Words.{Name}

-- an item is one of a list
abbrev pub IsIn : {X : Type 0} → X → List X → Type 0
IsIn x [] = ⊥
IsIn x (y ∷ rest) = (x ≡ y) ⊎ IsIn x rest

-- each item of either list is an item of the other
abbrev pub SameItems : {X : Type 0} → List X → List X → Type 0
SameItems {X} xs ys = ((x : X) → IsIn x xs → IsIn x ys) × ((x : X) → IsIn x ys → IsIn x xs)

-- no two items of a list have the same name
abbrev pub NamedOnce : {X : Type 0} → (X → Name) → List X → Type 0
NamedOnce name xs = AllPairs (λ a b. name a ≡ name b → ⊥) xs
