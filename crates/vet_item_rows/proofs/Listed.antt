-- One more thing whose rows are listed.
use Rattle.std.proofs.Common.{◌≡◌, ℕ, ◌+◌, ◌<◌, ◌++◌, ◌∷◌, ◌∙◌, List, [], get_or, length, map, take, sym, ap}
use Rattle.std.specs.List.{flat_map}
use Rattle.std.proofs.lemmas.List.{append_assoc, flat_map_more, map-append, take_more}
use Rattle.vet_base.specs.Names.{NameSet}
use Rattle.vet_base.specs.Words.{Bytes, Name}
use Rattle.vet_item_rows.specs.Columns.{key_and_names, packed_map, packed_names}
use Rattle.vet_item_rows.specs.Packed.{packed, packed_item}
use Rattle.vet_item_rows.proofs.PackedLists.{packed_push}

pub one_further : {X : Type 0} (xs : List X) (i : ℕ) (x : X) → i < length xs → x ≡ get_or xs i x
    → take i xs ++ x ∷ [] ≡ take (i + 1) xs
one_further xs i x within is = ap (λ y. take i xs ++ y ∷ []) is ∙ sym (take_more xs i x within)

-- each thing has several rows
pub one_more_listed : {X A : Type 0} (f : X → List A) (before : List A) (xs : List X) (i : ℕ) (x : X)
    → i < length xs → x ≡ get_or xs i x
    → (before ++ flat_map f (take i xs)) ++ f x ≡ before ++ flat_map f (take (i + 1) xs)
one_more_listed f before xs i x within is =
    flat_map_more f before (take i xs) x ∙ ap (λ ys. before ++ flat_map f ys) (one_further xs i x within is)

-- each has one
pub one_more_row : {X A : Type 0} (f : X → A) (before : List A) (xs : List X) (x : X)
    → (before ++ map f xs) ++ f x ∷ [] ≡ before ++ map f (xs ++ x ∷ [])
one_more_row f before xs x =
    append_assoc before (map f xs) (f x ∷ []) ∙ ap (λ rows. before ++ rows) (sym (map-append f xs (x ∷ [])))

-- an item of a map
pub one_more_packed : (items : List (Name × NameSet)) (item : Name × NameSet)
    → (packed_map items ++ packed_item item.0) ++ packed_item (packed_names item.1) ≡ packed_map (items ++ item ∷ [])
one_more_packed items item =
    let texts : List Bytes = flat_map key_and_names items in
    ap (λ (bytes : Bytes). bytes ++ packed_item (packed_names item.1)) (sym (packed_push texts item.0))
    ∙ sym (packed_push (texts ++ item.0 ∷ []) (packed_names item.1))
    ∙ ap packed (append_assoc texts (item.0 ∷ []) (packed_names item.1 ∷ []))
    ∙ ap packed (flat_map_more key_and_names [] items item)
