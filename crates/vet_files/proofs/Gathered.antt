-- What is gathered in the order of a file, and then made a set, is what one put into the set after the other gives.
use Rattle.std.proofs.Common.{◌≡◌, ℕ, List, [], ◌∷◌, ◌++◌, Ok, Err, refl, ap, ◌∙◌}
use Rattle.std.proofs.lemmas.Cmp.{nat_list_cmp_total}
use Rattle.std.specs.FinSet as set
use Rattle.toml.specs.Data.{Data, Items}
use Rattle.vet_base.proofs.Rising.{R, only_equal}
use Rattle.vet_base.specs.Gives.{Told, found_or, ◌>>=◌}
use Rattle.vet_base.specs.Names.{NameSet}
use Rattle.vet_files.specs.Field.{fault, items_of, items_told, next_item, one_or_list_told, set_of_items, with_item}
use Rattle.vet_files.proofs.Walks.{each_item-seen, seen, seen-bind}

-- the set of some names or texts
abbrev pub as_set : List (List ℕ) → NameSet
as_set texts = set.from_list {R = R} texts

next-seen : (read : Data → Told (List ℕ)) (found : List (List ℕ)) (place : ℕ) (d : Data)
    → seen as_set (next_item read found place d) ≡ with_item read (as_set found) place d
next-seen read found place d = go (read d)
  where
    go : (r : Told (List ℕ)) → seen as_set (r >>= λ x. Ok (found ++ x ∷ []))
        ≡ (r >>= λ text. Ok (set.insert (as_set found) text))
    go (Ok x) = ap Ok (set.from_list_push nat_list_cmp_total only_equal found x)
    go (Err refusal) = refl

pub items-seen : (read : Data → Told (List ℕ)) (ds : Items) → seen as_set (items_told read ds) ≡ set_of_items read ds
items-seen read ds = each_item-seen as_set (next_item read) (with_item read) (next-seen read) [] 0 ds

-- a text or a list, made a set
pub one_or_list-seen : (read : List ℕ → List ℕ → Data → Told (List ℕ)) (path key : List ℕ) (d : Data)
    → seen as_set (one_or_list_told read path key d)
    ≡ (found_or (fault path key) (items_of d) >>= set_of_items (read path key))
one_or_list-seen read path key d =
    seen-bind as_set (found_or (fault path key) (items_of d)) (items_told (read path key))
    ∙ ap (λ (f : Items → Told NameSet). found_or (fault path key) (items_of d) >>= f)
    (λ i ds. items-seen (read path key) ds i)
