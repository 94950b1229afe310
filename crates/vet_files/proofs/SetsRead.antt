-- Sets are read again as they were written.
use Rattle.std.proofs.Common.{◌≡◌, ℕ, ◌+◌, List, [], ◌∷◌, ◌++◌, length, get_or, Some, Ok, refl, sym, ap, subst, ◌∙◌}
use Rattle.std.proofs.Common.{append_assoc, append-nil, arith}
use Rattle.std.proofs.lemmas.Cmp.{nat_list_cmp_total}
use Rattle.std.proofs.lemmas.List.Elements.{All-cons, All-head, All-nil, All-tail}
use Rattle.std.specs.FinSet as set
use Rattle.std.specs.List.{All}
use Rattle.toml.specs.Data.{Data, string}
use Rattle.vet_base.proofs.Rising.{R, only_equal}
use Rattle.vet_base.specs.Gives.{Told, found_or, ◌>>=◌}
use Rattle.vet_base.specs.Names.{NameSet, members}
use Rattle.vet_files.specs.Field.{fault, items_of, set_of_items, with_item}
use Rattle.vet_files.specs.ReadAgain.{IsReadAs}
use Rattle.vet_files.specs.Tables.{one_or_list, set_data, text_items}
use Rattle.vet_files.specs.Walk.{each_item}

-- the texts after those that were found
after : (told : Data → Told (List ℕ)) (front ts : List (List ℕ)) (place : ℕ) → All (λ t. told (string t) ≡ Ok t) ts
    → each_item (with_item told) (set.from_list {R = R} front) place (text_items ts) ≡ Ok (set.from_list (front ++ ts))
after told front [] place each = ap (λ ts. Ok (set.from_list ts)) (sym (append-nil front))
after told front (t ∷ ts) place each =
    rw (All-head (λ t. told (string t) ≡ Ok t) t ts each, ← set.from_list_push nat_list_cmp_total only_equal front t)
    (after told (front ++ t ∷ []) ts (place + 1) (All-tail (λ t. told (string t) ≡ Ok t) t ts each)
    ∙ ap (λ ts. Ok (set.from_list ts)) (append_assoc front (t ∷ []) ts))

-- a list of the set's texts
set_of_texts : (told : Data → Told (List ℕ)) (ts : List (List ℕ)) (s : NameSet) → s ≡ set.from_list ts
    → All (λ t. told (string t) ≡ Ok t) ts
    → set_of_items told (text_items ts) ≡ Ok s
set_of_texts told ts s same each = after told [] ts 0 each ∙ ap Ok (sym same)

items_of_set : (ts : List (List ℕ)) → items_of (one_or_list ts) ≡ Some (text_items ts)
items_of_set [] = refl
items_of_set (t ∷ []) = refl
items_of_set (t ∷ u ∷ ts) = refl

module _ (told : List ℕ → List ℕ → Data → Told (List ℕ)) (ts : List (List ℕ)) (s : NameSet)
    (same : s ≡ set.from_list ts) (each : All (λ t. IsReadAs told (string t) t) ts) where
  -- one or a list
  pub set_read : ts ≡ members s
      → IsReadAs (λ path key d. found_or (fault path key) (items_of d) >>= set_of_items (told path key)) (set_data s) s
  set_read are path key =
      rw (← are, items_of_set ts) (set_of_texts (told path key) ts s same (λ k d l. each k d l path key))

  -- always a list
  pub list_read : ts ≡ members s → (path key : List ℕ) → set_of_items (told path key) (text_items (members s)) ≡ Ok s
  list_read are path key = rw (← are) (set_of_texts (told path key) ts s same (λ k d l. each k d l path key))

-- the one text of a list
pub only_one : {X : Type 0} (P : X → Type 0) (xs : List X) (x : X) → length xs ≡ 1 → x ≡ get_or xs 0 x → P x → All P xs
only_one P [] x one is p = absurd (omega (arith, one))
only_one P (y ∷ []) x one is p = All-cons P y [] (subst P is p) (All-nil P)
only_one P (y ∷ z ∷ xs) x one is p = absurd (omega (arith, one))
