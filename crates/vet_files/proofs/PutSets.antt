-- Sets that are put into tables where they aren't empty.
use Rattle.std.proofs.Common.{◌≡◌, ℕ, ◌||◌, false, List, [], ◌∷◌, Some, None, Ok, refl, sym, ap, ◌∙◌}
use Rattle.std.proofs.lemmas.Bool.{false≢true}
use Rattle.std.proofs.lemmas.Cmp.{nat_list_cmp_total, tied_itself}
use Rattle.std.specs.Cmp.Lexicographic.{slice_cmp}
use Rattle.std.specs.FinSet as set
use Rattle.std.specs.List.{list_any}
use Rattle.std.specs.Ordering.{nat_cmp, eq_by_cmp, is_eq}
use Rattle.toml.specs.Data.{no_items, array}
use Rattle.vet_base.specs.NamesLaws.{any-members}
use Rattle.vet_base.specs.Names.{NameSet, members}
use Rattle.vet_files.specs.Field.{names, texts}
use Rattle.vet_files.specs.ReadAgain.{IsReadAs}
use Rattle.vet_files.specs.Tables.{one_or_list, set_data, some_set, unless_none}
use Rattle.vet_files.proofs.KeysRead.{none_is_empty}

-- a list in which nothing is found is empty
none_found : (names : List (List ℕ)) → ((n : List ℕ) → list_any (eq_by_cmp (slice_cmp nat_cmp) n) names ≡ false)
    → names ≡ []
none_found [] h = refl
none_found (x ∷ xs) h =
    absurd (false≢true (sym (h x) ∙ ap (λ o. is_eq o || list_any (eq_by_cmp (slice_cmp nat_cmp) x) xs)
    (tied_itself nat_list_cmp_total x)))

pub no_members_of : (s : NameSet) → s ≡ set.empty → members s ≡ []
no_members_of s e = ap members e
    ∙ none_found (members set.empty) (λ n. any-members set.empty n ∙ set.contains-empty (slice_cmp nat_cmp) n)

-- an empty set is left out
pub left_out : (s : NameSet) → s ≡ set.empty → some_set s ≡ None
left_out s e = ap (λ l. unless_none l (one_or_list l)) (no_members_of s e)

-- and is read from an empty list
as_list : (s : NameSet) → s ≡ set.empty → set_data s ≡ array no_items
as_list s e = ap one_or_list (no_members_of s e)

pub empty_names_read : (s : NameSet) → s ≡ set.empty → IsReadAs names (set_data s) s
empty_names_read s e path key = ap (names path key) (as_list s e) ∙ ap (λ (t : NameSet). Ok t) (sym e)

pub empty_texts_read : (s : NameSet) → s ≡ set.empty → IsReadAs texts (set_data s) s
empty_texts_read s e path key = ap (texts path key) (as_list s e) ∙ ap (λ (t : NameSet). Ok t) (sym e)

-- and any other is put
pub not_left_out : (s : NameSet) → (s ≡ set.empty → ⊥) → some_set s ≡ Some (set_data s)
not_left_out s some = by (members s) refl
  where
    by : (texts : List (List ℕ)) → members s ≡ texts → unless_none texts (set_data s) ≡ Some (set_data s)
    by [] none = absurd (some (none_is_empty s none))
    by (t ∷ rest) e = refl
