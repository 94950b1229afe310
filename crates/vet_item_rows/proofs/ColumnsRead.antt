-- What packed columns are read as.
use Rattle.std.proofs.Common.{◌≡◌, ◌<◌, ◌^◌, ◌∙◌, List, [], ◌∷◌, Option, Some, None, length, map, refl, sym, ap, subst}
use Rattle.std.specs.List.{All}
use Rattle.std.specs.FinSet as set
use Rattle.std.proofs.lemmas.Cmp.{nat_list_cmp_total}
use Rattle.std.proofs.lemmas.List.{map-id}
use Rattle.std.proofs.lemmas.List.Elements.{All-cons, All-nil}
use Rattle.std.proofs.lemmas.Option.{same_Some}
use Rattle.vet_base.specs.Names.{NameSet, members}
use Rattle.vet_base.specs.NamesLaws.{any-members}
use Rattle.vet_base.specs.Text.{read_text}
use Rattle.vet_base.specs.Words.{Bytes, Name, Text}
use Rattle.vet_base.proofs.Rising.{only_equal}
use Rattle.vet_item_rows.specs.Columns.{packed_names_option}
use Rattle.vet_item_rows.specs.Packed.{IsUnpacked, packed, packed_option}
use Rattle.vet_item_rows.specs.PackedItems.{IsReadAs, IsReadAsSet, as_text}
use Rattle.vet_item_rows.specs.ReadBack.{in_list}
use Rattle.vet_item_rows.specs.ReadColumns.{items_of_names}
use Rattle.vet_item_rows.specs.Values.{IsText, MayBe}
use Rattle.vet_item_rows.proofs.PackedLists.{packed_once}
use Rattle.vet_item_rows.proofs.ReadAs.{values_are_read_back}

-- the set of its members is the set
from_members : (s : NameSet) → set.from_list (members s) ≡ s
from_members s =
    set.same_set nat_list_cmp_total only_equal (set.from_list (members s)) s
    (λ q. set.contains-from_list nat_list_cmp_total (members s) q ∙ any-members s q)

-- ---- texts and names

list_back : (read : Bytes → Option Name) (xs : List Name) (bytes : Bytes) (found : Option (List Name))
    → All (λ n. read n ≡ Some n) xs → length bytes < 2 ^ 63 → bytes ≡ packed xs → IsReadAs read bytes found
    → found ≡ Some xs
list_back read xs bytes found each small is h =
    let e : bytes ≡ packed (map (λ (n : Name). n) xs) = is ∙ ap packed (sym (map-id xs)) in
    values_are_read_back (λ n. n) read xs each (subst (λ (bs : Bytes). length bs < 2 ^ 63) e small) found
    (subst (λ (bs : Bytes). IsReadAs read bs found) e h)

pub set_back : (read : Bytes → Option Name) (s : NameSet) (bytes : Bytes) (found : Option NameSet)
    → All (λ n. read n ≡ Some n) (members s) → length bytes < 2 ^ 63 → bytes ≡ packed (members s)
    → IsReadAsSet read bytes found → found ≡ Some s
set_back read s bytes None each small is h = cc (list_back read (members s) bytes None each small is h)
set_back read s bytes (Some names) each small is (list, (h, from)) =
    let e = list_back read (members s) bytes (Some list) each small is h in
    ap (λ (t : NameSet). Some t) (from ∙ ap set.from_list (same_Some list (members s) e) ∙ from_members s)

pub option_back : (text : Option Text) → MayBe IsText text → (bytes : Bytes) → length bytes < 2 ^ 63
    → bytes ≡ packed_option text → (found : Option (List Text)) → IsReadAs (as_text read_text) bytes found
    → found ≡ Some (in_list text)
option_back None can bytes small is found h = list_back (as_text read_text) [] bytes found (All-nil IsText) small is h
option_back (Some t) can bytes small is found h =
    list_back (as_text read_text) (t ∷ []) bytes found (All-cons IsText t [] can (All-nil IsText)) small is h

-- ---- packed lists in a packed list

pub items_back : (items : List Bytes) (bytes : Bytes) (found : Option (List Bytes)) → length bytes < 2 ^ 63
    → bytes ≡ packed items → IsUnpacked bytes found → found ≡ Some items
items_back items bytes None small is h = absurd (h items is)
items_back items bytes (Some xs) small is h =
    ap (λ (ys : List Bytes). Some ys)
    (packed_once xs items (subst (λ (bs : Bytes). length bs < 2 ^ 63) h small) (sym h ∙ is))

pub option_items : (names : Option NameSet) → packed_names_option names ≡ packed (items_of_names names)
option_items None = refl
option_items (Some names) = refl
