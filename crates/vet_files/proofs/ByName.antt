-- Names and values put into a table, one after the other.
use Rattle.std.proofs.Common.{◌≡◌, ℕ, ◌+◌, ◌<◌, All, subst, Bool, cond, List, [], ◌∷◌, ◌++◌, Option, Some, None}
use Rattle.std.proofs.Common.{is_some, option_map, String, Vec, Global, string_bytes, get_or, length, map, take}
use Rattle.std.proofs.Common.{Ordering, Less, Equal, Greater, nat_cmp, refl, sym, ap, ◌∙◌}
use Rattle.std.proofs.lemmas.List.{map-append, take_more}
use Rattle.std.proofs.lemmas.List.Elements.{All-push}
use Rattle.std.proofs.lemmas.Bool.{false≢true}
use Rattle.std.proofs.lemmas.Cmp.{nat_list_cmp_total}
use Rattle.std.specs.BTreeMap.{insert_entry, is_at}
use Rattle.std.specs.Cmp.Lexicographic.{slice_cmp}
use Rattle.std.specs.FinMap.{put}
use Rattle.std.specs.FinMap.Entries.{by_order}
use Rattle.std.specs.List.{AllByRecursion}
use Rattle.std.specs.List.Sorted.{IsStrictlySortedBy}
use Rattle.std.specs.Map.{keys_of, lookup, set_value}
use Rattle.std.specs.Ordering.{is_eq}
use Rattle.std.specs.String.{string_cmp}
use Rattle.toml.proofs.Views.{Entry, view-Array, view-lookup}
use Rattle.toml.specs.Data.{Data, Items, array, Members, member, push_item}
use Rattle.toml.specs.View.{items_view, members_view, view}
use Rattle.toml.specs.declared.value.Value.{Array, Value}
use Rattle.vet_files.proofs.Putting.{inserted}
use Rattle.vet_files.specs.ListAt.{items_in, list_at}
use Rattle.vet_files.specs.Tables.{by_name, members_from, put_all, put_member}

-- a member put into a table, and its name and value into their list
pub put_member-from : (ps : List (List ℕ × Data)) (key : List ℕ) (d : Data)
    → put_member key d (members_from ps) ≡ members_from (put (slice_cmp nat_cmp) key d ps)
put_member-from [] key d = refl
put_member-from (p ∷ ps) key d =
    elim (slice_cmp nat_cmp key p.0)
    as (λ o. by_order o (member key d (members_from (p ∷ ps))) (member p.0 d (members_from ps))
    (member p.0 p.1 (put_member key d (members_from ps)))
    ≡ members_from (by_order o ((key, d) ∷ p ∷ ps) ((p.0, d) ∷ ps) (p ∷ put (slice_cmp nat_cmp) key d ps))) [
      | Less ↦ refl
      | Equal ↦ refl
      | Greater ↦ ap (member p.0 p.1) (put_member-from ps key d)
    ]

put_all-push : (found ps : List (List ℕ × Data)) (p : List ℕ × Data)
    → put_all found (ps ++ p ∷ []) ≡ put (slice_cmp nat_cmp) p.0 p.1 (put_all found ps)
put_all-push found [] p = refl
put_all-push found (q ∷ ps) p = put_all-push (put (slice_cmp nat_cmp) q.0 q.1 found) ps p

-- one name and value more
pub by_name-push : (ps : List (List ℕ × Data)) (p : List ℕ × Data)
    → by_name (ps ++ p ∷ []) ≡ put_member p.0 p.1 (by_name ps)
by_name-push ps p = ap members_from (put_all-push [] ps p) ∙ sym (put_member-from (put_all [] ps) p.0 p.1)

-- the items before a place, and the one there
pub one_more : {X : Type 0} (xs : List X) (i : ℕ) (x : X) → i < length xs → x ≡ get_or xs i x
    → take (i + 1) xs ≡ take i xs ++ x ∷ []
one_more xs i x within is = take_more xs i x within ∙ ap (λ y. take i xs ++ y ∷ []) (sym is)

-- one item more stands at its name
by_name-more : {X : Type 0} (f : X → List ℕ × Data) (xs : List X) (i : ℕ) (x : X) → i < length xs → x ≡ get_or xs i x
    → by_name (map f (take (i + 1) xs)) ≡ put_member (f x).0 (f x).1 (by_name (map f (take i xs)))
by_name-more f xs i x within is = ap (λ ys. by_name (map f ys)) (one_more xs i x within is)
    ∙ ap by_name (map-append f (take i xs) (x ∷ [])) ∙ by_name-push (map f (take i xs)) (f x)

-- the table of the items before a place, and of the one there
pub item_put : {X : Type 0} (f : X → List ℕ × Data) (xs : List X) (i : ℕ) (x : X) (before after : List Entry)
    (key : String Global) (v : Value) → i < length xs → x ≡ get_or xs i x
    → string_bytes key ≡ (f x).0 → view v ≡ (f x).1 → after ≡ insert_entry string_cmp before key v
    → members_view before ≡ by_name (map f (take i xs)) → members_view after ≡ by_name (map f (take (i + 1) xs))
item_put f xs i x before after key v within is name value put written =
    ap members_view put ∙ inserted before key v ∙ (λ j. put_member (name j) (value j) (written j))
    ∙ sym (by_name-more f xs i x within is)

-- what holds of the items before a place, and of the one there
pub All-more : {X : Type 0} (P : X → Type 0) (xs : List X) (i : ℕ) (x : X) → i < length xs → x ≡ get_or xs i x
    → All P (take i xs) → P x → All P (take (i + 1) xs)
All-more P xs i x within is all one = subst (All P) (sym (one_more xs i x within is)) (All-push P (take i xs) x all one)

-- ---- the map of a table

-- whether a key of the map is this one
abbrev is_at_key : List ℕ → String Global → Bool
is_at_key key = is_at (λ x. slice_cmp nat_cmp key (string_bytes x))

some_none : {A : Type 0} {x : A} → None ≡ Some x → ⊥
some_none e = false≢true (ap is_some e)

-- nothing stands at a key before all others
none_before : (key : List ℕ) (first : String Global) (es : List Entry) → slice_cmp nat_cmp key (string_bytes first)
    ≡ Less → AllByRecursion (λ y. string_cmp first y ≡ Less) (keys_of es)
    → lookup (is_at_key key) es ≡ None
none_before key first [] less up = refl
none_before key first (e ∷ es) less up =
    rw (nat_list_cmp_total.trans key (string_bytes first) (string_bytes e.0) less up.0)
    (none_before key first es less up.1)

-- a value that is written over the one at a key
written_over : (es : List Entry) (key : List ℕ) (v w : Value) → IsStrictlySortedBy string_cmp (keys_of es)
    → lookup (is_at_key key) es ≡ Some v
    → members_view (set_value (is_at_key key) es w) ≡ put_member key (view w) (members_view es)
unfolding IsStrictlySortedBy
written_over [] key v w up found = absurd (some_none found)
written_over (e ∷ es) key v w up found = step (slice_cmp nat_cmp key (string_bytes e.0)) refl found
    (written_over es key v w up.1)
  where
    step : (o : Ordering) → slice_cmp nat_cmp key (string_bytes e.0) ≡ o
        → cond (is_eq o) (Some e.1) (lookup (is_at_key key) es) ≡ Some v
        → (lookup (is_at_key key) es ≡ Some v → members_view (set_value (is_at_key key) es w)
        ≡ put_member key (view w) (members_view es))
        → members_view (cond (is_eq o) ((e.0, w) ∷ es) (e ∷ set_value (is_at_key key) es w))
        ≡ by_order o (member key (view w) (members_view (e ∷ es)))
        (member (string_bytes e.0) (view w) (members_view es))
        (member (string_bytes e.0) (view e.1) (put_member key (view w) (members_view es)))
    step Less is found rest = absurd (some_none (sym (none_before key e.0 es is up.0) ∙ found))
    step Equal is found rest = refl
    step Greater is found rest = ap (member (string_bytes e.0) (view e.1)) (rest found)

-- what is in the list at a key
list_found : (es : List Entry) (key : List ℕ) (o : Option Value) → lookup (is_at_key key) es ≡ o
    → list_at key (members_view es) ≡ items_in (option_map view o)
list_found es key o found = ap items_in (sym (view-lookup key es) ∙ ap (option_map view) found)

abbrev with_more : List Entry → List ℕ → Data → Items → Members
with_more es key d items = put_member key (array (push_item items d)) (members_view es)

-- the list at a key, with one item more
pub list_pushed : (es : List Entry) (key : List ℕ) (old new : Value) (d : Data)
    → IsStrictlySortedBy string_cmp (keys_of es) → lookup (is_at_key key) es ≡ Some old
    → view new ≡ array (push_item (items_in (Some (view old))) d)
    → members_view (set_value (is_at_key key) es new)
    ≡ put_member key (array (push_item (list_at key (members_view es)) d)) (members_view es)
list_pushed es key old new d up found is =
    written_over es key old new up found ∙ ap (λ (x : Data). put_member key x (members_view es)) is
    ∙ ap (with_more es key d) (sym (list_found es key (Some old) found))

-- a list of one item, at a key where nothing stood
pub list_begun : (es : List Entry) (key : List ℕ) (items : Vec Value Global) (value : Value)
    → lookup (is_at_key key) es ≡ None → items.items ≡ value ∷ []
    → put_member key (view (Array items)) (members_view es)
    ≡ put_member key (array (push_item (list_at key (members_view es)) (view value))) (members_view es)
list_begun es key items value none is =
    ap (λ (x : Data). put_member key x (members_view es)) (view-Array items ∙ ap (λ vs. array (items_view vs)) is)
    ∙ ap (with_more es key (view value)) (sym (list_found es key None none))
