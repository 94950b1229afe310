-- Entries by package: one entry more, and the lists of all.
use Rattle.std.proofs.Common.{◌≡◌, ℕ, ◌+◌, ◌<◌, Bool, true, false, not, cond, ◌&&◌, ◌||◌, All, get_or, length, take}
use Rattle.std.proofs.Common.{List, [], ◌∷◌, ◌++◌, append-nil, map, Option, Some, None, Less, Equal, Greater, nat_cmp}
use Rattle.std.proofs.Common.{refl, sym, ap, ◌∙◌, T, subst}
use Rattle.std.proofs.lemmas.Bool.{true≢false}
use Rattle.std.proofs.lemmas.Cmp.{nat_list_cmp_total}
use Rattle.std.proofs.lemmas.List.Elements.{All-push, filter-append}
use Rattle.std.proofs.lemmas.List.Folds.{list_any-append}
use Rattle.std.proofs.lemmas.Map.Text.{is_eq-slice_cmp}
use Rattle.std.proofs.lemmas.Slice.Eq.{bytes_eq-Decides}
use Rattle.std.specs.Cmp.Lexicographic.{slice_cmp}
use Rattle.std.specs.FinSet as set
use Rattle.std.specs.FinMap.{nat_cmp-IsAntisymmetric, put, slice_cmp-IsAntisymmetric}
use Rattle.std.specs.FinMap.Entries.{find, find-put, is_sorted, is_sorted-put, same_entries}
use Rattle.std.specs.List.{filter, list_any}
use Rattle.std.specs.Ordering.{is_eq, match_ordering}
use Rattle.std.specs.Str.{bytes_eq}
use Rattle.toml.specs.Data.{Data, array, table, Items, Members, item, get_member, push_item}
use Rattle.vet_entries.specs.declared.entry.Entry.{Entry}
use Rattle.vet_base.specs.Names.{NameSet}
use Rattle.vet_files.specs.declared.write.sections.Listing.{Listing}
use Rattle.vet_files.specs.ReadAgain.{ReadsEntry}
use Rattle.vet_files.specs.EntryTables.{entry_items, entry_table, is_listed, listed_entries, of_package, package_lists}
use Rattle.vet_files.specs.ListAt.{items_in, list_at}
use Rattle.vet_files.specs.Tables.{members_from, put_all, put_member}
use Rattle.vet_files.proofs.ByName.{one_more, put_member-from}

-- a name and its value
abbrev Pair : Type 0
Pair = List ℕ × Data

-- the list of a package's entries
abbrev list_of : List Entry → List ℕ → Data
list_of es name = array (entry_items (of_package name es))

abbrev pairs : List Entry → List Entry → List Pair
pairs all es = map (λ (e : Entry). (e.«package», list_of all e.«package»)) es

-- whether an entry is of a package
abbrev is_of : List ℕ → Entry → Bool
is_of name e = bytes_eq name e.«package»

put_all-is_sorted : (found ps : List Pair) → T (is_sorted (slice_cmp nat_cmp) found)
    → T (is_sorted (slice_cmp nat_cmp) (put_all found ps))
put_all-is_sorted found [] h = h
put_all-is_sorted found (p ∷ ps) h = put_all-is_sorted (put (slice_cmp nat_cmp) p.0 p.1 found) ps
    (is_sorted-put (slice_cmp nat_cmp) nat_list_cmp_total p.0 p.1 found h)

found_or_put : (b any : Bool) (d e : Data) (found : Option Data) → (b ≡ true → d ≡ e)
    → cond any (Some e) (cond b (Some d) found) ≡ cond (b || any) (Some e) found
found_or_put true true d e found same = refl
found_or_put true false d e found same = ap Some (same refl)
found_or_put false any d e found same = refl

-- what is found among the lists: where one of the entries is of the package, its list
found_in : (all es : List Entry) (found : List Pair) (q : List ℕ)
    → find (slice_cmp nat_cmp) q (put_all found (pairs all es)) ≡ cond (list_any (is_of q) es) (Some (list_of all q))
    (find (slice_cmp nat_cmp) q found)
found_in all [] found q = refl
found_in all (e ∷ es) found q =
    let rest = found_in all es (put (slice_cmp nat_cmp) e.«package» (list_of all e.«package») found) q in
    let same : bytes_eq q e.«package» ≡ true → list_of all e.«package» ≡ list_of all q =
    λ t. ap (list_of all) (sym ((bytes_eq-Decides q e.«package»).0 t)) in
    rest ∙ rw (
      find-put (slice_cmp nat_cmp) nat_list_cmp_total q e.«package» (list_of all e.«package») found,
      is_eq-slice_cmp q e.«package»,
    ) (found_or_put (is_of q e) (list_any (is_of q) es) _ _ _ same)

-- the names and lists of these entries, in order
abbrev lists : List Entry → List Pair
lists es = put_all [] (pairs es es)

lists-is_sorted : (es : List Entry) → T (is_sorted (slice_cmp nat_cmp) (lists es))
lists-is_sorted es = put_all-is_sorted [] (pairs es es) tt

of_package-push : (es : List Entry) (e : Entry) (q : List ℕ)
    → of_package q (es ++ e ∷ []) ≡ of_package q es ++ cond (is_of q e) (e ∷ []) []
of_package-push es e q = filter-append (is_of q) es (e ∷ [])

-- one entry more: at each name
found_after : (es : List Entry) (e : Entry) (q : List ℕ) (b any : Bool) → is_of q e ≡ b → list_any (is_of q) es ≡ any
    → cond (any || (b || false)) (Some (list_of (es ++ e ∷ []) q)) None
    ≡ cond b (Some (list_of (es ++ e ∷ []) e.«package»)) (cond any (Some (list_of es q)) None)
found_after es e q true true is some = ap (λ name. Some (list_of (es ++ e ∷ []) name))
    ((bytes_eq-Decides q e.«package»).0 is)
found_after es e q true false is some = ap (λ name. Some (list_of (es ++ e ∷ []) name))
    ((bytes_eq-Decides q e.«package»).0 is)
found_after es e q false true is some = ap (λ (xs : List Entry). Some (array (entry_items xs)))
    (of_package-push es e q ∙ rw (is) (append-nil (of_package q es)))
found_after es e q false false is some = refl

lists-push : (es : List Entry) (e : Entry)
    → lists (es ++ e ∷ []) ≡ put (slice_cmp nat_cmp) e.«package» (list_of (es ++ e ∷ []) e.«package») (lists es)
lists-push es e =
    let after = es ++ e ∷ [] in
    let d = list_of after e.«package» in
    same_entries (slice_cmp nat_cmp) nat_list_cmp_total (slice_cmp-IsAntisymmetric nat_cmp-IsAntisymmetric)
    (lists after) (put (slice_cmp nat_cmp) e.«package» d (lists es))
    (lists-is_sorted after)
    (is_sorted-put (slice_cmp nat_cmp) nat_list_cmp_total e.«package» d (lists es) (lists-is_sorted es))
    (λ q. found_in after after [] q
    ∙ rw (
      list_any-append (is_of q) es (e ∷ []),
      find-put (slice_cmp nat_cmp) nat_list_cmp_total q e.«package» d
          (lists es),
      is_eq-slice_cmp q e.«package»,
      found_in es es [] q,
    )
    (found_after es e q (is_of q e) (list_any (is_of q) es) refl refl))

-- what stands at a name
get_member-from : (ps : List Pair) (q : List ℕ) → get_member q (members_from ps) ≡ find (slice_cmp nat_cmp) q ps
get_member-from [] q = refl
get_member-from (p ∷ ps) q =
    elim (slice_cmp nat_cmp q p.0)
    as (λ o. match_ordering o (get_member q (members_from ps)) (Some p.1) (get_member q (members_from ps))
    ≡ cond (is_eq o) (Some p.1) (find (slice_cmp nat_cmp) q ps)) [
      | Less ↦ get_member-from ps q
      | Equal ↦ refl
      | Greater ↦ get_member-from ps q
    ]

none_step : (b any : Bool) (e : Entry) (es : List Entry) → (b || any) ≡ false → (any ≡ false → es ≡ [])
    → cond b (e ∷ es) es ≡ []
none_step true any e es none rest = absurd (true≢false none)
none_step false any e es none rest = rest none

none_of : (p : Entry → Bool) (es : List Entry) → list_any p es ≡ false → filter p es ≡ []
none_of p [] none = refl
none_of p (e ∷ es) none = none_step (p e) (list_any p es) e (filter p es) none (none_of p es)

items_of_any : (es : List Entry) (q : List ℕ) (any : Bool) → list_any (is_of q) es ≡ any
    → items_in (cond any (Some (list_of es q)) None) ≡ entry_items (of_package q es)
items_of_any es q true some = refl
items_of_any es q false none = ap entry_items (sym (none_of (is_of q) es none))

list_at-lists : (es : List Entry) (q : List ℕ) → list_at q (package_lists es) ≡ entry_items (of_package q es)
list_at-lists es q = ap items_in (get_member-from (lists es) q ∙ found_in es es [] q)
    ∙ items_of_any es q (list_any (is_of q) es) refl

entry_items-push : (es : List Entry) (e : Entry)
    → entry_items (es ++ e ∷ []) ≡ push_item (entry_items es) (table (entry_table e))
entry_items-push [] e = refl
entry_items-push (x ∷ es) e = ap (item (table (entry_table x))) (entry_items-push es e)

own_list : (es : List Entry) (e : Entry) → entry_items (of_package e.«package» (es ++ e ∷ []))
    ≡ push_item (entry_items (of_package e.«package» es)) (table (entry_table e))
own_list es e =
    let own : bytes_eq e.«package» e.«package» ≡ true = (bytes_eq-Decides e.«package» e.«package»).1 refl in
    ap entry_items (of_package-push es e e.«package» ∙ rw (own) refl) ∙ entry_items-push (of_package e.«package» es) e

-- one entry more stands at the end of its package's list
pub package_lists-push : (es : List Entry) (e : Entry)
    → package_lists (es ++ e ∷ [])
    ≡ put_member e.«package» (array (push_item (list_at e.«package» (package_lists es)) (table (entry_table e))))
    (package_lists es)
package_lists-push es e =
    ap members_from (lists-push es e)
    ∙ sym (put_member-from (lists es) e.«package» (list_of (es ++ e ∷ []) e.«package»))
    ∙ ap (λ (ds : Items). put_member e.«package» (array ds) (package_lists es))
    (own_list es e ∙ ap (λ ds. push_item ds (table (entry_table e))) (sym (list_at-lists es e.«package»)))

-- ---- the entries of a listing, one after the other

abbrev pub is_written : Listing → NameSet → Entry → Bool
is_written which exclude e = is_listed which e.kind && not (set.contains exclude e.«package»)

listed_more : (which : Listing) (exclude : NameSet) (entries : List Entry) (i : ℕ) (x : Entry) → i < length entries
    → x ≡ get_or entries i x
    → listed_entries which exclude (take (i + 1) entries) ≡ listed_entries which exclude (take i entries) ++ cond
    (is_written which exclude x) (x ∷ []) []
listed_more which exclude entries i x within is =
    ap (listed_entries which exclude) (one_more entries i x within is) ∙ filter-append (is_written which exclude)
    (take i entries) (x ∷ [])

-- the table of these entries, each of which is read again
abbrev pub AreWritten : Members → List Entry → Type 0
AreWritten ms es = (ms ≡ package_lists es) × All ReadsEntry es

pub entry_passed : (which : Listing) (exclude : NameSet) (entries : List Entry) (i : ℕ) (x : Entry) (ms : Members)
    → i < length entries → x ≡ get_or entries i x
    → is_written which exclude x ≡ false
    → AreWritten ms (listed_entries which exclude (take i entries))
    → AreWritten ms (listed_entries which exclude (take (i + 1) entries))
entry_passed which exclude entries i x ms within is not_written written =
    let before = listed_entries which exclude (take i entries) in
    let same = listed_more which exclude entries i x within is ∙ ap (λ b. before ++ cond b (x ∷ []) []) not_written
    ∙ append-nil before in
    subst (AreWritten ms) (sym same) written

pub entry_put : (which : Listing) (exclude : NameSet) (entries : List Entry) (i : ℕ) (x : Entry) (ms new : Members)
    → i < length entries → x ≡ get_or entries i x
    → is_written which exclude x ≡ true → ReadsEntry x
    → new ≡ put_member x.«package» (array (push_item (list_at x.«package» ms) (table (entry_table x)))) ms
    → AreWritten ms (listed_entries which exclude (take i entries))
    → AreWritten new (listed_entries which exclude (take (i + 1) entries))
entry_put which exclude entries i x ms new within is listed reads put written =
    let before = listed_entries which exclude (take i entries) in
    let same = listed_more which exclude entries i x within is ∙ ap (λ b. before ++ cond b (x ∷ []) []) listed in
    let with_it = λ (m : Members). put_member x.«package»
    (array (push_item (list_at x.«package» m) (table (entry_table x)))) m in
    subst (AreWritten new) (sym same) (
      put ∙ ap with_it written.0 ∙ sym (package_lists-push before x),
      All-push ReadsEntry before x written.1 reads,
    )
