-- A row that is put into a tree or taken out of it, by its rowid.
use Rattle.std.proofs.Common.{◌≡◌, inl, inr, ℤ, List, [], ◌∷◌, map, filter, Bool, true, false, not, ◌&&◌, ◌||◌, cond}
use Rattle.std.proofs.Common.{refl, sym, ap, ◌∙◌, Ordering, Less, Equal, Greater}
use Rattle.std.proofs.lemmas.Bool.{true≢false}
use Rattle.std.proofs.lemmas.List.Sorted.{IsPermutation-refl, IsPermutation-cons, IsPermutation-trans}
use Rattle.std.proofs.lemmas.List.Sorted.{IsPermutation-sym, IsPermutation-middle}
use Rattle.std.specs.Cmp.{both_ways}
use Rattle.std.specs.List.{AllByRecursion, list_any}
use Rattle.std.specs.List.Sorted.{IsPermutation}
use Rattle.std.specs.Ordering.{is_eq, ordering_reverse, match_ordering}
use Rattle.sqlite_rules.proofs.ListLemmas.{all_has, all_from, some_has, some_from, has_filtered, has_kept}
use Rattle.sqlite_rules.proofs.TableLemmas.{int_is}
use Rattle.sqlite_rules.specs.Calls.{ids_of}
use Rattle.sqlite_rules.specs.Edit.{id_in, is_taken, without_all}
use Rattle.sqlite_rules.specs.Lists.{Has}
use Rattle.sqlite_trees.proofs.ListLemmas.{all_of, all-filter, all-permutation, ascending-filter, filter_all}
use Rattle.sqlite_trees.proofs.ListLemmas.{filter_same}
use Rattle.sqlite_trees.proofs.TreeLemmas.{not_true, all-put_row}
use Rattle.sqlite_trees.specs.Tree.{IsAscending, has_rowid, put_row, rowid, without_rowid}
use Rattle.sqlite_trees.specs.View.{is_int}
use Rattle.sqlite_value.proofs.OrderLemmas.{value_cmp_total}
use Rattle.sqlite_value.specs.Order.{Row, value_cmp}
use Rattle.sqlite_value.specs.declared.value.Value.{Value}
use Rattle.sqlite_value.specs.declared.value.Value.TheVariants.{Int}
use Rattle.vet_tables.specs.Numbered.{AreApart, AreNumbered}

none_all : {X : Type 0} (p : X → Bool) (xs : List X) → list_any p xs ≡ false → AllByRecursion (λ x. p x ≡ false) xs
none_all p xs none = all_from _ xs (λ x h. not_true _ (λ e. true≢false (sym (some_from p xs x h e) ∙ none)))

put_same : (new : Row) (rows : List Row) → AllByRecursion (λ r. AreApart r new) rows
    → IsPermutation (new ∷ rows) (put_row new rows)
put_same new [] fresh = IsPermutation-refl _
put_same new (r ∷ rows) fresh = go (value_cmp (rowid r) (rowid new)) fresh.0 (put_same new rows fresh.1)
  where
    go : (o : Ordering) → is_eq o ≡ false → IsPermutation (new ∷ rows) (put_row new rows)
        → IsPermutation (new ∷ r ∷ rows) (match_ordering o (r ∷ put_row new rows) (new ∷ rows) (new ∷ r ∷ rows))
    go Less h more = IsPermutation-trans _ _ _ (IsPermutation-middle (new ∷ []) r rows) (IsPermutation-cons r _ _ more)
    go Equal h more = absurd (true≢false h)
    go Greater h more = IsPermutation-refl _

reversed : (o : Ordering) → is_eq (ordering_reverse o) ≡ is_eq o
reversed Less = refl
reversed Equal = refl
reversed Greater = refl

pub apart_back : (a b : Row) → AreApart a b → AreApart b a
apart_back a b h = ap is_eq (value_cmp_total.antisymm (rowid b) (rowid a)) ∙ reversed (value_cmp (rowid a) (rowid b))
    ∙ h

put_apart : (new : Row) (rows : List Row) → AllByRecursion (λ r. AreApart r new) rows → IsAscending AreApart rows
    → IsAscending AreApart (put_row new rows)
put_apart new [] fresh up = (tt, tt)
put_apart new (r ∷ rows) fresh up = go (value_cmp (rowid r) (rowid new)) fresh.0 (put_apart new rows fresh.1 up.1)
  where
    go : (o : Ordering) → is_eq o ≡ false → IsAscending AreApart (put_row new rows)
        → IsAscending AreApart (match_ordering o (r ∷ put_row new rows) (new ∷ rows) (new ∷ r ∷ rows))
    go Less h more = (all-put_row (AreApart r) new rows fresh.0 up.0, more)
    go Equal h more = absurd (true≢false h)
    go Greater h more = (
      all_from (AreApart new) (r ∷ rows)
          (λ x k. apart_back x new (all_has (λ y. AreApart y new) (r ∷ rows) x fresh k)),
      up,
    )

pub put_whole : (new : Row) (rows : List Row) → is_taken rows new ≡ false
    → IsPermutation (new ∷ rows) (put_row new rows)
put_whole new rows free = put_same new rows (none_all _ rows free)

pub put_numbered : (new : Row) (rows : List Row) → is_int (rowid new) ≡ true → is_taken rows new ≡ false
    → AreNumbered rows → AreNumbered (put_row new rows)
put_numbered new rows int free was = record {
  ints =
      all-put_row (λ r. is_int (rowid r) ≡ true) new rows int was.ints;
  apart =
      put_apart new rows (none_all _ rows free) was.apart;
}

pub filter_numbered : (p : Row → Bool) (rows : List Row) → AreNumbered rows → AreNumbered (filter p rows)
filter_numbered p rows was = record { ints = all-filter _ p rows was.ints; apart = ascending-filter _ p rows was.apart }

tied_alone : (rows : List Row) (a b : Row) → IsAscending AreApart rows → Has rows a → Has rows b
    → is_eq (value_cmp (rowid a) (rowid b)) ≡ true → a ≡ b
tied_alone [] a b up h k tie = absurd h
tied_alone (r ∷ rows) a b up (inl h) (inl k) tie = h ∙ sym k
tied_alone (r ∷ rows) a b up (inl h) (inr k) tie =
    absurd (let apart = all_has (AreApart r) rows b up.0 k in true≢false (sym (rw h at tie) ∙ apart))
tied_alone (r ∷ rows) a b up (inr h) (inl k) tie =
    absurd (let apart = apart_back r a (all_has (AreApart r) rows a up.0 h) in true≢false (sym (rw k at tie) ∙ apart))
tied_alone (r ∷ rows) a b up (inr h) (inr k) tie = tied_alone rows a b up.1 h k tie

filter_twice : {X : Type 0} (p q : X → Bool) (xs : List X) → filter p (filter q xs) ≡ filter (λ x. q x && p x) xs
filter_twice p q [] = refl
filter_twice p q (x ∷ xs) = go (q x) (filter_twice p q xs)
  where
    go : (b : Bool) → filter p (filter q xs) ≡ filter (λ y. q y && p y) xs
        → filter p (cond b (x ∷ filter q xs) (filter q xs)) ≡ cond (b && p x) (x ∷ filter (λ y. q y && p y) xs)
        (filter (λ y. q y && p y) xs)
    go true more = ap (λ l. cond (p x) (x ∷ l) l) more
    go false more = more

nor : (a b : Bool) → (not a && not b) ≡ not (a || b)
nor true b = refl
nor false b = refl

without : (ids : List ℤ) (rows : List Row) → without_all rows ids ≡ filter
    (λ r. not (list_any (λ id. has_rowid id r) ids)) rows
without [] rows = sym (filter_all _ rows (all_of (λ r. true ≡ true) (λ r. refl) rows))
without (id ∷ ids) rows =
    without ids (without_rowid id rows) ∙ filter_twice _ _ rows
    ∙ filter_same _ _ rows (all_from _ rows (λ r h. nor (has_rowid id r) (list_any (λ i. has_rowid i r) ids)))

map_has : {X Y : Type 0} (f : X → Y) (xs : List X) (y : Y) → Has (map f xs) y → (x : X) × Has xs x × (y ≡ f x)
map_has f [] y h = absurd h
map_has f (x ∷ xs) y (inl e) = (x, inl refl, e)
map_has f (x ∷ xs) y (inr h) = let more = map_has f xs y h in (more.0, inr more.1, more.2)

has_map : {X Y : Type 0} (f : X → Y) (xs : List X) (x : X) → Has xs x → Has (map f xs) (f x)
has_map f [] x h = absurd h
has_map f (y ∷ xs) x (inl e) = inl (ap f e)
has_map f (y ∷ xs) x (inr h) = inr (has_map f xs x h)

pub has_same : {X : Type 0} (xs ys : List X) (x : X) → IsPermutation xs ys → Has ys x → Has xs x
has_same xs ys x same h = all_has (Has xs) ys x (all-permutation (Has xs) xs ys same (all_from _ xs (λ y k. k))) h

itself : (v : Value) → is_eq (value_cmp v v) ≡ true
itself v = go (value_cmp v v) (value_cmp_total.antisymm v v)
  where
    go : (o : Ordering) → o ≡ ordering_reverse o → is_eq o ≡ true
    go Less e = absurd cc
    go Equal e = refl
    go Greater e = absurd cc

-- the rows whose rowids are found go, and no others
pub removed : (p : Row → Bool) (rows answers : List Row) → AreNumbered rows
    → IsPermutation (map (λ r. rowid r ∷ []) (filter p rows)) answers
    → without_all rows (ids_of answers) ≡ filter (λ r. not (p r)) rows
removed p rows answers own found =
    without (ids_of answers) rows ∙ filter_same _ _ rows
    (all_from _ rows (λ r h. ap not (both_ways _ _ (to r h) (back r h))))
  where
    to : (r : Row) → Has rows r → list_any (λ id. has_rowid id r) (ids_of answers) ≡ true → p r ≡ true
    to r h some =
        let it = some_has (λ id. has_rowid id r) (ids_of answers) some in
        let from = map_has (λ (x : Row). id_in (rowid x)) answers it.0 it.1 in
        let was = map_has (λ (x : Row). rowid x ∷ []) (filter p rows) from.0 (has_same _ _ _ found from.1) in
        let passed = has_filtered p rows was.0 was.1 in
        let id : it.0 ≡ id_in (rowid was.0) = from.2 ∙ ap (λ (x : Row). id_in (rowid x)) was.2 in
        let int : rowid was.0 ≡ Int (id_in (rowid was.0)) = int_is _ (all_has _ rows was.0 own.ints passed.0) in
        let tie : is_eq (value_cmp (rowid r) (rowid was.0)) ≡ true =
        ap (λ v. is_eq (value_cmp (rowid r) v)) (int ∙ ap Int (sym id)) ∙ it.2 in
        ap p (tied_alone rows r was.0 own.apart h passed.0 tie) ∙ passed.1

    back : (r : Row) → Has rows r → p r ≡ true → list_any (λ id. has_rowid id r) (ids_of answers) ≡ true
    back r h passes =
        let there = has_same _ _ _ (IsPermutation-sym _ _ found)
        (has_map (λ (x : Row). rowid x ∷ []) (filter p rows) r (has_kept p rows r h passes)) in
        let listed = has_map (λ (x : Row). id_in (rowid x)) answers (rowid r ∷ []) there in
        let int : rowid r ≡ Int (id_in (rowid r)) = int_is _ (all_has _ rows r own.ints h) in
        some_from (λ id. has_rowid id r) (ids_of answers) (id_in (rowid r)) listed
        (ap (λ v. is_eq (value_cmp (rowid r) v)) (sym int) ∙ itself (rowid r))
