-- A tree's rows as a set, when a row is put in or taken out.
use Rattle.std.proofs.Common.{◌≡◌, inl, inr, ◌∷◌, List, [], map, filter, Bool, false, not, sym, ap, subst, ◌∙◌}
use Rattle.std.proofs.lemmas.List.Sorted.{IsPermutation-sym}
use Rattle.std.specs.List.Sorted.{IsPermutation}
use Rattle.sqlite_rules.specs.Lists.{Has}
use Rattle.sqlite_trees.proofs.ListLemmas.{filter-map, filter_same}
use Rattle.sqlite_rules.proofs.ListLemmas.{all_from}
use Rattle.sqlite_trees.specs.Tree.{put_row}
use Rattle.sqlite_rules.specs.Edit.{is_taken}
use Rattle.sqlite_value.specs.Order.{Row as Cells}
use Rattle.vet_base.proofs.ItemLemmas.{filter_in, in_filter, in_map, map_in}
use Rattle.vet_base.specs.Items.{IsIn, SameItems}
use Rattle.vet_tables.proofs.Numbers.{has_same, put_whole}
use Rattle.vet_tables.specs.Form.{TableForm, shown}

in_had : {X : Type 0} (xs : List X) (x : X) → Has xs x → IsIn x xs
in_had [] x h = h
in_had (y ∷ xs) x (inl e) = inl e
in_had (y ∷ xs) x (inr h) = inr (in_had xs x h)

pub had_in : {X : Type 0} (xs : List X) (x : X) → IsIn x xs → Has xs x
had_in [] x h = h
had_in (y ∷ xs) x (inl e) = inl e
had_in (y ∷ xs) x (inr h) = inr (had_in xs x h)

pub items_permuted : {X : Type 0} (xs ys : List X) → IsPermutation xs ys → SameItems xs ys
items_permuted xs ys same = (
  λ x i. in_had ys x (has_same ys xs x (IsPermutation-sym xs ys same) (had_in xs x i)),
  λ x i. in_had xs x (has_same xs ys x same (had_in ys x i)),
)

pub items_then : {X : Type 0} (xs ys zs : List X) → SameItems xs ys → SameItems ys zs → SameItems xs zs
items_then xs ys zs p q = (λ x i. q.0 x (p.0 x i), λ x i. p.1 x (q.1 x i))

pub items_map : {X Y : Type 0} (f : X → Y) (xs ys : List X) → SameItems xs ys → SameItems (map f xs) (map f ys)
items_map f xs ys same = (go xs ys same.0, go ys xs same.1)
  where
    go : (ms ns : List _) → ((x : _) → IsIn x ms → IsIn x ns) → (y : _) → IsIn y (map f ms) → IsIn y (map f ns)
    go ms ns each y i = let it = in_map f ms y i in
        subst (λ z. IsIn z (map f ns)) (sym it.1.1) (map_in f ns it.0 (each it.0 it.1.0))

-- the items that pass a test
items_filter : {X : Type 0} (p : X → Bool) (xs ys : List X) → SameItems xs ys → SameItems (filter p xs) (filter p ys)
items_filter p xs ys same = (go xs ys same.0, go ys xs same.1)
  where
    go : (ms ns : List _) → ((x : _) → IsIn x ms → IsIn x ns) → (y : _) → IsIn y (filter p ms) → IsIn y (filter p ns)
    go ms ns each y i = let it = in_filter p ms y i in filter_in p ns y (each y it.0) it.1

-- the rows that a test of what they show leaves
pub left_out : (form : TableForm) (test passes : Cells → Bool) (all tree : List Cells)
    → ((row : Cells) → passes row ≡ test (shown form row)) → SameItems all (map (shown form) tree)
    → SameItems (filter (λ c. not (test c)) all) (map (shown form) (filter (λ row. not (passes row)) tree))
left_out form test passes all tree is whole =
    let moved : filter (λ c. not (test c)) (map (shown form) tree) ≡ map (shown form)
    (filter (λ row. not (passes row)) tree) =
    filter-map (λ c. not (test c)) (shown form) tree
    ∙ ap (map (shown form)) (filter_same _ _ tree (all_from _ tree (λ row h. ap not (sym (is row))))) in
    subst (SameItems (filter (λ c. not (test c)) all)) moved
    (items_filter (λ c. not (test c)) all (map (shown form) tree) whole)

-- a row that is put in, as its cells
pub put_in : (form : TableForm) (all : List Cells) (c : Cells) (tree : List Cells) (new : Cells)
    → is_taken tree new ≡ false → shown form new ≡ c → SameItems all (map (shown form) tree)
    → SameItems (c ∷ all) (map (shown form) (put_row new tree))
put_in form all c tree new free shows whole =
    let added : SameItems (c ∷ all) (map (shown form) (new ∷ tree)) = (to, back) in
    items_then (c ∷ all) (map (shown form) (new ∷ tree)) (map (shown form) (put_row new tree)) added
    (items_map (shown form) (new ∷ tree) (put_row new tree)
    (items_permuted (new ∷ tree) (put_row new tree) (put_whole new tree free)))
  where
    to : (x : Cells) → IsIn x (c ∷ all) → IsIn x (map (shown form) (new ∷ tree))
    to x (inl e) = inl (e ∙ sym shows)
    to x (inr i) = inr (whole.0 x i)

    back : (x : Cells) → IsIn x (map (shown form) (new ∷ tree)) → IsIn x (c ∷ all)
    back x (inl e) = inl (e ∙ shows)
    back x (inr i) = inr (whole.1 x i)
