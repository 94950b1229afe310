-- Sets of names that are kept as lists by key, each name its own key.
use Rattle.std.proofs.Common.{◌≡◌, ℕ, Bool, true, false, cond, ◌||◌, List, [], ◌∷◌, is_some, Option, Some, Ordering}
use Rattle.std.proofs.Common.{Less, Equal, Greater, refl, sym, ap, ◌∙◌}
use Rattle.std.specs.List.{list_any}
use Rattle.std.specs.Ordering.{eq_by_cmp, is_eq, ordering_reverse}
use Rattle.std.specs.FinSet as set
use Rattle.std.proofs.lemmas.Cmp.{nat_list_cmp_total}
use Rattle.vet_base.specs.Keyed.{all_set, is_of, item_of, with_item}
use Rattle.vet_base.specs.Names.{NameSet}
use Rattle.vet_base.proofs.KeyedLemmas.{item_of-after}
use Rattle.vet_base.proofs.Rising.{R, contains-in_order, only_equal}

-- each name is its own key
abbrev pub own : List ℕ → List ℕ
own n = n

pub either_way : (a b : List ℕ) → eq_by_cmp R a b ≡ is_eq (R b a)
either_way a b = turned (R b a) (R a b) (nat_list_cmp_total.antisymm a b)
  where
    turned : (r t : Ordering) → t ≡ ordering_reverse r → is_eq t ≡ is_eq r
    turned Less t h = ap is_eq h
    turned Equal t h = ap is_eq h
    turned Greater t h = ap is_eq h

some_or : (b : Bool) (x : List ℕ) (o : Option (List ℕ))
    → is_some (let chosen : Option (List ℕ) = cond b (Some x) o in chosen) ≡ (b || is_some o)
some_or true x o = refl
some_or false x o = refl

-- a name is among some where it is found
any_is : (xs : List (List ℕ)) (q : List ℕ) → list_any (eq_by_cmp R q) xs ≡ is_some (item_of R own xs q)
any_is [] q = refl
any_is (x ∷ xs) q =
    (λ i. either_way q x i || any_is xs q i) ∙ sym (some_or (is_eq (R x q)) x (item_of R own xs q))

pub contains_is : (xs : List (List ℕ)) (s : NameSet) (q : List ℕ) → set.from_list xs ≡ s → is_some (item_of R own xs q)
    ≡ set.contains s q
contains_is xs s q is = sym (any_is xs q) ∙ contains-in_order xs s q is

found_after : (xs : List (List ℕ)) (n q : List ℕ) → is_some (item_of R own (with_item R own xs n) q)
    ≡ (eq_by_cmp R q n || is_some (item_of R own xs q))
found_after xs n q =
    ap is_some (item_of-after R nat_list_cmp_total only_equal own xs n q (is_of R own q n) refl)
    ∙ some_or (is_of R own q n) n (item_of R own xs q)
    ∙ ap (λ b. b || is_some (item_of R own xs q)) (sym (either_way q n))

-- a name set in the list is one put in the set
pub from_list-with_item : (xs : List (List ℕ)) (n : List ℕ) → set.from_list {R = R} (with_item R own xs n)
    ≡ set.insert (set.from_list xs) n
from_list-with_item xs n =
    set.same_set nat_list_cmp_total only_equal _ _
    (λ q. set.contains-from_list nat_list_cmp_total (with_item R own xs n) q ∙ any_is (with_item R own xs n) q
    ∙ found_after xs n q
    ∙ sym (set.contains-insert nat_list_cmp_total (set.from_list xs) n q
    ∙ ap (λ b. eq_by_cmp R q n || b) (set.contains-from_list nat_list_cmp_total xs q ∙ any_is xs q)))

none_more : (b : Bool) → b ≡ (b || false)
none_more true = refl
none_more false = refl

moved : (a b c : Bool) → ((a || b) || c) ≡ (b || (a || c))
moved true true c = refl
moved true false c = refl
moved false b c = refl

found_in_all : (held more : List (List ℕ)) (q : List ℕ) → is_some (item_of R own (all_set R own held more) q)
    ≡ (is_some (item_of R own held q) || list_any (eq_by_cmp R q) more)
found_in_all held [] q = none_more _
found_in_all held (n ∷ more) q =
    found_in_all (with_item R own held n) more q ∙ ap (λ b. b || list_any (eq_by_cmp R q) more) (found_after held n q)
    ∙ moved (eq_by_cmp R q n) (is_some (item_of R own held q)) (list_any (eq_by_cmp R q) more)

-- names set one after another are the set of them
pub from_list-all_set : (xs : List (List ℕ)) → set.from_list {R = R} (all_set R own [] xs) ≡ set.from_list xs
from_list-all_set xs =
    set.same_set nat_list_cmp_total only_equal _ _
    (λ q. set.contains-from_list nat_list_cmp_total (all_set R own [] xs) q ∙ any_is (all_set R own [] xs) q
    ∙ found_in_all [] xs q
    ∙ sym (set.contains-from_list nat_list_cmp_total xs q))
