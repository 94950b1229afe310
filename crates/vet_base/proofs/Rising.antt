-- Names in order.
use Rattle.std.proofs.Common.{◌≡◌, ℕ, zero, suc, ◌+◌, ◌<◌, Bool, true, false, cond, ◌||◌, ◌&&◌, T, List, [], ◌∷◌, ◌++◌}
use Rattle.std.proofs.Common.{map, length, take, drop, get_or, is_ok, ◌==◌, ◌↔◌, nat_eq, eqb-true, eq-eqb, Ordering}
use Rattle.std.proofs.Common.{Less, Equal, Greater, Some, None, Result, Ok, Err, MatchResult, refl, sym, ap, subst, ◌∙◌}
use Rattle.std.proofs.Common.{arith}
use Rattle.std.specs.List.{All, insert, list_any}
use Rattle.std.specs.List.Sorted.{IsBinarySearchResult, IsSearchInRange, IsPartitionPoint, IsSortedBy}
use Rattle.std.specs.Ordering.{nat_cmp, is_lt, is_eq, eq_by_cmp, ordering_reverse}
use Rattle.std.specs.Cmp.Lexicographic.{slice_cmp, pointwise, pointwise_decides, bytes_decides}
use Rattle.std.specs.FinSet as set
use Rattle.std.specs.FinMap as map
use Rattle.std.specs.FinMap.Entries.{below_all}
use Rattle.std.specs.FinMap.{slice_cmp-IsAntisymmetric, nat_cmp-IsAntisymmetric}
use Rattle.std.proofs.lemmas.Cmp.{nat_list_cmp_total, tied_itself}
use Rattle.std.proofs.lemmas.List.{get_or-take, get_or-drop, length-take, length-drop, take-append-drop}
use Rattle.std.proofs.lemmas.List.Elements.{All-nil, All-cons, All-head, All-tail, All-append, All-take, All-drop}
use Rattle.std.proofs.lemmas.List.Kept.{AllPairs-cons}
use Rattle.std.proofs.lemmas.List.Sorted.{searchable_from_sorted}
use Rattle.std.proofs.lemmas.List.Folds.{list_any_at, list_any_none}
use Rattle.vet_base.specs.Names.{NameSet, IsRising, bare, members, same_names}
use Rattle.vet_base.specs.NamesLaws.{find-bare}

abbrev pub R : List ℕ → List ℕ → Ordering
R = slice_cmp nat_cmp

pub only_equal : (a b : List ℕ) → R a b ≡ Equal → a ≡ b
only_equal = slice_cmp-IsAntisymmetric nat_cmp-IsAntisymmetric

pub above : (a b : List ℕ) → R a b ≡ Less → R b a ≡ Greater
above a b h = nat_list_cmp_total.antisymm b a ∙ ap ordering_reverse h

pub below : (a b : List ℕ) → R a b ≡ Greater → R b a ≡ Less
below a b h = nat_list_cmp_total.antisymm b a ∙ ap ordering_reverse h

pub IsRising-head : (x : List ℕ) (xs : List (List ℕ)) → IsRising (x ∷ xs) → All (λ y. R x y ≡ Less) xs
IsRising-head x xs h k d l = h 0 (suc k) d (omega arith) (omega arith)

pub IsRising-tail : (x : List ℕ) (xs : List (List ℕ)) → IsRising (x ∷ xs) → IsRising xs
IsRising-tail x xs h i j d l m = h (suc i) (suc j) d (omega arith) (omega arith)

pub IsRising-nil : IsRising []
IsRising-nil i j d l m = absurd (omega arith)

-- a name put between the lower ones and the higher ones
pub IsRising-insert : (xs : List (List ℕ)) (i : ℕ) (x : List ℕ) → All (λ y. R y x ≡ Less) (take i xs)
    → All (λ y. R x y ≡ Less) (drop i xs) → IsRising xs → IsRising (insert xs i x)
IsRising-insert xs zero x low high h = AllPairs-cons (λ a b. R a b ≡ Less) x xs high h
IsRising-insert [] (suc i) x low high h = AllPairs-cons (λ a b. R a b ≡ Less) x [] (All-nil _) IsRising-nil
IsRising-insert (y ∷ ys) (suc i) x low high h =
    AllPairs-cons (λ a b. R a b ≡ Less) y (insert ys i x)
    (All-append (λ z. R y z ≡ Less) (take i ys) (x ∷ drop i ys)
    (All-take (λ z. R y z ≡ Less) i ys (IsRising-head y ys h))
    (All-cons (λ z. R y z ≡ Less) x (drop i ys) (All-head (λ z. R z x ≡ Less) y (take i ys) low)
    (All-drop (λ z. R y z ≡ Less) i ys (IsRising-head y ys h))))
    (IsRising-insert ys i x (All-tail (λ z. R z x ≡ Less) y (take i ys) low) high (IsRising-tail y ys h))

not_less : (a b : List ℕ) → R a b ≡ Less → is_lt (R b a) ≡ false
not_less a b h = ap is_lt (above a b h)

-- what a search among names in order answers
pub record Lacks (xs : List (List ℕ)) (x : List ℕ) (i : ℕ) : Type 0 where
  pub low : All (λ y. R y x ≡ Less) (take i xs)
  pub high : All (λ y. R x y ≡ Less) (drop i xs)

pub searched : (xs : List (List ℕ)) (x : List ℕ) (r : Result ℕ ℕ) → IsRising xs → IsSearchInRange r (length xs)
    → IsBinarySearchResult (λ y. R y x) xs r
    → MatchResult r (λ i. (i < length xs) × ((d : List ℕ) → get_or xs i d ≡ x)) (Lacks xs x)
searched xs x (Ok i) h l at = (l, λ d. only_equal _ _ (at d))
searched xs x (Err i) h l at =
    let up : IsSortedBy (λ a b. is_lt (R a b)) xs =
    λ k d _ m. not_less (get_or xs k d) (get_or xs (k + 1) d) (h k (k + 1) d (omega arith) m) in
    let parts : IsPartitionPoint (λ y. R y x ≡ Less) (λ y. R y x ≡ Greater) xs i =
    at (searchable_from_sorted nat_list_cmp_total (λ y. y) xs x up) in
    record {
      low = λ k d m. (let in_front : k < i = omega (arith, length-take i xs) in
          rw (get_or-take i xs k d in_front) (parts.0 k d (omega arith) in_front));
      high = λ k d m. (let within : i + k < length xs = omega (arith, length-drop i xs) in
          rw (get_or-drop i xs k d) (below (get_or xs (i + k) d) x (parts.1 (i + k) d (omega arith) within)));
    }

or_swap : (a b c : Bool) → (a || (b || c)) ≡ (b || (a || c))
or_swap true true c = refl
or_swap true false c = refl
or_swap false b c = refl

any-insert : {X : Type 0} (p : X → Bool) (xs : List X) (i : ℕ) (x : X) → list_any p (insert xs i x)
    ≡ (p x || list_any p xs)
any-insert p xs zero x = refl
any-insert p [] (suc i) x = refl
any-insert p (y ∷ ys) (suc i) x = ap (λ b. p y || b) (any-insert p ys i x) ∙ or_swap (p y) (p x) _

pub from_list-insert : (xs : List (List ℕ)) (i : ℕ) (x : List ℕ) → set.from_list {R = R} (insert xs i x)
    ≡ set.insert (set.from_list xs) x
from_list-insert xs i x =
    set.same_set nat_list_cmp_total only_equal _ _
    (λ q. set.contains-from_list nat_list_cmp_total (insert xs i x) q ∙ any-insert (eq_by_cmp R q) xs i x
    ∙ sym (set.contains-insert nat_list_cmp_total (set.from_list xs) x q
    ∙ ap (λ b. eq_by_cmp R q x || b) (set.contains-from_list nat_list_cmp_total xs q)))

pub eq-itself : (x : List ℕ) → eq_by_cmp R x x ≡ true
eq-itself x = ap is_eq (tied_itself nat_list_cmp_total x)

pub equal-from_eq : (x y : List ℕ) → eq_by_cmp R x y ≡ true → x ≡ y
equal-from_eq x y h = only_equal x y (tie (R x y) h)
  where
    tie : (r : Ordering) → is_eq r ≡ true → r ≡ Equal
    tie Less h = cc h
    tie Equal h = refl
    tie Greater h = cc h

-- what stands at a place is found
pub any_found : (xs : List (List ℕ)) (x : List ℕ) (i : ℕ) → i < length xs → ((d : List ℕ) → get_or xs i d ≡ x)
    → list_any (eq_by_cmp R x) xs ≡ true
any_found xs x i l at = list_any_at (eq_by_cmp R x) xs i x l (rw (at x) (eq-itself x))

pub any_lacks : (xs : List (List ℕ)) (x : List ℕ) (i : ℕ) → Lacks xs x i → list_any (eq_by_cmp R x) xs ≡ false
any_lacks xs x i h =
    let low : All (λ y. eq_by_cmp R x y ≡ false) (take i xs) =
    λ k d l. ap is_eq (above (get_or (take i xs) k d) x (h.low k d l)) in
    let high : All (λ y. eq_by_cmp R x y ≡ false) (drop i xs) = λ k d l. ap is_eq (h.high k d l) in
    ap (list_any (eq_by_cmp R x)) (sym (take-append-drop i xs))
    ∙ list_any_none (eq_by_cmp R x) (take i xs ++ drop i xs)
    (All-append (λ y. eq_by_cmp R x y ≡ false) (take i xs) (drop i xs) low high)

or_held : (a b : Bool) → (a ≡ true → b ≡ true) → (a || b) ≡ b
or_held true b h = sym (h refl)
or_held false b h = refl

-- a name that is held is no more
pub insert_held : (s : NameSet) (x : List ℕ) → set.contains s x ≡ true → set.insert s x ≡ s
insert_held s x h =
    set.same_set nat_list_cmp_total only_equal _ _ (λ q. set.contains-insert nat_list_cmp_total s x q
    ∙ or_held (eq_by_cmp R q x) (set.contains s q) (λ e. ap (set.contains s) (equal-from_eq q x e) ∙ h))

both_T : (a b : Bool) → T a → T b → T (a && b)
both_T true b p q = q
both_T false b p q = p

less_T : (r : Ordering) → r ≡ Less → T (is_lt r)
less_T r h = subst (λ o. T (is_lt o)) (sym h) tt

-- entries whose keys are in order
pub sorted_entries : {X : Type 0} (es : List (List ℕ × X)) → IsRising (map (λ e. e.0) es) → T (map.is_sorted R es)
sorted_entries [] h = tt
sorted_entries {X = X} (e ∷ es) h =
    both_T _ _ (under es (IsRising-head e.0 (map (λ d. d.0) es) h))
    (sorted_entries es (IsRising-tail e.0 (map (λ d. d.0) es) h))
  where
    under : (es : List (List ℕ × X)) → All (λ y. R e.0 y ≡ Less) (map (λ d. d.0) es) → T (below_all R e.0 es)
    under [] h = tt
    under (d ∷ es) h = both_T _ _ (less_T (R e.0 d.0) (All-head (λ y. R e.0 y ≡ Less) d.0 (map (λ d. d.0) es) h))
        (under es (All-tail (λ y. R e.0 y ≡ Less) d.0 (map (λ d. d.0) es) h))

keys-bare : (xs : List (List ℕ)) → map (λ e. e.0) (bare xs) ≡ xs
keys-bare [] = refl
keys-bare (x ∷ xs) = ap (λ t. x ∷ t) (keys-bare xs)

-- the members of the set of a list in order
pub members-from_list : (xs : List (List ℕ)) → IsRising xs → members (set.from_list xs) ≡ xs
members-from_list xs h =
    let s : NameSet = set.from_list xs in
    let sorted : T (map.is_sorted R (bare xs)) = sorted_entries (bare xs) (subst IsRising (sym (keys-bare xs)) h) in
    let same : map.from_entries {R = R} (bare (set.items s)) ≡ map.from_sorted (bare xs) =
    map.same_map nat_list_cmp_total only_equal _ _ (λ q. map.get-from_entries nat_list_cmp_total (bare (set.items s)) q
    ∙ find-bare q (set.items s)
    ∙ ap (λ b. cond b (Some tt) None) (sym (set.contains-items s q) ∙ set.contains-from_list nat_list_cmp_total xs q)
    ∙ sym (map.get-from_sorted R (bare xs) q sorted ∙ find-bare q xs)) in
    ap map.keys same ∙ ap (map (λ e. e.0)) (map.entries-from_sorted R (bare xs) sorted) ∙ keys-bare xs

pub len-from_list : (xs : List (List ℕ)) → IsRising xs → set.len (set.from_list {R = R} xs) ≡ length xs
len-from_list [] h = set.len-empty R
len-from_list (x ∷ xs) h =
    let none : set.contains (set.from_list xs) x ≡ false =
    set.contains-from_list nat_list_cmp_total xs x
    ∙ list_any_none (eq_by_cmp R x) xs (λ k d l. ap is_eq (IsRising-head x xs h k d l)) in
    let more = set.len-insert nat_list_cmp_total (set.from_list xs) x in
    let one : set.len (set.insert (set.from_list {R = R} xs) x) ≡ set.len (set.from_list {R = R} xs) + 1 =
    more ∙ ap (λ b. cond b (set.len (set.from_list {R = R} xs)) (set.len (set.from_list {R = R} xs) + 1)) none in
    omega (arith, one, len-from_list xs (IsRising-tail x xs h))

pub found_or_not : (xs : List (List ℕ)) (x : List ℕ) (r : Result ℕ ℕ)
    → MatchResult r (λ i. (i < length xs) × ((d : List ℕ) → get_or xs i d ≡ x)) (Lacks xs x) → is_ok r
    ≡ list_any (eq_by_cmp R x) xs
found_or_not xs x (Ok i) h = sym (any_found xs x i h.0 h.1)
found_or_not xs x (Err i) h = sym (any_lacks xs x i h)

-- what a search in the slice of a `Vec` answers of the names there
pub searched_in : (ks xs : List (List ℕ)) (x : List ℕ) (r : Result ℕ ℕ) → xs ≡ ks → IsRising ks
    → IsSearchInRange r (length xs) → IsBinarySearchResult (λ y. R y x) xs r
    → MatchResult r (λ i. (i < length ks) × ((d : List ℕ) → get_or ks i d ≡ x)) (Lacks ks x)
searched_in ks xs x r e h l at = rw e at (searched xs x r (rw e h) l at)

pub contains-in_order : (xs : List (List ℕ)) (s : NameSet) (x : List ℕ) → set.from_list xs ≡ s
    → list_any (eq_by_cmp R x) xs ≡ set.contains s x
contains-in_order xs s x e = sym (set.contains-from_list nat_list_cmp_total xs x) ∙ ap (λ t. set.contains t x) e

pub empty_list : (xs : List (List ℕ)) (s : NameSet) → IsRising xs → set.from_list xs ≡ s → (length xs == 0)
    ≡ true ↔ (s ≡ set.empty)
empty_list xs s h e = (
  λ t. set.empty_of_len s (ap set.len (sym e) ∙ len-from_list xs h ∙ eqb-true (length xs) 0 t),
  λ t. eq-eqb (length xs) 0 (sym (len-from_list xs h) ∙ ap set.len (e ∙ t) ∙ set.len-empty R),
)

same_names-tells : (xs ys : List (List ℕ)) (s t : NameSet) → IsRising xs → IsRising ys → set.from_list xs ≡ s
    → set.from_list ys ≡ t → pointwise (pointwise nat_eq) xs ys ≡ same_names s t
same_names-tells xs ys s t h g d e =
    ap (λ ns. pointwise (pointwise nat_eq) ns ys) (sym (members-from_list xs h) ∙ ap members d)
    ∙ ap (pointwise (pointwise nat_eq) (members s)) (sym (members-from_list ys g) ∙ ap members e)

same_names-iff : (xs ys : List (List ℕ)) (s t : NameSet) → IsRising xs → IsRising ys → set.from_list xs ≡ s
    → set.from_list ys ≡ t → (pointwise (pointwise nat_eq) xs ys ≡ true) ↔ (s ≡ t)
same_names-iff xs ys s t h g d e = (
  λ p. sym d ∙ ap set.from_list ((lists_decide xs ys).0 p) ∙ e,
  λ q. (lists_decide xs ys).1 (sym (members-from_list xs h) ∙ ap members (d ∙ q ∙ sym e) ∙ members-from_list ys g),
)
  where
    lists_decide : (xs ys : List (List ℕ)) → (pointwise (pointwise nat_eq) xs ys ≡ true) ↔ (xs ≡ ys)
    lists_decide = pointwise_decides bytes_decides

-- what is told of lists in order that are equal, and of their sets
module _ (xs ys : List (List ℕ)) (s t : NameSet) (h : IsRising xs) (g : IsRising ys) (is_first : set.from_list xs ≡ s)
    (is_second : set.from_list ys ≡ t) (told : Bool) (so : told ≡ pointwise (pointwise nat_eq) xs ys) where
  pub equal_sets : told ≡ same_names s t
  equal_sets = so ∙ same_names-tells xs ys s t h g is_first is_second

  pub equal_just_so : (told ≡ true) ↔ (s ≡ t)
  equal_just_so = (let iff = same_names-iff xs ys s t h g is_first is_second in
      (λ yes. iff.0 (sym so ∙ yes), λ same. so ∙ iff.1 same))

first_T : (a b : Bool) → T (a && b) → T a
first_T true b p = tt
first_T false b p = p

second_T : (a b : Bool) → T (a && b) → T b
second_T true b p = p
second_T false b p = absurd p

less_from_T : (r : Ordering) → T (is_lt r) → r ≡ Less
less_from_T Less p = refl
less_from_T Equal p = absurd p
less_from_T Greater p = absurd p

all_below : {X : Type 0} (x : List ℕ) (es : List (List ℕ × X)) → T (below_all R x es)
    → All (λ y. R x y ≡ Less) (map (λ e. e.0) es)
all_below x [] h = All-nil _
all_below x (e ∷ es) h =
    All-cons (λ y. R x y ≡ Less) e.0 (map (λ d. d.0) es) (less_from_T (R x e.0) (first_T _ _ h))
    (all_below x es (second_T (is_lt (R x e.0)) _ h))

-- the keys of a map are in order
pub rising_entries : {X : Type 0} (es : List (List ℕ × X)) → T (map.is_sorted R es) → IsRising (map (λ e. e.0) es)
rising_entries [] h = IsRising-nil
rising_entries (e ∷ es) h =
    AllPairs-cons (λ a b. R a b ≡ Less) e.0 (map (λ d. d.0) es) (all_below e.0 es (first_T _ _ h))
    (rising_entries es (second_T (below_all R e.0 es) _ h))
