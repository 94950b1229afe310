-- What lists made of others hold.
use Rattle.std.proofs.Common.{◌≡◌, ◌≢◌, ◌≤◌, ◌⊎◌, nat_eq, eq-eqb, eqb-true, ℕ, zero, suc, ◌<◌, ◌+◌, Bool, true, false}
use Rattle.std.proofs.Common.{cond, List, [], ◌∷◌, ◌++◌, filter, length, get_or, take, subst, refl, sym, ap, ◌∙◌, inl}
use Rattle.std.proofs.Common.{inr, arith}
use Rattle.std.specs.List.{All, AllPairs, Contains, flat_map, list_any, range_with_len}
use Rattle.std.proofs.Math.Seq.{take-suc}
use Rattle.std.proofs.lemmas.Bool.{cases_Bool, cond-true, cond-false, or_cases, or_left, or_right}
use Rattle.std.specs.Prelude.{Option, Some, None, option_map}
use Rattle.std.proofs.lemmas.Option.{same_Some}
use Rattle.std.specs.Bool.{Decides}
use Rattle.std.specs.Cmp.{decided}
use Rattle.std.proofs.lemmas.List.{get_or-take, length-take, take-take}
use Rattle.std.proofs.lemmas.Map.Made.{IsDistinct-from_AllPairs, length-le_from_is_member, is_member-Decides}
use Rattle.std.proofs.lemmas.List.Elements.{All-contains, Contains-get_or, Contains-append_cases, Contains-append_left}
use Rattle.std.proofs.lemmas.List.Elements.{Contains-append_right, Contains-push, Contains-push_cases}
use Rattle.vet_base.proofs.ListLemmas.{Contains-here, Contains-later, Contains-cons_cases}
use Rattle.std.proofs.lemmas.List.FromFn.{length-range_with_len, get_or-range_with_len}

pub in_none : {X : Type 0} {P : Type 0} (y : X) → Contains [] y → P
in_none y held = absurd (omega (arith, held.1))

-- one of them passes a test
pub any_from : {X : Type 0} (p : X → Bool) (xs : List X) (x : X) → Contains xs x → p x ≡ true → list_any p xs ≡ true
any_from p [] x held h = in_none x held
any_from p (y ∷ ys) x held h = elim (Contains-cons_cases y ys x held) [
  | inl here ↦ or_left (p y) (list_any p ys) (ap p here ∙ h)
  | inr there ↦ or_right (p y) (list_any p ys) (any_from p ys x there h)
]

pub from_any : {X : Type 0} (p : X → Bool) (xs : List X) → list_any p xs ≡ true → (x : X) × Contains xs x × (p x ≡ true)
from_any p [] h = cc h
from_any p (y ∷ ys) h = elim (or_cases (p y) (list_any p ys) h) [
  | inl here ↦ (y, Contains-here y ys, here)
  | inr there ↦ let r = from_any p ys there in (r.0, Contains-later y r.0 ys r.1, r.2)
]

-- what passes a test, and no more, is filtered
pub from_filter : {X : Type 0} (p : X → Bool) (xs : List X) (x : X) → Contains (filter p xs) x
    → Contains xs x × (p x ≡ true)
from_filter p [] x held = in_none x held
from_filter p (y ∷ ys) x held =
    let later : Contains (filter p ys) x → Contains (y ∷ ys) x × (p x ≡ true) =
    λ rest. (let r = from_filter p ys x rest in (Contains-later y x ys r.0, r.1)) in
    elim (cases_Bool (p y)) [
      | inl passes ↦ (let here : Contains (y ∷ filter p ys) x =
          subst (λ l. Contains l x) (cond-true (p y) (y ∷ filter p ys) (filter p ys) passes) held in
          elim (Contains-cons_cases y (filter p ys) x here) [
            | inl same ↦ ((0, omega arith, same), sym (ap p same) ∙ passes)
            | inr rest ↦ later rest
          ])
      | inr fails ↦ later (subst (λ l. Contains l x) (cond-false (p y) (y ∷ filter p ys) (filter p ys) fails) held)
    ]

pub to_filter : {X : Type 0} (p : X → Bool) (xs : List X) (x : X) → Contains xs x → p x ≡ true
    → Contains (filter p xs) x
to_filter p [] x held h = in_none x held
to_filter p (y ∷ ys) x held h =
    elim (Contains-cons_cases y ys x held) [
      | inl same ↦ subst (λ l. Contains l x) (sym (cond-true (p y) (y ∷ filter p ys) (filter p ys) (ap p same ∙ h)))
          (0, omega arith, same)
      | inr there ↦ elim (cases_Bool (p y)) [
        | inl passes ↦ subst (λ l. Contains l x) (sym (cond-true (p y) (y ∷ filter p ys) (filter p ys) passes))
            (Contains-later y x (filter p ys) (to_filter p ys x there h))
        | inr fails ↦ subst (λ l. Contains l x) (sym (cond-false (p y) (y ∷ filter p ys) (filter p ys) fails))
            (to_filter p ys x there h)
      ]
    ]

-- what is made of one of them is among what is made of all, and all of it is made of one
pub from_flat_map : {X Y : Type 0} (f : X → List Y) (xs : List X) (y : Y) → Contains (flat_map f xs) y
    → (x : X) × Contains xs x × Contains (f x) y
from_flat_map f [] y held = in_none y held
from_flat_map f (x ∷ xs) y held = elim (Contains-append_cases (f x) (flat_map f xs) y held) [
  | inl here ↦ (x, Contains-here x xs, here)
  | inr there ↦ let r = from_flat_map f xs y there in (r.0, Contains-later x r.0 xs r.1, r.2)
]

pub to_flat_map : {X Y : Type 0} (f : X → List Y) (xs : List X) (x : X) (y : Y) → Contains xs x → Contains (f x) y
    → Contains (flat_map f xs) y
to_flat_map f [] x y held h = in_none x held
to_flat_map f (z ∷ zs) x y held h = elim (Contains-cons_cases z zs x held) [
  | inl same ↦ Contains-append_left (f z) (flat_map f zs) y (subst (λ w. Contains (f w) y) (sym same) h)
  | inr there ↦ Contains-append_right (f z) (flat_map f zs) y (to_flat_map f zs x y there h)
]

-- what is made only where a test is true
pub from_if : {Y : Type 0} (b : Bool) (ys : List Y) (y : Y) → Contains (cond b ys []) y → (b ≡ true) × Contains ys y
from_if true ys y held = (refl, held)
from_if false ys y held = in_none y held

pub to_if : {Y : Type 0} (b : Bool) (ys : List Y) (y : Y) → b ≡ true → Contains ys y → Contains (cond b ys []) y
to_if true ys y h held = held
to_if false ys y h held = cc h

-- the numbers below another
pub below_range : (n v : ℕ) → Contains (range_with_len 0 n) v → v < n
below_range n v held =
    let low : held.0 < n = omega (arith, held.1, length-range_with_len 0 n) in
    omega (arith, low, sym (get_or-range_with_len 0 n held.0 v low) ∙ held.2)

pub in_range : (n v : ℕ) → v < n → Contains (range_with_len 0 n) v
in_range n v low = (v, omega (arith, low, length-range_with_len 0 n), get_or-range_with_len 0 n v v low ∙ omega arith)

-- one more of a list
pub one_more : {X : Type 0} (xs : List X) (i : ℕ) (d : X) → i < length xs
    → take (i + 1) xs ≡ take i xs ++ get_or xs i d ∷ []
one_more xs i d low = (let e : i + 1 ≡ suc i = omega arith in ap (λ n. take n xs) e ∙ take-suc xs i d low)

pub in_more : {X : Type 0} (xs : List X) (i : ℕ) (d x : X) → i < length xs → Contains (take (i + 1) xs) x
    → Contains (take i xs) x ⊎ (get_or xs i d ≡ x)
in_more xs i d x low held =
    Contains-push_cases (take i xs) (get_or xs i d) x (subst (λ l. Contains l x) (one_more xs i d low) held)

pub still_in : {X : Type 0} (xs : List X) (i : ℕ) (d x : X) → i < length xs → Contains (take i xs) x
    → Contains (take (i + 1) xs) x
still_in xs i d x low held =
    subst (λ l. Contains l x) (sym (one_more xs i d low)) (Contains-append_left (take i xs) (get_or xs i d ∷ []) x held)

pub now_in : {X : Type 0} (xs : List X) (i : ℕ) (d : X) → i < length xs → Contains (take (i + 1) xs) (get_or xs i d)
now_in xs i d low = subst (λ l. Contains l (get_or xs i d)) (sym (one_more xs i d low))
    (Contains-push (take i xs) (get_or xs i d))

-- what holds of one more holds of the others, and of that one
pub All-fewer : {X : Type 0} (P : X → Type 0) (xs : List X) (i : ℕ) (d : X) → i < length xs
    → All P (take (i + 1) xs) → All P (take i xs)
All-fewer P xs i d low all k e l = All-contains P (take (i + 1) xs) (get_or (take i xs) k e) all
    (still_in xs i d (get_or (take i xs) k e) low (Contains-get_or (take i xs) k e l))

pub All-last : {X : Type 0} (P : X → Type 0) (xs : List X) (i : ℕ) (d : X) → i < length xs → All P (take (i + 1) xs)
    → P (get_or xs i d)
All-last P xs i d low all = All-contains P (take (i + 1) xs) (get_or xs i d) all (now_in xs i d low)

-- a list that begins with another has all that it has
pub Contains-kept : {X : Type 0} (old new : List X) (x : X) → take (length old) new ≡ old → Contains old x
    → Contains new x
Contains-kept old new x kept h =
    let long : length old ≤ length new = omega (arith, length-take (length old) new, ap length kept) in (
      h.0,
      omega (arith, h.1, long),
      sym (get_or-take (length old) new h.0 x h.1) ∙ ap (λ xs. get_or xs h.0 x) kept
          ∙ h.2,
    )

pub take-kept : {X : Type 0} (first middle last : List X) → take (length first) middle ≡ first
    → take (length middle) last ≡ middle → take (length first) last ≡ first
take-kept first middle last a b =
    let short : length first ≤ length middle = omega (arith, length-take (length first) middle, ap length a) in
    sym (take-take (length first) (length middle) last short) ∙ ap (take (length first)) b ∙ a

pub same_place : {X : Type 0} (old new : List X) (k : ℕ) (d : X) → take (length old) new ≡ old → k < length old
    → get_or new k d ≡ get_or old k d
same_place old new k d kept l = sym (get_or-take (length old) new k d l) ∙ ap (λ xs. get_or xs k d) kept

-- no more numbers below another, none twice, than it says
pub length-le_from_once : (n : ℕ) (xs : List ℕ) → AllPairs (λ u v. u ≢ v) xs → All (λ v. v < n) xs → length xs ≤ n
length-le_from_once n xs once below =
    let short = length-le_from_is_member (decided nat_eq same_number) xs (range_with_len 0 n)
    (IsDistinct-from_AllPairs same_number xs once)
    (λ q m. (is_member-Decides same_number (range_with_len 0 n) q).1
    (in_range n q (All-contains (λ v. v < n) xs q below ((is_member-Decides same_number xs q).0 m)))) in
    omega (arith, short, length-range_with_len 0 n)
  where
    same_number : (x y : ℕ) → Decides (nat_eq x y) (x ≡ y)
    same_number x y = (λ e. eqb-true x y e, λ e. eq-eqb x y e)

-- ---- what may be there

-- what is made of what may be there
pub map_gives : {X Y : Type 0} (f : X → Y) (o : Option X) (y : Y) → option_map f o ≡ Some y
    → (x : X) × (o ≡ Some x) × (f x ≡ y)
map_gives f None y e = cc e
map_gives f (Some x) y e = (x, refl, same_Some (f x) y e)

pub none_mapped : {X Y : Type 0} (f : X → Y) (o : Option X) → option_map f o ≡ None → o ≡ None
none_mapped f None e = refl
none_mapped f (Some x) e = cc e
