-- Lists of places, and what a filter keeps of them.
use Rattle.std.proofs.Common.{◌≡◌, ℕ, zero, suc, ◌+◌, ◌-◌, ◌<◌, ◌≤◌, Bool, true, false, not, cond, ◌&&◌, List, [], ◌∷◌}
use Rattle.std.proofs.Common.{◌++◌, map, get_or, refl, sym, ap, ◌∙◌, arith}
use Rattle.std.specs.List.{All, filter, range_with_len}
use Rattle.std.proofs.lemmas.List.{append-nil}
use Rattle.std.proofs.lemmas.List.Elements.{All-head, All-tail, filter-append}
use Rattle.std.proofs.lemmas.List.FromFn.{length-range_with_len, get_or-range_with_len}
use Rattle.vet_base.proofs.ListLemmas.{filter_drops, filter_keeps}
use Rattle.vet_entries.specs.ByPackage.{up, down}

-- ---- filters

pub filter-map : {X Y : Type 0} (p : Y → Bool) (q : X → Bool) (f : X → Y) (xs : List X) → All (λ x. p (f x) ≡ q x) xs
    → filter p (map f xs) ≡ map f (filter q xs)
filter-map p q f [] h = refl
filter-map {X} {Y} p q f (x ∷ xs) h =
    ap (λ b. cond b (f x ∷ filter p (map f xs)) (filter p (map f xs))) (All-head (λ x. p (f x) ≡ q x) x xs h)
    ∙ ap (λ (ys : List Y). cond (q x) (f x ∷ ys) ys) (filter-map p q f xs (All-tail (λ x. p (f x) ≡ q x) x xs h))
    ∙ out (q x)
  where
    out : (b : Bool) → cond b (f x ∷ map f (filter q xs)) (map f (filter q xs))
        ≡ map f (cond b (x ∷ filter q xs) (filter q xs))
    out true = refl
    out false = refl

pub filter_same : {X : Type 0} (p q : X → Bool) (xs : List X) → All (λ x. p x ≡ q x) xs → filter p xs ≡ filter q xs
filter_same p q [] h = refl
filter_same {X} p q (x ∷ xs) h =
    ap (λ b. cond b (x ∷ filter p xs) (filter p xs)) (All-head (λ x. p x ≡ q x) x xs h)
    ∙ ap (λ (ys : List X). cond (q x) (x ∷ ys) ys) (filter_same p q xs (All-tail (λ x. p x ≡ q x) x xs h))

pub filter-filter : {X : Type 0} (p q : X → Bool) (xs : List X) → filter p (filter q xs) ≡ filter (λ x. q x && p x) xs
filter-filter p q [] = refl
filter-filter {X} p q (x ∷ xs) = step (filter-filter p q xs) (q x)
  where
    step : filter p (filter q xs) ≡ filter (λ x. q x && p x) xs → (b : Bool)
        → filter p (cond b (x ∷ filter q xs) (filter q xs)) ≡ cond (b && p x) (x ∷ filter (λ x. q x && p x) xs)
        (filter (λ x. q x && p x) xs)
    step rest true = ap (λ (ys : List X). cond (p x) (x ∷ ys) ys) rest
    step rest false = rest

and_swap : (a b : Bool) → (a && b) ≡ (b && a)
and_swap true true = refl
and_swap true false = refl
and_swap false true = refl
and_swap false false = refl

pub filter_swap : {X : Type 0} (p q : X → Bool) (xs : List X) → filter p (filter q xs) ≡ filter q (filter p xs)
filter_swap p q xs =
    filter-filter p q xs ∙ filter_same (λ x. q x && p x) (λ x. p x && q x) xs
    (λ k d l. and_swap (q (get_or xs k d)) (p (get_or xs k d))) ∙ sym (filter-filter q p xs)

-- what a test keeps of a list cut where the test turns
pub filter_front : {X : Type 0} (p : X → Bool) (xs ys : List X) → All (λ x. p x ≡ true) xs → All (λ x. p x ≡ false) ys
    → filter p (xs ++ ys) ≡ xs
filter_front p xs ys h g =
    filter-append p xs ys ∙ ap (λ zs. zs ++ filter p ys) (filter_keeps p xs h)
    ∙ ap (λ zs. xs ++ zs) (filter_drops p ys g) ∙ append-nil xs

pub filter_back : {X : Type 0} (p : X → Bool) (xs ys : List X) → All (λ x. p x ≡ false) xs → All (λ x. p x ≡ true) ys
    → filter p (xs ++ ys) ≡ ys
filter_back p xs ys h g =
    filter-append p xs ys ∙ ap (λ zs. zs ++ filter p ys) (filter_drops p xs h) ∙ filter_keeps p ys g

-- ---- ranges

pub map_range : (f : ℕ → ℕ) (a b n : ℕ) → ((k : ℕ) → k < n → f (a + k) ≡ b + k)
    → map f (range_with_len a n) ≡ range_with_len b n
map_range f a b zero h = refl
map_range f a b (suc n) h =
    let first : f a ≡ b = ap f (let e : a ≡ a + 0 = omega arith in e) ∙ h 0 (omega arith)
    ∙ (let e : b + 0 ≡ b = omega arith in e) in
    let rest = map_range f (a + 1) (b + 1) n (λ k l. ap f (let e : a + 1 + k ≡ a + (k + 1) = omega arith in e)
    ∙ h (k + 1) (omega arith) ∙ (let e : b + (k + 1) ≡ b + 1 + k = omega arith in e)) in
    λ i. first i ∷ rest i

pub range-append : (a n m : ℕ) → range_with_len a (n + m) ≡ range_with_len a n ++ range_with_len (a + n) m
range-append a zero m = ap (range_with_len a) (let e : 0 + m ≡ m = omega arith in e)
    ∙ ap (λ b. range_with_len b m) (let e : a ≡ a + 0 = omega arith in e)
range-append a (suc n) m =
    ap (range_with_len a) (let e : suc n + m ≡ suc (n + m) = omega arith in e)
    ∙ ap (λ zs. a ∷ zs) (range-append (a + 1) n m ∙ ap (λ b. range_with_len (a + 1) n ++ range_with_len b m)
    (let e : a + 1 + n ≡ a + suc n = omega arith in e))

-- the places up to a length, around one of them
pub range_around : (at behind n : ℕ) → n ≡ at + suc behind
    → range_with_len 0 n ≡ range_with_len 0 at ++ at ∷ range_with_len (at + 1) behind
range_around at behind n e =
    ap (range_with_len 0) e ∙ range-append 0 at (suc behind)
    ∙ ap (λ b. range_with_len 0 at ++ range_with_len b (suc behind)) (let z : 0 + at ≡ at = omega arith in z)

pub range_cut : (at n : ℕ) → at ≤ n → range_with_len 0 n ≡ range_with_len 0 at ++ range_with_len at (n - at)
range_cut at n le =
    ap (range_with_len 0) (let e : n ≡ at + (n - at) = omega (arith, le) in e) ∙ range-append 0 at (n - at)
    ∙ ap (λ b. range_with_len 0 at ++ range_with_len b (n - at)) (let e : 0 + at ≡ at = omega arith in e)

pub in_range : (a n : ℕ) → All (λ place. (a ≤ place) × (place < a + n)) (range_with_len a n)
in_range a n k d l =
    let within : k < n = omega (arith, l, length-range_with_len a n) in
    rw (get_or-range_with_len a n k d within) (omega arith, omega (arith, within))

-- ---- places after an edit

pub up_below : (at place : ℕ) → place < at → up at place ≡ place
up_below zero place l = absurd (omega arith)
up_below (suc at) zero l = refl
up_below (suc at) (suc place) l = ap suc (up_below at place (omega arith))

pub up_above : (at place : ℕ) → at ≤ place → up at place ≡ place + 1
up_above zero place l = omega arith
up_above (suc at) zero l = absurd (omega arith)
up_above (suc at) (suc place) l = (let higher = up_above at place (omega arith) in omega (arith, higher))

pub up_within : (at place n : ℕ) → place < n → up at place < n + 1
up_within zero place n l = omega arith
up_within (suc at) zero n l = omega arith
up_within (suc at) (suc place) zero l = absurd (omega arith)
up_within (suc at) (suc place) (suc n) l = (let within = up_within at place n (omega arith) in omega arith)

pub down_below : (at place : ℕ) → place ≤ at → down at place ≡ place
down_below zero zero l = refl
down_below zero (suc place) l = absurd (omega arith)
down_below (suc at) zero l = refl
down_below (suc at) (suc place) l = ap suc (down_below at place (omega arith))

pub down_above : (at place : ℕ) → at < place → down at place + 1 ≡ place
down_above zero zero l = absurd (omega arith)
down_above zero (suc place) l = omega arith
down_above (suc at) zero l = absurd (omega arith)
down_above (suc at) (suc place) l = (let lower = down_above at place (omega arith) in omega arith)

-- lists cut where a test turns are cut alike
pub cut_alike : {X : Type 0} (p : X → Bool) (xs ys us vs : List X) → All (λ x. p x ≡ true) xs
    → All (λ x. p x ≡ false) ys → All (λ x. p x ≡ true) us → All (λ x. p x ≡ false) vs → xs ++ ys ≡ us ++ vs
    → (xs ≡ us) × (ys ≡ vs)
cut_alike {X} p xs ys us vs h g k j e = (
  sym (filter_front p xs ys h g) ∙ ap (filter p) e ∙ filter_front p us vs k j,
  sym (filter_back (λ x. not (p x)) xs ys (turned xs true h) (turned ys false g)) ∙ ap (filter (λ x. not (p x))) e
      ∙ filter_back (λ x. not (p x)) us vs (turned us true k) (turned vs false j),
)
  where
    turned : (zs : List X) (b : Bool) → All (λ x. p x ≡ b) zs → All (λ x. not (p x) ≡ not b) zs
    turned zs b h k d l = ap not (h k d l)

-- no place moves that is in front of the entry put in
pub up_all_below : (at : ℕ) (places : List ℕ) → All (λ place. place < at) places → map (up at) places ≡ places
up_all_below at [] h = refl
up_all_below at (place ∷ places) h =
    let first = up_below at place (All-head (λ p. p < at) place places h) in
    let rest = up_all_below at places (All-tail (λ p. p < at) place places h) in
    λ i. first i ∷ rest i
