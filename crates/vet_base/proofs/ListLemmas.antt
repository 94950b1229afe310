-- Lists: what filters keep, what edits leave, what is found, and the first element beside the rest.
use Rattle.std.proofs.Common.{◌≡◌, ◌⊎◌, ℕ, zero, suc, ◌+◌, ◌<◌, ◌≤◌, Bool, true, false, List, [], ◌∷◌, ◌++◌, Option}
use Rattle.std.proofs.Common.{Some, None, cond, option_map, is_none, is_some, length, get_or, replicate, set, take}
use Rattle.std.proofs.Common.{drop, refl, sym, ap, ◌∙◌, arith, inl, inr}
use Rattle.std.specs.Bool.{Decides}
use Rattle.std.specs.Cmp.Lexicographic.{pointwise, pointwise_decides}
use Rattle.std.specs.List.{All, AllPairs, Contains, list_all, filter, find, insert, remove}
use Rattle.std.specs.List.Sorted.{IsPartitionPoint}
use Rattle.std.specs.Option.{option_or}
use Rattle.std.proofs.lemmas.Bool.{and_parts, false≢true}
use Rattle.std.proofs.lemmas.List.{append-nil, get_or-take, get_or-drop, length-take, length-drop, take-append-drop}
use Rattle.std.proofs.lemmas.List.Elements.{All-head, All-tail, All-append, filter-append, filter_passes}
use Rattle.std.proofs.lemmas.List.Kept.{AllPairs-cons}
use Rattle.vet_base.proofs.Comparisons.{is_false}

-- ---- the first element and the rest

pub Contains-here : {X : Type 0} (x : X) (xs : List X) → Contains (x ∷ xs) x
Contains-here x xs = (0, omega arith, refl)

pub Contains-later : {X : Type 0} (x y : X) (xs : List X) → Contains xs y → Contains (x ∷ xs) y
Contains-later x y xs h = (suc h.0, omega (arith, h.1), h.2)

pub Contains-cons_cases : {X : Type 0} (x : X) (xs : List X) (y : X) → Contains (x ∷ xs) y → (x ≡ y) ⊎ Contains xs y
Contains-cons_cases x xs y (zero, l, e) = inl e
Contains-cons_cases x xs y (suc k, l, e) = inr (k, omega arith, e)

-- copies of one value are that value everywhere, and past their end too
pub all_alike : {X : Type 0} (x : X) (n q : ℕ) → get_or (replicate n x) q x ≡ x
all_alike x zero q = refl
all_alike x (suc n) zero = refl
all_alike x (suc n) (suc q) = all_alike x n q

-- what passes a test passes a weaker one
pub all_weaker : {X : Type 0} (f g : X → Bool) → ((x : X) → f x ≡ true → g x ≡ true) → (xs : List X)
    → list_all f xs ≡ true → list_all g xs ≡ true
all_weaker f g each [] h = refl
all_weaker f g each (x ∷ xs) h =
    let (here, more) = and_parts (f x) (list_all f xs) h in
    rw (each x here) (all_weaker f g each xs more)

-- ---- what a filter keeps that turns at a place

pub filter_keeps : {X : Type 0} (p : X → Bool) (xs : List X) → All (λ x. p x ≡ true) xs → filter p xs ≡ xs
filter_keeps p [] h = refl
filter_keeps {X} p (x ∷ xs) h =
    ap (λ b. cond b (x ∷ filter p xs) (filter p xs)) (All-head (λ x. p x ≡ true) x xs h)
    ∙ ap (λ (ys : List X). x ∷ ys) (filter_keeps p xs (All-tail (λ x. p x ≡ true) x xs h))

pub filter_drops : {X : Type 0} (p : X → Bool) (xs : List X) → All (λ x. p x ≡ false) xs → filter p xs ≡ []
filter_drops p [] h = refl
filter_drops p (x ∷ xs) h =
    ap (λ b. cond b (x ∷ filter p xs) (filter p xs)) (All-head (λ x. p x ≡ false) x xs h)
    ∙ filter_drops p xs (All-tail (λ x. p x ≡ false) x xs h)

partition_sides : {X : Type 0} (F G : X → Type 0) (xs : List X) (i : ℕ) → i ≤ length xs → IsPartitionPoint F G xs i
    → All F (take i xs) × All G (drop i xs)
partition_sides F G xs i within parts = (
  λ k d l. (let in_front : k < i = omega (arith, l, length-take i xs) in
      rw (get_or-take i xs k d in_front) (parts.0 k d (omega arith) in_front)),
  λ k d l. (let inside : i + k < length xs = omega (arith, l, length-drop i xs) in
      rw (get_or-drop i xs k d) (parts.1 (i + k) d (omega arith) inside)),
)

filter_sides : {X : Type 0} (p : X → Bool) (xs : List X) (i : ℕ)
    → filter p xs ≡ filter p (take i xs) ++ filter p (drop i xs)
filter_sides p xs i = ap (filter p) (sym (take-append-drop i xs)) ∙ filter-append p (take i xs) (drop i xs)

pub kept_front : {X : Type 0} (p : X → Bool) (xs : List X) (i : ℕ) → i ≤ length xs
    → IsPartitionPoint (λ x. p x ≡ true) (λ x. p x ≡ false) xs i → filter p xs ≡ take i xs
kept_front {X} p xs i within parts =
    let sides = partition_sides (λ x. p x ≡ true) (λ x. p x ≡ false) xs i within parts in
    filter_sides p xs i
    ∙ (λ j. filter_keeps p (take i xs) sides.0 j ++ filter_drops p (drop i xs) sides.1 j) ∙ append-nil (take i xs)

pub kept_back : {X : Type 0} (p : X → Bool) (xs : List X) (i : ℕ) → i ≤ length xs
    → IsPartitionPoint (λ x. p x ≡ false) (λ x. p x ≡ true) xs i → filter p xs ≡ drop i xs
kept_back {X} p xs i within parts =
    let sides = partition_sides (λ x. p x ≡ false) (λ x. p x ≡ true) xs i within parts in
    filter_sides p xs i ∙ (λ j. filter_drops p (take i xs) sides.0 j ++ filter_keeps p (drop i xs) sides.1 j)

-- what a filter keeps that leaves out what stands at one place
pub filter_but_one : {X : Type 0} (p : X → Bool) (xs : List X) (i : ℕ) → i < length xs
    → ((k : ℕ) (d : X) → k < i → p (get_or xs k d) ≡ true)
    → ((d : X) → p (get_or xs i d) ≡ false) → ((k : ℕ) (d : X) → i < k → k < length xs → p (get_or xs k d) ≡ true)
    → filter p xs ≡ remove xs i
filter_but_one p [] i within front at back = absurd (omega arith)
filter_but_one {X} p (x ∷ xs) zero within front at back =
    ap (λ b. cond b (x ∷ filter p xs) (filter p xs)) (at x)
    ∙ filter_keeps p xs (λ k d l. back (suc k) d (omega arith) (omega (arith, l)))
filter_but_one {X} p (x ∷ xs) (suc i) within front at back =
    ap (λ b. cond b (x ∷ filter p xs) (filter p xs)) (front 0 x (omega arith))
    ∙ ap (λ (ys : List X). x ∷ ys)
    (filter_but_one p xs i (omega (arith, within)) (λ k d l. front (suc k) d (omega (arith, l))) at
    (λ k d l m. back (suc k) d (omega (arith, l)) (omega (arith, m))))

-- ---- what an edit of a list leaves, and what undoes it

-- an element put in and taken out again leaves the list
pub remove-insert : {X : Type 0} (xs : List X) (i : ℕ) (x : X) → i ≤ length xs → remove (insert xs i x) i ≡ xs
remove-insert xs zero x within = refl
remove-insert [] (suc i) x within = absurd (omega arith)
remove-insert (y ∷ ys) (suc i) x within = ap (λ rest. y ∷ rest) (remove-insert ys i x (omega arith))

-- an element set in place of another, and that one set back, leaves the list
pub set_back : {X : Type 0} (xs : List X) (i : ℕ) (x held : X) → held ≡ get_or xs i held → set (set xs i x) i held ≡ xs
set_back [] i x held at = refl
set_back (y ∷ ys) zero x held at = ap (λ z. z ∷ ys) at
set_back (y ∷ ys) (suc i) x held at = ap (λ rest. y ∷ rest) (set_back ys i x held at)

pub none_of_some : {X : Type 0} (o : Option X) → is_some o ≡ true → is_none o ≡ false
none_of_some None h = sym h
none_of_some (Some x) h = refl

pub is_some-option_map : {A B : Type 0} (f : A → B) (o : Option A) → is_some (option_map f o) ≡ is_some o
is_some-option_map f None = refl
is_some-option_map f (Some x) = refl

-- ---- what is found

pub find_absent : {X : Type 0} (p : X → Bool) (xs : List X) → All (λ x. p x ≡ false) xs → find p xs ≡ None
find_absent p [] h = refl
find_absent p (x ∷ xs) h =
    ap (λ t. cond t (Some x) (find p xs)) (All-head (λ x. p x ≡ false) x xs h)
    ∙ find_absent p xs (All-tail (λ x. p x ≡ false) x xs h)

pub find_at : {X : Type 0} (p : X → Bool) (xs : List X) (i : ℕ) (x : X)
    → ((k : ℕ) (d : X) → k < i → p (get_or xs k d) ≡ false) → i < length xs → get_or xs i x ≡ x → p x ≡ true
    → find p xs ≡ Some x
find_at p [] i x none l at h = absurd (omega arith)
find_at {X} p (y ∷ ys) zero x none l at h =
    ap (λ (z : X). cond (p z) (Some z) (find p ys)) at ∙ ap (λ t. cond t (Some x) (find p ys)) h
find_at p (y ∷ ys) (suc i) x none l at h =
    ap (λ t. cond t (Some y) (find p ys)) (none 0 y (omega arith))
    ∙ find_at p ys i x (λ k d m. none (suc k) d (omega (arith, m))) (omega arith) at h

pub first_or_later : {X : Type 0} (b : Bool) (x : X) (later : Option X) → is_some later ≡ true
    → is_some (let o : Option X = cond b (Some x) later in o) ≡ true
first_or_later true x later h = refl
first_or_later false x later h = h

pub any_found : {X : Type 0} (p : X → Bool) (xs : List X) (i : ℕ) (d : X) → i < length xs → p (get_or xs i d) ≡ true
    → is_some (find p xs) ≡ true
any_found p [] i d l h = absurd (omega arith)
any_found {X} p (x ∷ xs) zero d l h = ap (λ t. is_some (let o : Option X = cond t (Some x) (find p xs) in o)) h
any_found p (x ∷ xs) (suc i) d l h = first_or_later (p x) x (find p xs) (any_found p xs i d (omega (arith, l)) h)

-- what passes a test is found also among what a filter leaves that keeps all that pass
pub find_kept : {X : Type 0} (p q : X → Bool) → ((x : X) → p x ≡ true → q x ≡ true) → (xs : List X)
    → find p (filter q xs) ≡ find p xs
find_kept p q h [] = refl
find_kept {X} p q h (x ∷ xs) = step (find_kept p q h xs) (p x) (q x) refl refl
  where
    step : find p (filter q xs) ≡ find p xs → (a b : Bool) → p x ≡ a → q x ≡ b
        → find p (cond b (x ∷ filter q xs) (filter q xs)) ≡ cond a (Some x) (find p xs)
    step more true true e f = ap (λ t. cond t (Some x) (find p (filter q xs))) e
    step more true false e f = absurd (false≢true (sym f ∙ h x e))
    step more false true e f = ap (λ t. cond t (Some x) (find p (filter q xs))) e ∙ more
    step more false false e f = more

-- and is not found among what one leaves that drops them
pub find_dropped : {X : Type 0} (p q : X → Bool) → ((x : X) → p x ≡ true → q x ≡ false) → (xs : List X)
    → find p (filter q xs) ≡ None
find_dropped {X} p q h xs =
    find_absent p (filter q xs) (λ k d l. is_false _ (λ e. false≢true (sym (h _ e) ∙ filter_passes q xs k d l)))

pub or_none : {X : Type 0} (o : Option X) → option_or o None ≡ o
or_none None = refl
or_none (Some x) = refl

pub set_is : {X : Type 0} (xs : List X) (i : ℕ) (x : X) → i < length xs → set xs i x
    ≡ take i xs ++ (x ∷ drop (suc i) xs)
set_is [] i x l = absurd (omega arith)
set_is (y ∷ ys) zero x l = refl
set_is {X} (y ∷ ys) (suc i) x l = ap (λ (t : List X). y ∷ t) (set_is ys i x (omega (arith, l)))

pub pairs_appended : {X : Type 0} (P : X → X → Type 0) (xs ys : List X) → AllPairs P xs → AllPairs P ys
    → All (λ x. All (P x) ys) xs → AllPairs P (xs ++ ys)
pairs_appended P [] ys first second across = second
pairs_appended P (x ∷ xs) ys first second across =
    AllPairs-cons P x (xs ++ ys)
    (All-append (P x) xs ys (λ k d l. first 0 (suc k) d (omega arith) (omega arith))
    (All-head (λ x. All (P x) ys) x xs across))
    (pairs_appended P xs ys (λ i j d l m. first (suc i) (suc j) d (omega arith) (omega arith)) second
    (All-tail (λ x. All (P x) ys) x xs across))

-- a test of two lists tells whether what these are seen as is the same
pub told : {X : Type 0} {E : X → X → Bool} → ((x y : X) → Decides (E x y) (x ≡ y))
    → (r : Bool) (a b seen_a seen_b : List X) → r ≡ pointwise E a b
    → a ≡ seen_a → b ≡ seen_b → Decides r (seen_a ≡ seen_b)
told same r a b seen_a seen_b test view_a view_b = (
  λ tied. sym view_a ∙ (pointwise_decides same a b).0 (sym test ∙ tied) ∙ view_b,
  λ e. test ∙ (pointwise_decides same a b).1 (view_a ∙ e ∙ sym view_b),
)
