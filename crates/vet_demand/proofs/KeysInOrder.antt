-- Keys that come in order are kept in that order, each behind those before it.
use Rattle.std.proofs.Common.{◌≡◌, suc, cond, List, [], ◌∷◌, ◌++◌, Some, None, Ordering, Less, Greater, refl, sym, ap}
use Rattle.std.proofs.Common.{subst, arith, ◌∙◌, append_assoc}
use Rattle.std.specs.Prelude.{find, fold}
use Rattle.std.specs.BTreeSet.{insert_key}
use Rattle.std.specs.Cmp.{IsTotalOrder}
use Rattle.std.specs.List.{All, AllPairs, Contains}
use Rattle.std.specs.Ordering.{is_eq, match_ordering, ordering_reverse}
use Rattle.std.proofs.lemmas.List.{append-nil}
use Rattle.std.proofs.lemmas.List.Elements.{All-contains, All-cons, All-head, All-nil, All-tail}
use Rattle.vet_base.proofs.ItemLemmas.{pairs_head, pairs_tail}
use Rattle.vet_base.proofs.ListLemmas.{Contains-here, Contains-later}

in_middle : {X : Type 0} (front : List X) (x : X) (rest : List X) → Contains (front ++ x ∷ rest) x
in_middle [] x rest = Contains-here x rest
in_middle (y ∷ front) x rest = Contains-later y x (front ++ x ∷ rest) (in_middle front x rest)

-- each before an item stands so to it
pub pairs_before : {X : Type 0} (R : X → X → Type 0) (front : List X) (x : X) (rest : List X)
    → AllPairs R (front ++ x ∷ rest) → All (λ y. R y x) front
pairs_before R [] x rest h = All-nil (λ y. R y x)
pairs_before R (y ∷ front) x rest h =
    All-cons (λ z. R z x) y front (All-contains (R y) (front ++ x ∷ rest) x (pairs_head R y (front ++ x ∷ rest) h)
    (in_middle front x rest))
    (pairs_before R front x rest (pairs_tail R y (front ++ x ∷ rest) h))

-- ---- keys

above : {K : Type 0} (cmp : K → K → Ordering) → IsTotalOrder cmp → (a b : K) → cmp a b ≡ Less → cmp b a ≡ Greater
above cmp total a b h = total.antisymm b a ∙ ap ordering_reverse h

-- a key behind all others goes last
pub insert_last : {K : Type 0} (cmp : K → K → Ordering) → IsTotalOrder cmp → (keys : List K) (k : K)
    → All (λ x. cmp x k ≡ Less) keys
    → insert_key cmp keys k ≡ keys ++ k ∷ []
insert_last cmp total [] k h = refl
insert_last {K} cmp total (x ∷ keys) k h =
    let behind : cmp k x ≡ Greater = above cmp total x k (All-head (λ y. cmp y k ≡ Less) x keys h) in
    ap (λ (r : Ordering). match_ordering r (k ∷ x ∷ keys) (x ∷ keys) (x ∷ insert_key cmp keys k)) behind
    ∙ ap (λ (ks : List K). x ∷ ks) (insert_last cmp total keys k (All-tail (λ y. cmp y k ≡ Less) x keys h))

-- and is none of them
pub none_found : {K : Type 0} (cmp : K → K → Ordering) → IsTotalOrder cmp → (keys : List K) (k : K)
    → All (λ x. cmp x k ≡ Less) keys
    → find (λ x. is_eq (cmp k x)) keys ≡ None
none_found cmp total [] k h = refl
none_found cmp total (x ∷ keys) k h =
    let behind : cmp k x ≡ Greater = above cmp total x k (All-head (λ y. cmp y k ≡ Less) x keys h) in
    ap (λ (r : Ordering). cond (is_eq r) (Some x) (find (λ y. is_eq (cmp k y)) keys)) behind
    ∙ none_found cmp total keys k (All-tail (λ y. cmp y k ≡ Less) x keys h)

inserted_from : {K : Type 0} (cmp : K → K → Ordering) → IsTotalOrder cmp → (front rest : List K)
    → AllPairs (λ a b. cmp a b ≡ Less) (front ++ rest)
    → fold (insert_key cmp) front rest ≡ front ++ rest
inserted_from cmp total front [] h = sym (append-nil front)
inserted_from cmp total front (k ∷ rest) h =
    let one = insert_last cmp total front k (pairs_before (λ a b. cmp a b ≡ Less) front k rest h) in
    let order = subst (AllPairs (λ a b. cmp a b ≡ Less)) (sym (append_assoc front (k ∷ []) rest)) h in
    ap (λ ks. fold (insert_key cmp) ks rest) one ∙ inserted_from cmp total (front ++ k ∷ []) rest order
    ∙ append_assoc front (k ∷ []) rest

-- keys that were inserted in order are the list of them
pub inserted_in_order : {K : Type 0} (cmp : K → K → Ordering) → IsTotalOrder cmp → (keys : List K)
    → AllPairs (λ a b. cmp a b ≡ Less) keys
    → fold (insert_key cmp) [] keys ≡ keys
inserted_in_order cmp total keys h = inserted_from cmp total [] keys h
