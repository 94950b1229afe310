-- Laws of the lists that a decision looks at (ours).
use Rattle.std.specs.Prelude.{ℕ, zero, suc, ◌≤◌, List, [], ◌∷◌, map, length}
use Rattle.std.specs.List.{All, Contains}
use Rattle.std.proofs.Common.{get_or, arith}
use Rattle.std.proofs.lemmas.List.Elements.{All-nil, All-cons, All-head, All-tail, All-map, All-weaker, Contains-get_or}
use Rattle.vet_graph.specs.Decisions.{lists_up_to}
use Rattle.vet_graph.specs.ListLaws.{All-flat_map, Contains-flat_map, Contains-map}
use Rattle.vet_base.proofs.ListLemmas.{Contains-here, Contains-later}

-- each list of at most n of the elements is one of these lists, and each of these consists of the elements
pub Contains-lists_up_to : {X : Type 0} (n : ℕ) (xs l : List X) → length l ≤ n → All (Contains xs) l
    → Contains (lists_up_to n xs) l
unfolding lists_up_to
Contains-lists_up_to zero xs [] h a = Contains-here [] []
Contains-lists_up_to zero xs (x ∷ l) h a = absurd (omega arith)
Contains-lists_up_to (suc n) xs [] h a = Contains-here [] _
Contains-lists_up_to (suc n) xs (x ∷ l) h a =
    Contains-later [] (x ∷ l) _
    (Contains-flat_map (λ y. map (λ k. y ∷ k) (lists_up_to n xs)) xs x (x ∷ l) (All-head (Contains xs) x l a)
    (Contains-map (λ k. x ∷ k) (lists_up_to n xs) l
    (Contains-lists_up_to n xs l (omega arith) (All-tail (Contains xs) x l a))))

pub All-lists_up_to : {X : Type 0} (n : ℕ) (xs : List X) → All (All (Contains xs)) (lists_up_to n xs)
unfolding lists_up_to
All-lists_up_to zero xs = All-cons (All (Contains xs)) [] [] (All-nil (Contains xs)) (All-nil _)
All-lists_up_to (suc n) xs =
    All-cons (All (Contains xs)) [] _ (All-nil (Contains xs))
    (All-flat_map (All (Contains xs)) (λ y. map (λ k. y ∷ k) (lists_up_to n xs)) xs
    (λ k d l. All-map (All (Contains xs)) (λ m. get_or xs k d ∷ m) (lists_up_to n xs)
    (All-weaker (All (Contains xs)) (λ m. All (Contains xs) (get_or xs k d ∷ m))
    (λ m h. All-cons (Contains xs) (get_or xs k d) m (Contains-get_or xs k d l) h) (lists_up_to n xs)
    (All-lists_up_to n xs))))
