-- Laws of lists (ours): the items that they contain, and properties of all their items.
use Rattle.std.specs.Prelude.{◌≡◌, ◌≢◌, ◌⊎◌, zero, suc, List, [], ◌∷◌, map}
use Rattle.std.specs.List.{All, AllPairs, Contains, flat_map}
use Rattle.std.proofs.Common.{refl, ◌∙◌, ap, inl, inr, arith}
use Rattle.std.proofs.lemmas.List.{length-map, get_or-map}
use Rattle.std.proofs.lemmas.List.Elements.{All-nil, All-head, All-tail, All-map, All-append, Contains-append_left}
use Rattle.std.proofs.lemmas.List.Elements.{Contains-append_right}
use Rattle.std.proofs.lemmas.List.Kept.{AllPairs-cons}
use Rattle.vet_base.proofs.ItemLemmas.{pairs_head, pairs_tail}
use Rattle.vet_base.proofs.ListLemmas.{Contains-cons_cases}

pub Contains-map : {X Y : Type 0} (f : X → Y) (xs : List X) (x : X) → Contains xs x → Contains (map f xs) (f x)
Contains-map f xs x h = (h.0, rw length-map h.1, get_or-map f xs h.0 x (f x) h.1 ∙ ap f h.2)

pub Contains-flat_map : {X Y : Type 0} (f : X → List Y) (xs : List X) (x : X) (y : Y) → Contains xs x → Contains (f x) y
    → Contains (flat_map f xs) y
Contains-flat_map f [] x y h m = absurd (omega (arith, h.1))
Contains-flat_map f (z ∷ zs) x y h m = elim (Contains-cons_cases z zs x h) [
  | inl e ↦ Contains-append_left (f z) (flat_map f zs) y (rw e m)
  | inr t ↦ Contains-append_right (f z) (flat_map f zs) y (Contains-flat_map f zs x y t m)
]

pub All-flat_map : {X Y : Type 0} (P : Y → Type 0) (f : X → List Y) (xs : List X) → All (λ x. All P (f x)) xs
    → All P (flat_map f xs)
All-flat_map P f [] h = All-nil P
All-flat_map P f (x ∷ xs) h = All-append P (f x) (flat_map f xs) (All-head (λ y. All P (f y)) x xs h)
    (All-flat_map P f xs (All-tail (λ y. All P (f y)) x xs h))

pub AllPairs-map : {X Y : Type 0} (f : X → Y) (xs : List X) → AllPairs (λ x y. f x ≢ f y) xs
    → AllPairs (λ x y. x ≢ y) (map f xs)
AllPairs-map f [] h = λ i j d l m. absurd (omega arith)
AllPairs-map f (x ∷ xs) h = AllPairs-cons (λ a b. a ≢ b) (f x) (map f xs)
    (All-map (λ b. f x ≢ b) f xs (pairs_head (λ a b. f a ≢ f b) x xs h))
    (AllPairs-map f xs (pairs_tail (λ a b. f a ≢ f b) x xs h))
