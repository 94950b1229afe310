-- Questions about lists that can be decided (ours). Each answer comes with its proof, so the types say everything.
use Rattle.std.specs.Prelude.{◌≡◌, ◌⊎◌, ℕ, zero, suc, Bool, true, false, List, [], ◌∷◌, map}
use Rattle.std.specs.List.{All, AllPairs, Contains, flat_map}
use Rattle.std.proofs.Common.{refl, inl, inr, arith}
use Rattle.std.proofs.lemmas.List.Elements.{All-nil, All-cons, All-head, All-tail}
use Rattle.std.proofs.lemmas.List.Kept.{AllPairs-cons}
use Rattle.vet_base.proofs.ItemLemmas.{pairs_head, pairs_tail}
use Rattle.vet_base.proofs.ListLemmas.{Contains-cons_cases, Contains-here, Contains-later}

-- an answer to a question
abbrev pub Answer : Type 0 → Type 0
Answer P = P ⊎ (P → ⊥)

-- the answer to an equivalent question
pub same_answer : {P Q : Type 0} → (P → Q) → (Q → P) → Answer P → Answer Q
same_answer f g (inl p) = inl (f p)
same_answer f g (inr n) = inr (λ q. n (g q))

pub answer_of_both : {P Q : Type 0} → Answer P → Answer Q → Answer (P × Q)
answer_of_both (inl p) (inl q) = inl (p, q)
answer_of_both (inl p) (inr n) = inr (λ h. n h.1)
answer_of_both (inr n) a = inr (λ h. n h.0)

pub all_three : {P Q R : Type 0} → Answer P → Answer Q → Answer R → Answer (P × Q × R)
all_three a b c = same_answer (λ h. (h.0, h.1.0, h.1.1)) (λ h. (h.0, (h.1, h.2)))
    (answer_of_both a (answer_of_both b c))

pub opposite : {P : Type 0} → Answer P → Answer (P → ⊥)
opposite (inl p) = inr (λ n. n p)
opposite (inr n) = inl n

pub is_true : (b c : Bool) → Answer (b ≡ c)
is_true true true = inl refl
is_true true false = inr (λ e. cc e)
is_true false true = inr (λ e. cc e)
is_true false false = inl refl

pub each : {X : Type 0} (P : X → Type 0) → ((x : X) → Answer (P x)) → (xs : List X) → Answer (All P xs)
each P a [] = inl (All-nil P)
each P a (x ∷ xs) = same_answer (λ h. All-cons P x xs h.0 h.1) (λ h. (All-head P x xs h, All-tail P x xs h))
    (answer_of_both (a x) (each P a xs))

some_more : {X : Type 0} (P : X → Type 0) (x : X) (xs : List X) → Answer (P x) → Answer ((y : X) × Contains xs y × P y)
    → Answer ((y : X) × Contains (x ∷ xs) y × P y)
some_more P x xs (inl p) b = inl (x, Contains-here x xs, p)
some_more P x xs (inr n) (inl h) = inl (h.0, Contains-later x h.0 xs h.1, h.2)
some_more P x xs (inr n) (inr m) = inr
    (λ h. elim (Contains-cons_cases x xs h.0 h.1) [ inl e ↦ n (rw e h.2) | inr t ↦ m (h.0, t, h.2) ])

pub some : {X : Type 0} (P : X → Type 0) → ((x : X) → Answer (P x)) → (xs : List X)
    → Answer ((x : X) × Contains xs x × P x)
some P a [] = inr (λ h. absurd (omega (arith, h.1.1)))
some P a (x ∷ xs) = some_more P x xs (a x) (some P a xs)

pub each_pair : {X : Type 0} (R : X → X → Type 0) → ((x y : X) → Answer (R x y)) → (xs : List X)
    → Answer (AllPairs R xs)
each_pair R a [] = inl (λ i j d l m. absurd (omega arith))
each_pair R a (x ∷ xs) = same_answer (λ h. AllPairs-cons R x xs h.0 h.1)
    (λ h. (pairs_head R x xs h, pairs_tail R x xs h)) (answer_of_both (each (R x) (a x) xs) (each_pair R a xs))

-- all lists of at most n of the elements
unfoldable pub lists_up_to : {X : Type 0} → ℕ → List X → List (List X)
lists_up_to zero xs = [] ∷ []
lists_up_to (suc n) xs = [] ∷ flat_map (λ x. map (λ l. x ∷ l) (lists_up_to n xs)) xs
