-- The walk along two demands, where one of them has come to its end.
use Rattle.std.proofs.Common.{◌≡◌, ◌⊎◌, ℕ, ◌-◌, ◌≤◌, List, [], ◌∷◌, ◌++◌, map, length, take, drop, refl, sym, ap, ◌∙◌}
use Rattle.std.proofs.Common.{inl, inr, append_assoc}
use Rattle.std.proofs.lemmas.List.{append-nil, drop_all, take_rest}
use Rattle.vet_demand.specs.declared.pair.Pair.{Pair}
use Rattle.vet_register.specs.Touches.{packages_between, pair_package}

-- all pairs that are left are of one demand alone
packages_to_none : (before : List Pair) → packages_between before [] ≡ map pair_package before
packages_to_none [] = refl
packages_to_none (p ∷ before) = ap (λ l. pair_package p ∷ l) (packages_to_none before)

at_an_end : (before after : List Pair) → (before ≡ []) ⊎ (after ≡ [])
    → packages_between before after ≡ map pair_package before ++ map pair_package after
at_an_end before after (inl e) = rw e refl
at_an_end before after (inr e) = rw e (packages_to_none before ∙ sym (append-nil (map pair_package before)))

-- what is left of either demand, put behind the packages so far
pub walk_ends : (before after : List Pair) (i j : ℕ) (names left last all : List (List ℕ))
    → left ≡ names ++ map pair_package (take (length before - i) (drop i before))
    → last ≡ left ++ map pair_package (take (length after - j) (drop j after))
    → (length before ≤ i) ⊎ (length after ≤ j)
    → names ++ packages_between (drop i before) (drop j after) ≡ all → last ≡ all
walk_ends before after i j names left last all p q end h =
    let ended : (drop i before ≡ [])
    ⊎ (drop j after ≡ []) = elim end [ inl e ↦ inl (drop_all i before e) | inr e ↦ inr (drop_all j after e) ] in
    q ∙ ap (λ l. l ++ map pair_package (take (length after - j) (drop j after))) p
    ∙ rw (take_rest before i, take_rest after j)
    (append_assoc names (map pair_package (drop i before)) (map pair_package (drop j after)) ∙ ap (λ l. names ++ l)
    (sym (at_an_end (drop i before) (drop j after) ended)) ∙ h)
