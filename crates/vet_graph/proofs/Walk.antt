-- The walk along two standings, where one of them has come to its end.
use Rattle.std.proofs.Common.{◌≡◌, ◌⊎◌, ℕ, ◌-◌, ◌≤◌, List, [], ◌∷◌, ◌++◌, map, length, take, drop, refl, sym, ap, ◌∙◌}
use Rattle.std.proofs.Common.{inl, inr, append_assoc}
use Rattle.std.proofs.lemmas.List.{append-nil, drop_all, take_rest}
use Rattle.vet_graph.specs.declared.moves.Move.{Move}
use Rattle.vet_graph.specs.declared.standing.Stand.{Stand}
use Rattle.vet_graph.specs.Moves.{comes, leaves, moves_between}

-- each pair leaves where nothing is left to stand
moves_to_none : (before : List Stand) → moves_between before [] ≡ map leaves before
moves_to_none [] = refl
moves_to_none (s ∷ before) = ap (λ l. leaves s ∷ l) (moves_to_none before)

at_an_end : (before after : List Stand) → (before ≡ []) ⊎ (after ≡ []) → moves_between before after ≡ map leaves before
    ++ map comes after
at_an_end before after (inl e) = rw e refl
at_an_end before after (inr e) = rw e (moves_to_none before ∙ sym (append-nil (map leaves before)))

-- what is left of either standing, put behind the moves so far
pub walk_ends : (before after : List Stand) (i j : ℕ) (moves left last all : List Move)
    → left ≡ moves ++ map leaves (take (length before - i) (drop i before))
    → last ≡ left ++ map comes (take (length after - j) (drop j after)) → (length before ≤ i) ⊎ (length after ≤ j)
    → moves ++ moves_between (drop i before) (drop j after) ≡ all → last ≡ all
walk_ends before after i j moves left last all p q end h =
    let ended : (drop i before ≡ [])
    ⊎ (drop j after ≡ []) = elim end [ inl e ↦ inl (drop_all i before e) | inr e ↦ inr (drop_all j after e) ] in
    q ∙ ap (λ l. l ++ map comes (take (length after - j) (drop j after))) p
    ∙ rw (take_rest before i, take_rest after j)
    (append_assoc moves (map leaves (drop i before)) (map comes (drop j after)) ∙ ap (λ l. moves ++ l)
    (sym (at_an_end (drop i before) (drop j after) ended)) ∙ h)
