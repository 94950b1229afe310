-- One more pair with its class.
use Rattle.std.proofs.Common.{◌≡◌, ℕ, ◌+◌, ◌<◌, ◌++◌, ◌∷◌, ◌∙◌, List, [], get_or, length, map, take, ap}
use Rattle.vet_demand.specs.declared.pair.Pair.{Pair}
use Rattle.vet_entries.specs.Facts.{Facts}
use Rattle.vet_graph.specs.Class.{IsClassOfPair}
use Rattle.vet_graph.specs.StandingOf.{PairClassIsOnly, class_of_pair, standing_of}
use Rattle.vet_graph.specs.declared.class.Class.{Class}
use Rattle.vet_graph.specs.declared.standing.Stand.{Stand}
use Rattle.vet_item_rows.specs.StandingRows.{standing_row}
use Rattle.vet_item_rows.proofs.Listed.{one_further, one_more_row}

-- the pair at a place, with the class that is its own, comes behind those before it
pub next_stands : (facts : Facts) (demand : List Pair) (i : ℕ) (p : Pair) (class : Class) → i < length demand
    → p ≡ get_or demand i p → PairClassIsOnly → IsClassOfPair facts p class
    → map standing_row (standing_of facts (take i demand)) ++ standing_row (record { pair = p; class = class }) ∷ []
    ≡ map standing_row (standing_of facts (take (i + 1) demand))
next_stands facts demand i p class within is only holds =
    let at : Pair → Stand = λ q. record { pair = q; class = class_of_pair facts q } in
    let before : List Stand = standing_of facts (take i demand) in
    ap (λ k. map standing_row before ++ standing_row (record { pair = p; class = k }) ∷ []) (only facts p class holds)
    ∙ one_more_row standing_row [] before (at p)
    ∙ ap (map standing_row) (one_more_row at [] (take i demand) p)
    ∙ ap (λ pairs. map standing_row (standing_of facts pairs)) (one_further demand i p within is)
