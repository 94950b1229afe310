-- The counts of a standing, as moves change them.
use Rattle.std.proofs.Common.{◌≡◌, ◌+◌, ◌≤◌, Bool, true, false, cond, List, [], ◌∷◌, length, refl, sym, ap, ◌∙◌, arith}
use Rattle.std.proofs.lemmas.List.Sums.{sum_by-cons}
use Rattle.vet_graph.specs.declared.class.Class.{Class}
use Rattle.vet_graph.specs.declared.class.Class.TheVariants.{Conflicting, Full, Partial, Exempted, Unvetted}
use Rattle.vet_graph.specs.declared.moves.Move.{Move}
use Rattle.vet_graph.specs.declared.standing.Counts.{Counts}
use Rattle.vet_graph.specs.declared.standing.Stand.{Stand}
use Rattle.vet_graph.specs.Moves.{MovesBalance, arrivals_of, departures_of, moves_between}
use Rattle.vet_graph.specs.Standing.{count_in, count_of, counts_of, same_class}

-- the count of a class is how many stand in it
pub count-in : (class : Class) (stands : List Stand) → count_in class (counts_of stands) ≡ count_of class stands
count-in Conflicting stands = refl
count-in Full stands = refl
count-in Partial stands = refl
count-in Exempted stands = refl
count-in Unvetted stands = refl

one-most : (b : Bool) → cond b 1 0 ≤ 1
one-most true = omega arith
one-most false = omega arith

-- no more stand in a class than stand
pub count-most : (class : Class) (stands : List Stand) → count_of class stands ≤ length stands
count-most class [] = omega arith
count-most class (s ∷ rest) = omega (
  arith,
  sum_by-cons (λ (t : Stand). cond (same_class t.class class) 1 0) s rest,
  one-most (same_class s.class class),
  count-most class rest,
)

-- what is there after moves, by what they add and take
pub count-after : MovesBalance → (class : Class) (counts : Counts) (moves : List Move) (before after : List Stand)
    → counts ≡ counts_of before → moves ≡ moves_between before after
    → count_of class after + departures_of class moves ≡ count_in class counts + arrivals_of class moves
count-after balance class counts moves before after e m =
    ap (λ ms. count_of class after + departures_of class ms) m ∙ balance class before after
    ∙ sym (ap (λ k. k + arrivals_of class moves) (ap (count_in class) e ∙ count-in class before)
    ∙ ap (λ ms. count_of class before + arrivals_of class ms) m)
