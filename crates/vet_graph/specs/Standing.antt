-- The standing (ours): the demanded pairs in order, each with its class, and the number of pairs in each class.
use Rattle.std.specs.Prelude.{◌≡◌, ℕ, ◌+◌, Bool, true, false, cond, List, [], ◌∷◌, map, length, Option, Some, None}
use Rattle.std.specs.List.{count_by}
use Rattle.vet_demand.specs.declared.pair.Pair.{Pair}
use Rattle.vet_demand.specs.Pair.{pair_eq, IsInOrder}
use Rattle.vet_graph.specs.declared.class.Class.{Class}
use Rattle.vet_graph.specs.declared.class.Class.TheVariants.{Conflicting, Full, Partial, Exempted, Unvetted}
use Rattle.vet_graph.specs.declared.standing.Counts.{Counts}
use Rattle.vet_graph.specs.declared.standing.Stand.{Stand}

-- whether two classes are the same
abbrev pub same_class : Class → Class → Bool
same_class Conflicting Conflicting = true
same_class Full Full = true
same_class Partial Partial = true
same_class Exempted Exempted = true
same_class Unvetted Unvetted = true
same_class _ _ = false

-- the pairs of a standing
abbrev pub pairs_of : List Stand → List Pair
pairs_of standing = map (λ s. s.pair) standing

-- each pair of the standing comes before all those after it
abbrev pub IsStanding : List Stand → Type 0
IsStanding standing = IsInOrder (pairs_of standing)

-- the class of a pair, if it is demanded
abbrev pub class_in : List Stand → Pair → Option Class
class_in [] p = None
class_in (s ∷ rest) p = cond (pair_eq s.pair p) (Some s.class) (class_in rest p)

-- the number of pairs in a class
abbrev pub count_of : Class → List Stand → ℕ
count_of class standing = count_by (λ s. same_class s.class class) standing

-- the number of pairs in each class
abbrev pub counts_of : List Stand → Counts
counts_of standing =
    record {
      conflicting = count_of Conflicting standing;
      full = count_of Full standing;
      partial = count_of Partial standing;
      exempted = count_of Exempted standing;
      unvetted = count_of Unvetted standing;
    }

-- the count of one class
abbrev pub count_in : Class → Counts → ℕ
count_in Conflicting counts = counts.conflicting
count_in Full counts = counts.full
count_in Partial counts = counts.partial
count_in Exempted counts = counts.exempted
count_in Unvetted counts = counts.unvetted

-- the sum of the five counts
abbrev pub total_of : Counts → ℕ
total_of counts = counts.conflicting + counts.full + counts.partial + counts.exempted + counts.unvetted

-- the five counts add up to the number of pairs
abbrev pub ClassesAddUp : Type 0
ClassesAddUp = (standing : List Stand) → total_of (counts_of standing) ≡ length standing
