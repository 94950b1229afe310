-- The order of pairs, which is the order of reports (ours).
use Rattle.std.specs.Prelude.{◌≡◌, Bool, List}
use Rattle.std.specs.List.{AllPairs}
use Rattle.std.specs.Ordering.{nat_cmp, on, then_cmp, eq_by_cmp}
use Rattle.std.specs.Cmp.Lexicographic.{slice_cmp}
use Rattle.std.specs.declared.cmp.Ordering.{Ordering}
use Rattle.std.specs.declared.cmp.Ordering.TheVariants.{Less}
use Rattle.vet_base.specs.VersionOrder.{version_cmp}
use Rattle.vet_demand.specs.declared.pair.Pair.{Pair}

-- by the bytes of the package's name, then by version, then by the bytes of the criterion's name
abbrev pub pair_cmp : Pair → Pair → Ordering
pair_cmp = then_cmp (on (λ p. p.«package») (slice_cmp nat_cmp))
    (then_cmp (on (λ p. p.version) version_cmp) (on (λ p. p.criterion) (slice_cmp nat_cmp)))

-- whether two pairs tie
abbrev pub pair_eq : Pair → Pair → Bool
pair_eq = eq_by_cmp pair_cmp

-- each pair comes before those after it
abbrev pub IsInOrder : List Pair → Type 0
IsInOrder pairs = AllPairs (λ p q. pair_cmp p q ≡ Less) pairs
