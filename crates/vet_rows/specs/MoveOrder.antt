-- The order of recorded moves (ours): by the step, and then by the pair.
use Rattle.std.specs.Cmp.{IsTotalOrder, nat_cmp_total, on_total, then_total}
use Rattle.std.specs.Ordering.{nat_cmp, on, then_cmp}
use Rattle.std.specs.declared.cmp.Ordering.{Ordering}
use Rattle.vet_demand.specs.Pair.{pair_cmp}
use Rattle.vet_demand.specs.PairLaws.{pair_total}
use Rattle.vet_register.specs.declared.moves.RecordedMove.{RecordedMove}

abbrev pub recorded_cmp : RecordedMove → RecordedMove → Ordering
recorded_cmp = then_cmp (on (λ m. m.step) nat_cmp) (on (λ m. m.change.pair) pair_cmp)

pub recorded_total : IsTotalOrder recorded_cmp
recorded_total = then_total (on_total (λ (m : RecordedMove). m.step) nat_cmp_total)
    (on_total (λ (m : RecordedMove). m.change.pair) pair_total)
