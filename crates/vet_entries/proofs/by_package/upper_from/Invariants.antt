-- The places so far are the package's or come before them.
use Rattle.std.proofs.Common.{◌≡◌, ◌≤◌, ◌-◌, true, length}
use Rattle.std.specs.List.{AllWithin}
use Rattle.std.specs.Ordering.{is_le}
use Rattle.vet_entries.specs.ByPackage.{stand}
use Rattle.vet_entries.proofs.by_package.upper_from.Given as goal

abbrev pub invariant-places : goal.invariant-places
invariant-places l =
    (l.high ≤ length l.order)
    × AllWithin (λ place. is_le (stand l.entries l.name place) ≡ true) l.order 0 l.high

abbrev pub decreases-places : goal.decreases-places
decreases-places l = length l.order - l.high
