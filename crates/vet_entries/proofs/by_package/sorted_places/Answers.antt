use Rattle.std.proofs.Common.{rules, ℕ}
use Rattle.std.specs.Ordering.{is_lt}
use Rattle.std.proofs.lemmas.Cmp.{nat_list_cmp_total}
use Rattle.std.proofs.lemmas.Fn.{always_returns_same}
use Rattle.std.proofs.lemmas.List.MinMax.{ranks_by}
use Rattle.vet_entries.specs.ByPackage.{package_at}
use Rattle.vet_entries.proofs.SortedPlaces.{by_package}
use Rattle.vet_entries.proofs.Standing.{R}
use Rattle.vet_entries.proofs.by_package.sorted_places.Goals as goal

pub returns : goal.returns
returns c =
    let entries = c.args.entries.now in
    let less = λ (a b : ℕ). is_lt (R (package_at entries a) (package_at entries b)) in
    let same = always_returns_same _ _ _ (λ a r f k. search rules) in
    let sorted = c.in_ok-sort_by.ensures.sorted less (ranks_by nat_list_cmp_total (package_at entries)) same in
    let stable = c.sort_by.ensures.stable less (ranks_by nat_list_cmp_total (package_at entries)) same in
    by_package entries c.sort_by.new.self.items (rw c.in_ok-order.ensures at c.sort_by.ensures.permutation) sorted
    (rw c.in_ok-order.ensures at stable)
