-- How publisher records come to be in order.
use Rattle.std.proofs.Common.{◌≡◌, ℕ, List, [], length, ◌++◌, take, drop}
use Rattle.std.specs.List.{Contains}
use Rattle.std.specs.List.Retain.{DiffersFromLast, IsFiltered}
use Rattle.std.specs.List.Sorted.{IsPermutation, IsSorted}
use Rattle.vet_base.proofs.SameKeys.{same_keys}
use Rattle.vet_base.proofs.SortedOnce.{are_once_lent}
use Rattle.vet_entries.specs.declared.publisher.Publisher.{Publisher}
use Rattle.vet_entries.specs.Publisher.{publisher_cmp, publisher_eq}
use Rattle.vet_entries.specs.PublisherLaws.{publisher_eq-Decides, publisher_total}
use Rattle.vet_entries.specs.Publishers.{AreTheRecords, IsInOrder}

-- what a sort of all n records lent by a list, and the removal of doubles, leave
pub are_the_records : (n : ℕ) (given lent sorted records : List Publisher) → lent ≡ given → length sorted ≡ n
    → IsPermutation lent sorted → IsSorted publisher_cmp sorted
    → IsFiltered (DiffersFromLast publisher_eq) [] (take n (sorted ++ drop (length sorted) given)) records
    → AreTheRecords given records
are_the_records n given lent sorted records all long moved up left =
    let those = are_once_lent publisher_cmp publisher_total (λ p q. (publisher_eq-Decides p q).0) n given lent sorted
    records all long moved up left in
    record { in_order = those.in_order; same = those.same }

-- ---- lists in order with the same records are the same

pub same_records : (xs ys : List Publisher) → IsInOrder xs → IsInOrder ys
    → ((p : Publisher) → Contains xs p → Contains ys p)
    → ((p : Publisher) → Contains ys p → Contains xs p) → xs ≡ ys
same_records = same_keys publisher_cmp publisher_total
