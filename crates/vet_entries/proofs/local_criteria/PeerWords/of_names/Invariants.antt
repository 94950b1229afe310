-- What the names so far stand for.
use Rattle.std.proofs.Common.{◌≡◌, ℕ, take}
use Rattle.std.specs.List.{list_any}
use Rattle.vet_base.specs.CriteriaSet.{has}
use Rattle.vet_entries.specs.LocalCriteria.{stands_for}
use Rattle.vet_entries.proofs.local_criteria.PeerWords.of_names.Given as goal

abbrev pub invariant-loop-name : goal.invariant-loop-name
invariant-loop-name l = (q : ℕ)
    → has q l.set ≡ list_any (λ n. has q (stands_for l.criteria l.peer n)) (take l.name-index l.name-items)
