-- What those of the names so far stand for that the peer doesn't define.
use Rattle.std.proofs.Common.{◌≡◌, ℕ, take}
use Rattle.std.specs.List.{list_any}
use Rattle.vet_base.specs.Criteria.{placed}
use Rattle.vet_base.specs.CriteriaSet.{has}
use Rattle.vet_entries.specs.LocalCriteria.{mapped_beyond}
use Rattle.vet_entries.proofs.local_criteria.words_beyond.Given as goal

abbrev pub invariant-loop-name : goal.invariant-loop-name
invariant-loop-name l = (q : ℕ)
    → has q l.set ≡ list_any (λ n. has q (placed l.criteria (mapped_beyond l.definitions l.map n)))
    (take l.name-index l.name-items)
