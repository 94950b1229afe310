-- The violated criteria so far are what one's own entries and those of the peers so far condemn the version for.
use Rattle.std.proofs.Common.{◌≡◌, ◌++◌, ℕ, None, take}
use Rattle.std.specs.List.{flat_map, list_any}
use Rattle.vet_base.specs.Criteria.{leads_to}
use Rattle.vet_entries.specs.Condemned.{condemns}
use Rattle.vet_entries.specs.Step.{sourced, taken_from}
use Rattle.vet_entries.proofs.condemned.condemned.Given as goal

abbrev pub invariant-loop-peer : goal.invariant-loop-peer
invariant-loop-peer l =
    (c : ℕ) → leads_to l.criteria l.violated c
    ≡ list_any (condemns l.criteria l.version c)
    (sourced None l.«package» l.facts.content.entries ++ flat_map (taken_from l.«package»)
    (take l.peer-index l.peer-items))
