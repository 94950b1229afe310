-- The violated criteria so far are those from before and what the entries at the places so far name.
use Rattle.std.proofs.Common.{◌≡◌, ◌||◌, ℕ, take}
use Rattle.std.specs.List.{list_any}
use Rattle.std.specs.Option.{option_copied}
use Rattle.vet_base.specs.Criteria.{leads_to}
use Rattle.vet_entries.specs.Condemned.{condemns}
use Rattle.vet_entries.specs.Source.{sourced_at}
use Rattle.vet_entries.proofs.condemned.with_all_violated.Given as goal

abbrev pub invariant-loop-place : goal.invariant-loop-place
invariant-loop-place l =
    (c : ℕ) → leads_to l.criteria l.violated c ≡ (leads_to l.criteria l.fn.violated c
    || list_any (condemns l.criteria l.version c)
    (sourced_at (option_copied l.source.peer) l.source.entries.now (take l.place-index l.source.places.now)))
