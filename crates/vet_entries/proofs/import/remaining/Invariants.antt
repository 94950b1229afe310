-- The held entries so far.
use Rattle.std.proofs.Common.{◌≡◌, ◌||◌, false, map, take}
use Rattle.std.specs.BTreeMap.{get}
use Rattle.std.specs.Option.{unwrap_or}
use Rattle.vet_entries.specs.Entry.{own}
use Rattle.vet_entries.specs.EntryOrder.{entry_cmp}
use Rattle.vet_entries.specs.Replaced.{is_dated}
use Rattle.vet_entries.proofs.import.remaining.Given as goal

abbrev pub invariant-entries : goal.invariant-entries
invariant-entries l = l.again.items ≡ map (λ h. is_dated h || unwrap_or (get entry_cmp l.seen (own h.entry)) false)
    (take l.entry-index l.fn.held)
