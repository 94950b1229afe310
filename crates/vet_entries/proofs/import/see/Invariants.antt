-- The entries so far.
use Rattle.std.proofs.Common.{◌≡◌, ◌||◌, is_none, option_map, map, take}
use Rattle.std.specs.BTreeMap.{get}
use Rattle.std.specs.List.{list_any}
use Rattle.vet_entries.specs.declared.entry.Entry.{Entry}
use Rattle.vet_entries.specs.Entry.{entry_eq, own}
use Rattle.vet_entries.specs.EntryOrder.{entry_cmp}
use Rattle.vet_entries.proofs.import.see.Given as goal

abbrev pub invariant-entries : goal.invariant-entries
invariant-entries l =
    (l.fresh.items ≡ map (λ e. is_none (get entry_cmp l.fn.seen (own e))) (take l.entry-index l.fn.entries))
    × ((q : Entry) → get entry_cmp l.seen q
    ≡ option_map (λ before. before || list_any (λ e. entry_eq (own e) q) (take l.entry-index l.fn.entries))
    (get entry_cmp l.fn.seen q))
