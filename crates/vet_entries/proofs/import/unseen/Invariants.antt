-- The held entries so far.
use Rattle.std.proofs.Common.{◌≡◌, Some, None, cond, false, take}
use Rattle.std.specs.BTreeMap.{get}
use Rattle.std.specs.List.{list_any}
use Rattle.vet_entries.specs.declared.entry.Entry.{Entry}
use Rattle.vet_entries.specs.Entry.{entry_eq, own}
use Rattle.vet_entries.specs.EntryOrder.{entry_cmp}
use Rattle.vet_entries.proofs.import.unseen.Given as goal

abbrev pub invariant-entries : goal.invariant-entries
invariant-entries l = (q : Entry)
    → get entry_cmp l.seen q ≡ cond (list_any (λ h. entry_eq (own h.entry) q) (take l.entry-index l.fn.held))
    (Some false) None
