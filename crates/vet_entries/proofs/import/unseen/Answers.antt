use Rattle.std.proofs.Common.{false, cond, take, Some, None, sym, ap, ◌∙◌}
use Rattle.std.specs.BTreeMap.{get}
use Rattle.std.specs.List.{list_any}
use Rattle.vet_entries.specs.declared.facts.HeldEntry.{HeldEntry}
use Rattle.vet_entries.specs.Entry.{entry_eq, own}
use Rattle.vet_entries.specs.EntryOrder.{entry_cmp}
use Rattle.vet_entries.specs.EntryOrderLaws.{entries_tie}
use Rattle.vet_entries.proofs.ImportMarks.{any_more, put_more}
use Rattle.vet_entries.proofs.import.unseen.Goals as goal

pub entries-preserved : goal.entries-preserved
entries-preserved c q =
    let held = c.args.held.now in
    let i = c.entries.entry-index in
    let x = c.entry-item.result in
    let is_it = (λ (h : HeldEntry). entry_eq (own h.entry) q) in
    c.in_ok-insert.ensures.updates.0 q
    ∙ ap (λ b. cond b (Some false) (get entry_cmp c.entries.seen q)) (sym (entries_tie c.of.result q))
    ∙ ap (λ e. cond (entry_eq e q) (Some false) (get entry_cmp c.entries.seen q)) c.of.ensures
    ∙ ap (cond (entry_eq (own x.entry) q) (Some false)) (c.entries.invariant q)
    ∙ put_more (entry_eq (own x.entry) q) (list_any is_it (take i held)) false
    ∙ ap (λ b. cond b (Some false) None) (sym (any_more is_it held i x c.entries-test.true c.entry-item.is))
