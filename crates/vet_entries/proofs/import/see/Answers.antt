use Rattle.std.proofs.Common.{◌++◌, ◌∷◌, [], ◌||◌, not, is_none, is_some, option_map, take, sym, ap, ◌∙◌}
use Rattle.std.specs.BTreeMap.{get}
use Rattle.std.specs.List.{list_any}
use Rattle.vet_entries.specs.declared.entry.Entry.{Entry}
use Rattle.vet_entries.specs.Entry.{entry_eq, own}
use Rattle.vet_entries.specs.EntryOrder.{entry_cmp}
use Rattle.vet_entries.proofs.ImportMarks.{any_more, map_more, mark_more, not_found, found_alike}
use Rattle.vet_entries.proofs.import.see.Goals as goal

pub entries-preserved : goal.entries-preserved
entries-preserved c =
    let entries = c.args.entries.now in
    let i = c.entries.entry-index in
    let x = c.entry-item.result in
    let old = get entry_cmp c.args.seen.now in
    let so_far = (λ (q : Entry). list_any (λ e. entry_eq (own e) q) (take i entries)) in (
      c.in_ok-push.ensures.items
          ∙ ap (λ b. c.entries.fresh.items ++ not b ∷ [])
          (c.see_one-is_held.ensures.held ∙ ap is_some (c.entries.invariant.1 (own x))
          ∙ found_alike (λ before. before || so_far (own x)) (old (own x)))
          ∙ ap (λ b. c.entries.fresh.items ++ b ∷ []) (not_found (old (own x)))
          ∙ ap (λ fresh. fresh ++ is_none (old (own x)) ∷ []) c.entries.invariant.0
          ∙ sym (map_more (λ e. is_none (old (own e))) entries i x c.entries-test.true c.entry-item.is),
      λ q. c.see_one-is_held.ensures.seen q
          ∙ ap (option_map (λ before. before || entry_eq (own x) q)) (c.entries.invariant.1 q)
          ∙ mark_more (so_far q) (entry_eq (own x) q) (old q)
          ∙ ap (λ b. option_map (λ before. before || b) (old q))
          (sym (any_more (λ e. entry_eq (own e) q) entries i x c.entries-test.true c.entry-item.is)),
    )
