use Rattle.std.proofs.Common.{◌++◌, ◌∷◌, [], not, cond, true, take, sym, ap, ◌∙◌}
use Rattle.std.specs.BTreeSet as tree
use Rattle.vet_entries.specs.Distinct.{are_firsts}
use Rattle.vet_entries.specs.EntryOrder.{entry_cmp}
use Rattle.vet_entries.specs.EntryOrderLaws.{entries_tie}
use Rattle.vet_entries.proofs.Firsts.{are_firsts-more, has, has-new}
use Rattle.vet_entries.proofs.ImportMarks.{one_more}
use Rattle.vet_entries.proofs.distinct.are_firsts.Goals as goal

pub entries-preserved : goal.entries-preserved
entries-preserved c =
    let entries = c.args.entries.now in
    let i = c.entries.entry-index in
    let x = c.entry-item.result in
    let so_far = take i entries in
    let more = sym (one_more entries i x c.entries-test.true c.entry-item.is) in (
      c.in_ok-push.ensures.items
          ∙ ap (λ b. c.entries.marks.items ++ b ∷ []) (c.in_ok-insert.ensures.added ∙ ap not (c.entries.invariant.1 x))
          ∙ ap (λ marks. marks ++ not (has x so_far) ∷ []) c.entries.invariant.0
          ∙ sym (are_firsts-more so_far x) ∙ ap (are_firsts []) more,
      λ q. c.in_ok-insert.ensures.updates.0 (record { ref_ptr = (0, 0); now = q })
          ∙ ap (λ b. cond b true (tree.contains_by (λ e. entry_cmp q e.now) c.entries.seen)) (sym (entries_tie x q))
          ∙ has-new so_far x q _ (c.entries.invariant.1 q) ∙ ap (has q) more,
    )
