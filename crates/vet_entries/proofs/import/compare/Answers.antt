use Rattle.std.proofs.Common.{◌≡◌, ◌&&◌, ◌==◌, length, map, ap, ◌∙◌}
use Rattle.std.specs.BTreeMap.{get}
use Rattle.std.specs.List.{filter, list_all}
use Rattle.vet_base.specs.Defined.{defined}
use Rattle.vet_base.specs.Definitions.{criteria_eq}
use Rattle.vet_entries.specs.declared.entry.Source.TheVariants.{Peer}
use Rattle.vet_entries.specs.EntryOrder.{entry_cmp}
use Rattle.vet_entries.specs.HeldPeer.{as_peers}
use Rattle.vet_entries.specs.Replaced.{comes_again, is_new, none_stays}
use Rattle.vet_entries.proofs.ImportCompared.{marks_compared, pass_again, pass_fresh}
use Rattle.vet_entries.proofs.import.compare.Goals as goal

pub returns-clause-ok : goal.returns-clause-ok
returns-clause-ok c =
    let name = c.args.name.now in
    let held = c.args.held.now in
    let content = c.args.content.now in
    let before = get entry_cmp c.in_ok-seen.seen in
    let after = get entry_cmp c.see.new.seen in
    let fresh : c.in_ok-fresh.fresh.items ≡ map (is_new held.entries) (as_peers name content.entries) =
    c.in_ok-fresh.ensures.fresh ∙ pass_fresh (Peer name) held.entries content.entries c.requires _ _ before
    c.entries.ensures.value c.entries-2.ensures.value c.in_ok-seen.ensures in
    let again : c.in_ok-again.again.items ≡ map (comes_again (as_peers name content.entries)) held.entries =
    c.in_ok-again.ensures ∙ pass_again (Peer name) held.entries content.entries c.requires none_stays _ _ _ before after
    c.entries.ensures.value c.entries-3.ensures.value c.entries-2.ensures.value c.in_ok-seen.ensures
    c.in_ok-fresh.ensures.seen in
    marks_compared name held content c.in_ok-again.again.items c.in_ok-fresh.fresh.items c.count-new_count.result
    c.in_ok-is_same.is_same again fresh
    (c.count-new_count.ensures ∙ ap (λ marks. length (filter (λ b. b) marks)) c.as_slice.ensures.value)
    (c.in_ok-is_same.ensures.ok
    ∙ ap (λ marks. list_all (λ b. b) marks &&
    ((c.count-new_count.result == 0) && criteria_eq (defined content.criteria) held.table))
    c.as_slice-2.ensures.value)
