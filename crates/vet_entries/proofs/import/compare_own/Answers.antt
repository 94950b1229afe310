use Rattle.std.proofs.Common.{◌≡◌, ◌&&◌, ◌==◌, length, map, refl, sym, ap, ◌∙◌}
use Rattle.std.specs.BTreeMap.{get}
use Rattle.std.specs.List.{filter}
use Rattle.vet_entries.specs.declared.entry.Source.TheVariants.{Own}
use Rattle.vet_entries.specs.EntryOrder.{entry_cmp}
use Rattle.vet_entries.specs.Replaced.{as_of, is_dated, is_new, remains}
use Rattle.vet_entries.proofs.ImportCompared.{all_of, marks_compared_own, pass_again, pass_fresh}
use Rattle.vet_entries.proofs.import.compare_own.Goals as goal
use Rattle.vet_entries.proofs.import.compare_own.Goals.{then-are_all, else-are_all}

pub returns-clause-ok : goal.returns-clause-ok
returns-clause-ok c =
    let held = c.args.held.now in
    let entries = c.args.entries.now in
    let before = get entry_cmp c.in_ok-seen.seen in
    let after = get entry_cmp c.see.new.seen in
    let none = c.count-new_count.result == 0 in
    let fresh : c.in_ok-fresh.fresh.items ≡ map (is_new held) (as_of Own entries) =
    c.in_ok-fresh.ensures.fresh ∙ pass_fresh Own held entries c.requires held entries before refl refl
    c.in_ok-seen.ensures in
    let again : c.in_ok-again.again.items ≡ map (remains is_dated (as_of Own entries)) held =
    c.in_ok-again.ensures ∙ pass_again Own held entries c.requires is_dated held held entries before after refl refl
    refl c.in_ok-seen.ensures c.in_ok-fresh.ensures.seen in
    let same : c.if-are_all.is_same ≡ (c.are_all.result && none) =
    elim c.if-are_all.branch [
      | then-are_all w ↦ w.is_same-is ∙ sym (ap (λ b. b && none) w.if-are_all.true)
      | else-are_all w ↦ w.is_same-is ∙ w.if-are_all.false ∙ sym (ap (λ b. b && none) w.if-are_all.false)
    ] in
    marks_compared_own held entries c.in_ok-again.again.items c.in_ok-fresh.fresh.items c.count-new_count.result
    c.if-are_all.is_same again fresh
    (c.count-new_count.ensures ∙ ap (λ marks. length (filter (λ b. b) marks)) c.as_slice.ensures.value)
    (same ∙ ap (λ b. b && none) (c.are_all.ensures ∙ ap all_of c.as_slice-2.ensures.value))
