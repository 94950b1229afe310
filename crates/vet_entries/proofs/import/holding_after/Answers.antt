use Rattle.std.proofs.Common.{◌≡◌, length, sym, ap, subst, ◌∙◌, arith}
use Rattle.std.specs.List.{filter}
use Rattle.std.proofs.lemmas.Result.{IfOk-weaker}
use Rattle.vet_entries.specs.declared.entry.Source.TheVariants.{Peer}
use Rattle.vet_entries.specs.HeldPeer.{as_peers, imported}
use Rattle.vet_entries.specs.Holding.{HoldingValue}
use Rattle.vet_entries.specs.Numbered.{AreByNumber}
use Rattle.vet_entries.specs.Replaced.{is_new, none_stays}
use Rattle.vet_entries.proofs.ImportLaws.{entries_made, numbers_rise}
use Rattle.vet_entries.proofs.ImportMarks.{marks_count}
use Rattle.vet_entries.proofs.import.holding_after.Goals as goal

pub add-requires-clause-numbers : goal.add-requires-clause-numbers
add-requires-clause-numbers c =
    let name = c.args.name.now in
    let held = c.args.held.now.entries in
    let theirs = as_peers name c.args.content.now.entries in
    let told = c.comparison.view_is ∙ c.requires.compared in
    let count : length (filter (λ b. b) c.as_slice-fresh.result.now) ≡ c.args.comparison.now.new_count =
    ap (λ marks. length (filter (λ b. b) marks)) (c.as_slice-fresh.ensures.value ∙ ap (λ v. v.fresh) told)
    ∙ marks_count (is_new held) theirs ∙ sym (ap (λ v. v.new_count) c.requires.compared) in
    omega (arith, count, c.requires.numbers)

pub of-requires : goal.of-requires
of-requires c =
    let name = c.args.name.now in
    let held = c.args.held.now.entries in
    let entries = c.args.content.now.entries in
    let told = c.comparison.view_is ∙ c.requires.compared in
    subst AreByNumber
    (sym (entries_made none_stays (Peer name) _ c.args.next held c.entries.result.now entries
    c.entries-coming.result.now c.as_slice.result.now c.as_slice-fresh.result.now c.in_ok-entries.entries.items
    c.keep.new.entries.items c.add.new.held.items
    c.in_ok-source.ensures c.entries.ensures.value c.entries-coming.ensures.value
    (c.as_slice.ensures.value ∙ ap (λ v. v.again) told) (c.as_slice-fresh.ensures.value ∙ ap (λ v. v.fresh) told)
    c.in_ok-entries.ensures.items
    c.in_ok-keep.ensures c.in_ok-add.ensures))
    (numbers_rise none_stays (Peer name) c.args.next held entries c.entries.ensures.by_number c.requires.below)

pub returns-clause-ok : goal.returns-clause-ok
returns-clause-ok c =
    let name = c.args.name.now in
    let held = c.args.held.now.entries in
    let entries = c.args.content.now.entries in
    let told = c.comparison.view_is ∙ c.requires.compared in
    let made =
    entries_made none_stays (Peer name) _ c.args.next held c.entries.result.now entries c.entries-coming.result.now
    c.as_slice.result.now c.as_slice-fresh.result.now c.in_ok-entries.entries.items c.keep.new.entries.items
    c.add.new.held.items
    c.in_ok-source.ensures c.entries.ensures.value c.entries-coming.ensures.value
    (c.as_slice.ensures.value ∙ ap (λ v. v.again) told) (c.as_slice-fresh.ensures.value ∙ ap (λ v. v.fresh) told)
    c.in_ok-entries.ensures.items
    c.in_ok-keep.ensures c.in_ok-add.ensures in
    let whole : ◌≡◌ {A = HoldingValue}
    (record { table = c.in_ok-definitions_of.field-0; entries = c.add.new.held.items })
    (imported name c.args.next c.args.content.now c.args.held.now) =
    λ i. record { table = c.in_ok-definitions_of.ensures.ok i; entries = made i } in
    IfOk-weaker c.of.result _ _ (λ h e. e ∙ whole) c.of.ensures.ok
