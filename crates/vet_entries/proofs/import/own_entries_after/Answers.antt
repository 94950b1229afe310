use Rattle.std.proofs.Common.{◌≡◌, length, refl, sym, ap, ◌∙◌, arith}
use Rattle.std.specs.List.{filter}
use Rattle.vet_entries.specs.declared.entry.Source.TheVariants.{Own}
use Rattle.vet_entries.specs.Replaced.{as_of, is_dated, is_new}
use Rattle.vet_entries.proofs.ImportLaws.{entries_made}
use Rattle.vet_entries.proofs.ImportMarks.{marks_count}
use Rattle.vet_entries.proofs.import.own_entries_after.Goals as goal

pub add-requires-clause-numbers : goal.add-requires-clause-numbers
add-requires-clause-numbers c =
    let told = c.comparison.view_is ∙ c.requires.compared in
    let count : length (filter (λ b. b) c.as_slice-fresh.result.now) ≡ c.args.comparison.now.new_count =
    ap (λ marks. length (filter (λ b. b) marks)) (c.as_slice-fresh.ensures.value ∙ ap (λ v. v.fresh) told)
    ∙ marks_count (is_new c.args.held.now) (as_of Own c.args.entries.now)
    ∙ sym (ap (λ v. v.new_count) c.requires.compared) in
    omega (arith, count, c.requires.numbers)

pub returns-clause-ok : goal.returns-clause-ok
returns-clause-ok c =
    let held = c.args.held.now in
    let entries = c.args.entries.now in
    let told = c.comparison.view_is ∙ c.requires.compared in
    entries_made is_dated Own Own c.args.next held held entries entries c.as_slice.result.now
    c.as_slice-fresh.result.now c.in_ok-after.after.items c.keep.new.entries.items c.add.new.held.items
    refl refl refl (c.as_slice.ensures.value ∙ ap (λ v. v.again) told)
    (c.as_slice-fresh.ensures.value ∙ ap (λ v. v.fresh) told) c.in_ok-after.ensures.items
    c.in_ok-keep.ensures c.in_ok-add.ensures
