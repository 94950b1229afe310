use Rattle.std.proofs.Common.{sym, ap, ◌∙◌, arith}
use Rattle.std.proofs.lemmas.List.{at_drop_all}
use Rattle.vet_entries.specs.ByPackage.{gathered}
use Rattle.vet_entries.specs.Numbered.{number_of}
use Rattle.vet_entries.proofs.NumberAmong.{number_from, within_same}
use Rattle.vet_entries.proofs.Numbers.{number_of_package}
use Rattle.vet_entries.proofs.facts.EntryFacts.number_of.Goals as goal

pub returns-then-is_as_own : goal.returns-then-is_as_own
returns-then-is_as_own c =
    let places = c.places_of-place-items.ensures in
    let entries = c.entries-entries.ensures.value in
    let low = within_same _ _ _ (places.within c.loop-place.place-index 0 c.loop-place-test.true) entries in
    let all = ap (λ es. number_of (gathered es c.places_of-place-items.result.now) c.args.entry.now) entries
    ∙ ap (λ es. number_of es c.args.entry.now) places.entries
    ∙ number_of_package c.args.self.now.content.entries c.args.entry.now in
    sym (number_from c.entries-entries.result.now c.places_of-place-items.result.now c.loop-place.place-index
    c.index-entries-place.result c.args.entry.now _ _ c.loop-place-test.true low c.index-entries-place.is
    c.is_as_own.ensures c.if-is_as_own.true)
    ∙ c.loop-place.invariant ∙ all

pub loop-place-preserved : goal.loop-place-preserved
loop-place-preserved c =
    let low = within_same _ _ _
    (c.places_of-place-items.ensures.within c.loop-place.place-index 0 c.loop-place-test.true)
    c.entries-entries.ensures.value in
    sym (number_from c.entries-entries.result.now c.places_of-place-items.result.now c.loop-place.place-index
    c.index-entries-place.result c.args.entry.now _ _ c.loop-place-test.true low c.index-entries-place.is
    c.is_as_own.ensures c.if-is_as_own.false)
    ∙ c.loop-place.invariant

pub returns : goal.returns
returns c =
    let entries = c.entries-entries.result.now in
    let places = c.places_of-place-items.result.now in
    let entry = c.args.entry.now in
    let all = ap (λ es. number_of (gathered es places) entry) c.entries-entries.ensures.value
    ∙ ap (λ es. number_of es entry) c.places_of-place-items.ensures.entries
    ∙ number_of_package c.args.self.now.content.entries entry in
    let none = at_drop_all (λ ps. number_of (gathered entries ps) entry) places c.loop-place.place-index
    (omega (arith, c.loop-place-test.false)) in
    sym none ∙ c.loop-place.invariant ∙ all
