use Rattle.std.proofs.Common.{◌≡◌, ◌<◌, ◌^◌, sym, ap, subst, ◌∙◌, [], inl, inr}
use Rattle.std.specs.List.{All}
use Rattle.std.proofs.lemmas.Bool.{false≢true}
use Rattle.vet_base.specs.Keyed.{Fits, KeyedRoom, edited, with_item}
use Rattle.vet_base.proofs.Rising.{R}
use Rattle.vet_entries.specs.declared.publisher_records.PackagePublishers.{PackagePublishers}
use Rattle.vet_entries.specs.PublisherRecords.{HasAny, package_of, records_total, with_records}
use Rattle.vet_entries.proofs.PublisherLaws.{fits_setting, with_some}
use Rattle.vet_entries.proofs.publisher_records.PublisherRecords.edit_for.Goals as goal

-- the edit leads to these records, where room was made
leads : (c : goal.After-edit_setting) → edited c.edit_setting.result c.make_room_for.new.self.items
    ≡ with_records c.args.«package».now c.args.publishers.now c.make_room_for.new.self.items
leads c =
    let after : KeyedRoom PackagePublishers = c.make_room_for.new.self in
    let some : c.args.publishers.now ≡ [] → ⊥ = λ none. false≢true (sym c.if-is_empty.false ∙ c.is_empty.ensures.1 none)
    in
    subst (λ (k : KeyedRoom PackagePublishers). edited c.edit_setting.result k.items
    ≡ with_item R package_of k.items
    (record { «package» = c.args.«package».now; publishers = c.args.publishers.now })) c.self.view_is
    (c.edit_setting.ensures.edit ∙ ap (with_item R package_of c.self.inside.packages.items) c.in_ok-held.ensures)
    ∙ with_some c.args.«package».now c.args.publishers.now after.items some

pub returns-clause-edit : goal.returns-clause-edit
returns-clause-edit c =
    subst (λ items. edited c.edit_setting.result items ≡ with_records c.args.«package».now c.args.publishers.now items)
    c.make_room_for.ensures.items (leads c)

place : (c : goal.After-edit_setting) → Fits R package_of c.edit_setting.result c.self.inside.packages
place c =
    let name : package_of c.in_ok-held.held ≡ c.args.«package».now = ap package_of c.in_ok-held.ensures in
    let same = ap (λ k. k.items) c.self.view_is ∙ c.make_room_for.ensures.items in
    elim c.in_ok-make_room_for.ensures.ok [
      | inl there ↦ c.edit_setting.ensures.held (rw (same, name) there)
      | inr room ↦ c.edit_setting.ensures.fits (rw c.self.view_is room)
    ]

pub returns-clause-fits : goal.returns-clause-fits
returns-clause-fits c =
    fits_setting c.edit_setting.result c.make_room_for.new.self c.args.«package».now c.args.publishers.now
    (subst (Fits R package_of c.edit_setting.result) c.self.view_is (place c))
    (subst (λ (k : KeyedRoom PackagePublishers). All HasAny k.items) c.self.view_is c.self.invariant.0) (leads c)
    (subst (λ items. records_total (with_records c.args.«package».now c.args.publishers.now items) < 2 ^ 64)
    (sym c.make_room_for.ensures.items) c.requires.counted)
