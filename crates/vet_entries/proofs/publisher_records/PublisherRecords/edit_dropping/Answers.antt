use Rattle.std.proofs.Common.{◌≡◌, subst, []}
use Rattle.std.specs.List.{All}
use Rattle.vet_base.specs.Keyed.{Fits, KeyedRoom, edited, without_item}
use Rattle.vet_base.proofs.Rising.{R}
use Rattle.vet_entries.specs.declared.publisher_records.PackagePublishers.{PackagePublishers}
use Rattle.vet_entries.specs.PublisherRecords.{HasAny, package_of}
use Rattle.vet_entries.proofs.PublisherLaws.{fits_setting}
use Rattle.vet_entries.proofs.publisher_records.PublisherRecords.edit_dropping.Goals as goal

pub returns-clause-fits : goal.returns-clause-fits
returns-clause-fits c =
    let e = c.in-Some.edit in
    let name = c.args.«package».now in
    let held : KeyedRoom PackagePublishers = c.args.self.now in
    fits_setting e held name [] (subst (Fits R package_of e) c.self.view_is c.in-Some.ensures.fits)
    (subst (λ (k : KeyedRoom PackagePublishers). All HasAny k.items) c.self.view_is c.self.invariant.0)
    (subst (λ (k : KeyedRoom PackagePublishers). edited e k.items ≡ without_item R package_of k.items name)
    c.self.view_is c.in-Some.ensures.edit)
    c.requires.counted
