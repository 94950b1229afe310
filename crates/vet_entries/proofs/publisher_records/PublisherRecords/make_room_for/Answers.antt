use Rattle.std.proofs.Common.{sym, subst, ◌∙◌, inl}
use Rattle.vet_base.specs.Keyed.{KeyedRoom}
use Rattle.vet_entries.specs.declared.publisher_records.PackagePublishers.{PackagePublishers}
use Rattle.vet_entries.specs.PublisherRecords.{HasPackage}
use Rattle.vet_entries.proofs.publisher_records.PublisherRecords.make_room_for.Goals as goal

pub returns-then-has-clause-ok : goal.returns-then-has-clause-ok
returns-then-has-clause-ok c =
    inl (subst (λ (k : KeyedRoom PackagePublishers). HasPackage k.items c.args.«package».now) c.self.view_is
    (sym c.has.ensures ∙ c.if-has.true))
