use Rattle.std.proofs.Common.{subst, ap}
use Rattle.vet_entries.specs.PublisherRecords.{IsByName}
use Rattle.vet_entries.proofs.PublisherLaws.{IsByName-with_records, records_of-other, records_of-own, records_of-total}
use Rattle.vet_entries.proofs.PublisherLaws.{records_total-with_records, with_same_records}
use Rattle.vet_entries.proofs.publisher_records.records_after_setting.Goals as goal

pub returns : goal.returns
returns c =
    let name = c.args.«package».now in
    let new = c.args.publishers.now in
    let packages = c.args.records.now.items in
    let by_name : IsByName packages = subst IsByName (ap (λ k. k.items) c.records.view_is)
    (record { rising = c.items.ensures.by_key; filled = c.records.invariant.0 }) in
    record {
      own = records_of-own name new packages;
      others = λ other differs. records_of-other name other new packages differs;
      by_name = IsByName-with_records name new packages by_name;
      held = records_of-total name packages by_name;
      total = records_total-with_records name new packages by_name;
      again = λ same. with_same_records name new packages by_name same;
    }
