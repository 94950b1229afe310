use Rattle.vet_entries.proofs.SameOfPackage.{entry_added, entry_dropped, records_set}
use Rattle.vet_entries.proofs.laws.entries_keep_other_packages.Goals as goal

pub returns : goal.returns
returns c = record { added = entry_added; dropped = entry_dropped; records = records_set }
