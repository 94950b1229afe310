use Rattle.vet_entries.proofs.RisingNumbers.{numbered_rise}
use Rattle.vet_entries.proofs.facts.EntryFacts.of.Goals as goal

pub of-requires : goal.of-requires
of-requires c = rw c.in_ok-numbered.ensures (numbered_rise 1 c.args.entries.items)
