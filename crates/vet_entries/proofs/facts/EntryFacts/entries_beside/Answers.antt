use Rattle.std.proofs.Common.{arith}
use Rattle.vet_entries.proofs.PeerLaws.{entries_without}
use Rattle.vet_entries.proofs.facts.EntryFacts.entries_beside.Goals as goal

pub overflow_sub-result : goal.overflow_sub-result
overflow_sub-result c =
    omega (
      arith,
      entries_without c.args.self.now.content.peers c.args.name.now c.peers.ensures.by_name,
      c.entries_total.ensures,
      c.entries_of.ensures,
    )

pub returns : goal.returns
returns c = omega (
  arith,
  entries_without c.args.self.now.content.peers c.args.name.now c.peers.ensures.by_name,
  c.entries_total.ensures,
  c.entries_of.ensures,
)
