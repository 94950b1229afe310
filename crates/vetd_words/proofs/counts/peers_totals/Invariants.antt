-- What the loop over all peers keeps: the totals of those before the turn.
use Rattle.std.proofs.Common.{◌≡◌, take}
use Rattle.vetd_words.specs.Counts.{criteria_total, entries_total}
use Rattle.vetd_words.proofs.counts.peers_totals.Given as goal

abbrev pub invariant-peers : goal.invariant-peers
invariant-peers l = (l.criteria ≡ criteria_total (take l.peer-index l.peers))
    × (l.entries ≡ entries_total (take l.peer-index l.peers))
