-- The numbers of a state that have columns (ours).
use Rattle.std.specs.List.{All}
use Rattle.vet_graph.specs.declared.standing.Counts.{Counts}
use Rattle.vet_item_rows.specs.Numbers.{EntryFits, HasColumn, PeerFits, ReviewFits}
use Rattle.vet_register.specs.State.{State}
use Rattle.vet_register.specs.declared.moves.RecordedMove.{RecordedMove}

-- the number of a move's step has one
abbrev pub MoveFits : RecordedMove → Type 0
MoveFits m = HasColumn m.step

-- five counts
pub record CountsFit (counts : Counts) : Type 0 where
  pub conflicting : HasColumn counts.conflicting
  pub full : HasColumn counts.full
  pub partial : HasColumn counts.partial
  pub exempted : HasColumn counts.exempted
  pub unvetted : HasColumn counts.unvetted

-- all numbers of a state but the counts at first
pub record NumbersFit (s : State) : Type 0 where
  pub entries : All EntryFits s.held.facts.entries
  pub peers : All PeerFits s.held.facts.peers
  pub reviews : All ReviewFits s.desk.reviews
  pub moves : All MoveFits s.moves
  pub step : HasColumn s.step
  pub next_entry : HasColumn s.next_entry
  pub next_review : HasColumn s.desk.next_review
  pub moves_limit : HasColumn s.moves_limit
