-- The checks of a state before its demand and its standing are found (ours): all except that its counts are balanced.
--
-- A register is made from a state that was kept elsewhere (Register::restore). A sound state gives the register of that
-- state, and any other is refused as 31 NotARegister; memory may run out for each. The same is true of each part: a
-- check (Checks, Faults) passes a part that is sound, and refuses one that is not. Everything except the counts is
-- checked before the demand is found (IsSoundButCounts, AreLimits). The content that a reader gave for a peer is not
-- searched for. Instead there must be criteria that define the peer's (AreDefinedBy, AreOfPeer): if there are any,
-- those besides the built-in ones do. And each entry must be of a kind that a peer's file gives (IsOfPeer).
use Rattle.std.specs.Prelude.{◌+◌, ◌<◌, ◌≤◌}
use Rattle.vet_base.specs.declared.limits.TheConstants.{LAST_NUMBER, LAST_STEP, MOST_MOVES}
use Rattle.vet_register.specs.Sound.{AreInOrder, IsSoundAtDesk, IsSoundHeld}
use Rattle.vet_register.specs.State.{State}

-- numbers are within their limits
pub record AreLimits (s : State) : Type 0 where
  pub next_number : s.next_entry ≤ LAST_NUMBER + 1
  pub last_step : s.step ≤ LAST_STEP
  pub limit : (0 < s.moves_limit) × (s.moves_limit ≤ MOST_MOVES)

-- everything held, the desk and the moves are sound, and numbers are within their limits
pub record IsSoundButCounts (s : State) : Type 0 where
  pub limits : AreLimits s
  pub held : IsSoundHeld s.held s.next_entry
  pub desk : IsSoundAtDesk s.held.facts.criteria s.desk s.next_entry
  pub moves : AreInOrder s.moves s.step s.moves_limit
