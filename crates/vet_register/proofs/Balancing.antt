-- A state is sound where all of it but its counts is, and they are balanced.
use Rattle.std.proofs.Common.{◌↔◌, ◌+◌, sym, ap, ◌∙◌}
use Rattle.vet_graph.specs.Moves.{departures_of}
use Rattle.vet_graph.specs.Standing.{counts_of}
use Rattle.vet_register.specs.Restored.{IsSoundButCounts}
use Rattle.vet_register.specs.Sound.{IsBalanced, IsSound}
use Rattle.vet_register.specs.SoundMoves.{AreBalanced}
use Rattle.vet_register.specs.State.{State, changes_of, standing}
use Rattle.vet_register.proofs.Soundness.{counted_in}

-- the counts are balanced just where the moves lead from those at first to those of the standing
pub balance_told : (s : State) → AreBalanced s.first (counts_of (standing s)) (changes_of s.moves) ↔ IsBalanced s
balance_told s = (
  λ h class. h class ∙ ap (λ n. n + departures_of class (changes_of s.moves)) (counted_in class (standing s)),
  λ h class. h class ∙ ap (λ n. n + departures_of class (changes_of s.moves)) (sym (counted_in class (standing s))),
)

pub sound_with : (s : State) → IsSoundButCounts s → IsBalanced s → IsSound s
sound_with s sound balance = record {
  held = sound.held;
  desk = sound.desk;
  next_number = sound.limits.next_number;
  last_step = sound.limits.last_step;
  limit = sound.limits.limit;
  moves = sound.moves;
  balance = balance;
}
