-- The commands so far were answered, and there is room for the answers to the rest.
use Rattle.std.proofs.Common.{◌≡◌, ◌≤◌, length, take, vec_capacity, vec_len}
use Rattle.vet_register.specs.Runs.{AreTurns}
use Rattle.vet_register.proofs.register.Register.run_all.Given as goal

abbrev pub invariant-loop-command : goal.invariant-loop-command
invariant-loop-command g l =
    AreTurns l.fn.self.state (take l.command-index l.commands) l.answers.items l.self.state
    × ((vec_len l.answers ≡ l.command-index) × (length l.commands ≤ vec_capacity l.answers))
