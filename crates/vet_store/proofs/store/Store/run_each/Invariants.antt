-- The commands so far had their turns, and there is room for the answers to the rest. What a crash leaves is known.
use Rattle.std.proofs.Common.{◌≡◌, ◌≤◌, IsTrue, false, length, take, vec_capacity, vec_len}
use Rattle.sqlite.specs.Held.{state}
use Rattle.vet_store.specs.Beside.{OthersStay}
use Rattle.vet_store.specs.Crash.{LeavesRun}
use Rattle.vet_store.specs.Exact.{IsExactTurn}
use Rattle.vet_store.specs.Repeats.{IsTurnWithRepeats}
use Rattle.vet_store.specs.Runs.{AreRefused, Each}
use Rattle.vet_store.proofs.store.Store.run_each.Given as goal

abbrev pub invariant-loop-command : goal.invariant-loop-command
invariant-loop-command g l = record {
  turns : Each IsTurnWithRepeats l.fn.self.register.state (take l.command-index l.commands) l.answers.items
      l.self.register.state;
  answered : vec_len l.answers ≡ l.command-index;
  room : length l.commands ≤ vec_capacity l.answers;
  leaves : l.fn.self.shut ≡ false → LeavesRun (state g.S.Store l.self.conn) l.self.shut l.fn.self.register.state
      (take l.command-index l.commands) l.answers.items l.self.register.state;
  others : OthersStay (state g.S.Store l.fn.self.conn) (state g.S.Store l.self.conn);
  closed : IsTrue l.fn.self.shut → l.self ≡ l.fn.self;
  refused : IsTrue l.fn.self.shut → AreRefused l.answers.items;
  exact : l.fn.self.shut ≡ false → l.self.shut ≡ false → Each IsExactTurn l.fn.self.register.state
      (take l.command-index l.commands) l.answers.items l.self.register.state;
}
