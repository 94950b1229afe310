-- The answer to a document whose command was run.
use Rattle.std.proofs.Common.{[], ◌∷◌, refl, string_bytes}
use Rattle.vet_store.proofs.Running.{is_of_done}
use Rattle.vetd_commands.proofs.Applied.{was_given}
use Rattle.vetd_commands.proofs.applying.run_document.Goals as goal

pub returns-in-Ok : goal.returns-in-Ok
returns-in-Ok g c =
    let last = c.run-answer.new.self in
    let h = c.run-answer.ensures in
    let s = c.args.store.register.state in
    let end = last.register.state in
    was_given g.S.Store _ _ _ string_bytes c.args.store.conn c.close.result last.conn c.args.store.register.state
    c.in-Ok.command c.run-answer.result c.outcome_line.result c.close.ensures.conn c.in-Ok.ensures
    (record {
      end = last.register.state;
      turn = h.turn;
      exact = h.exact c.requires.served;
      headline = record {
        machine = is_of_done s end (c.in-Ok.command ∷ []) (c.run-answer.result ∷ []) (end, (h.turn, refl));
        classes = record {
          classes = rw c.register.ensures at c.classes_are_of_chains.ensures.classes;
          adds_up = rw c.register.ensures at c.classes_are_of_chains.ensures.adds_up;
          balance = rw c.register.ensures at c.classes_are_of_chains.ensures.balance;
        };
        repeats = (end, ((h.turn, h.repeats), refl));
      };
      shut = last.shut;
      shuts = h.shuts c.requires.served;
      tables = h.tables;
      others = h.others;
      crash = h.crash;
      leaves = h.leaves c.requires.served;
    })
    c.outcome_line.ensures.done c.outcome_line.ensures.refused
