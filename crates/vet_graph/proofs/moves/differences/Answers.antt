use Rattle.std.proofs.Common.{inl, inr}
use Rattle.vet_graph.proofs.Walk.{walk_ends}
use Rattle.vet_graph.proofs.moves.differences.Goals as goal
use Rattle.vet_graph.proofs.moves.differences.Goals.{then-loop-old-test+else-new-after, else-loop-old-test}

pub returns-clause-ok : goal.returns-clause-ok
returns-clause-ok c =
    walk_ends c.args.before.now c.args.after.now c.loop-old.old c.loop-old.new _ _ _ _
    c.in_ok-push_all_leaving.ensures.ok c.in_ok-push_all_coming.ensures.ok
    (elim c.loop-old-test.branch [
      | then-loop-old-test+else-new-after w ↦ inr w.if-new-after.false
      | else-loop-old-test
          w ↦ inl w.loop-old-test.false
    ])
    c.loop-old.invariant.so_far
