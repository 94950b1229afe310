use Rattle.std.proofs.Common.{◌∙◌, ap, inl, inr}
use Rattle.vet_graph.specs.declared.touched.Touched.TheVariants.{Packages}
use Rattle.vet_register.specs.Touches.{only_at}
use Rattle.vet_register.proofs.DemandsWalked.{walk_ends}
use Rattle.vet_register.proofs.touching.touched_between.Goals as goal
use Rattle.vet_register.proofs.touching.touched_between.Goals.{then-loop-old-test+else-new-after, else-loop-old-test}

pub returns-clause-ok : goal.returns-clause-ok
returns-clause-ok c =
    let walked = walk_ends c.args.before.now c.args.after.now c.loop-old.old c.loop-old.new _ _ _ _
    c.in_ok-push_of_pairs.ensures c.in_ok-push_of_pairs-2.ensures
    (elim c.loop-old-test.branch [
      | then-loop-old-test+else-new-after w ↦ inr w.if-new-after.false
      | else-loop-old-test
          w ↦ inl w.loop-old-test.false
    ])
    c.loop-old.invariant.so_far in
    ap Packages c.in_ok-of.ensures ∙ ap only_at walked
