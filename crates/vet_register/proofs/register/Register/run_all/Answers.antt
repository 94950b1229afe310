use Rattle.std.proofs.Common.{◌≡◌, ◌∙◌, ◌+◌, ◌++◌, ◌∷◌, [], ap, arith, subst, suc, sym, take}
use Rattle.std.proofs.Math.Seq.{take-suc}
use Rattle.vet_register.specs.Runs.{AreTurns}
use Rattle.vet_register.proofs.Turns.{turns_more}
use Rattle.vet_register.proofs.register.Register.run_all.Goals as goal

pub loop-command-preserved : goal.loop-command-preserved
loop-command-preserved g c =
    let inv = c.loop-command.invariant in
    let xs = c.args.commands.now in
    let i = c.loop-command.command-index in
    let x = c.command-item.result in
    let pushed = c.push_reserved.ensures in
    let one_more : i + 1 ≡ suc i = omega arith in
    let commands : take (i + 1) xs ≡ take i xs ++ x ∷ [] = ap (λ k. take k xs) one_more ∙ take-suc xs i x
    c.loop-command-test.true ∙ ap (λ y. take i xs ++ y ∷ []) (sym c.command-item.is) in
    let more = turns_more c.args.self.now.state c.loop-command.self.state c.run-answer.new.self.state (take i xs)
    c.loop-command.answers.items x c.run-answer.result
    inv.0 c.run-answer.ensures.turn in (
      subst (λ answers. AreTurns c.args.self.now.state (take (i + 1) xs) answers c.run-answer.new.self.state)
          (sym pushed.items)
          (subst (λ cs. AreTurns c.args.self.now.state cs (c.loop-command.answers.items ++ c.run-answer.result ∷ [])
          c.run-answer.new.self.state) (sym commands) more),
      (omega (arith, pushed.len, inv.1.0), omega (arith, pushed.capacity, inv.1.1)),
    )
