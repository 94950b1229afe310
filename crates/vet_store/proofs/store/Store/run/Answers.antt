use Rattle.std.proofs.Common.{subst}
use Rattle.vet_register.specs.RegisterView.{RegisterView}
use Rattle.vet_register.specs.Sound.{IsSound}
use Rattle.vet_store.proofs.RepeatLaws.{repeats_stay}
use Rattle.vet_store.proofs.store.Store.run.Goals as goal

pub returns-clause-repeats : goal.returns-clause-repeats
returns-clause-repeats g c =
    let sound = subst (λ (r : RegisterView _). IsSound r.state) c.register.ensures c.facts-sound.ensures.sound in
    repeats_stay c.args.self.now.register.state c.run_once.new.self.register.state c.args.command.now
    c.run_once.result sound c.command_is_readable.ensures c.run_once.ensures.turn
