use Rattle.std.proofs.Common.{Err, length, sym, ap, ◌∙◌}
use Rattle.vet_base.specs.declared.refusal.Refusal.TheVariants.{UnknownPeer}
use Rattle.vet_base.specs.Gives.{◌>>=◌}
use Rattle.vet_register.proofs.Imports.{judged_unheld}
use Rattle.vet_register.proofs.register.Register.refused_import.Goals as goal

pub returns-in-Err : goal.returns-in-Err
returns-in-Err g c day =
    let told = rw (ap length c.entries.ensures.value) at (sym c.check_import.ensures ∙ c.in-Err.is) in
    judged_unheld c.args.self.now.state day c.args.name.now c.args.content.now c.requires ∙ ap
    (λ t. t >>= λ _. Err UnknownPeer) told

pub returns-in-Ok : goal.returns-in-Ok
returns-in-Ok g c day =
    let told = rw (ap length c.entries.ensures.value) at (sym c.check_import.ensures ∙ c.in-Ok.is) in
    judged_unheld c.args.self.now.state day c.args.name.now c.args.content.now c.requires ∙ ap
    (λ t. t >>= λ _. Err UnknownPeer) told
