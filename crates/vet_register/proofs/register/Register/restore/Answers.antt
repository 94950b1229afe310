use Rattle.std.proofs.Common.{sym, ap, subst, ◌∙◌}
use Rattle.vet_graph.specs.Standing.{counts_of}
use Rattle.vet_register.specs.SoundMoves.{AreBalanced}
use Rattle.vet_register.specs.State.{changes_of}
use Rattle.vet_register.proofs.Checked.{no_register, refuted}
use Rattle.vet_register.proofs.Balancing.{balance_told, sound_with}
use Rattle.vet_register.proofs.register.Register.restore.Goals as goal

pub returns-then-not-leads_to-clause-refused : goal.returns-then-not-leads_to-clause-refused
returns-then-not-leads_to-clause-refused g c =
    let state = c.args.state in
    let counts = c.counts.ensures.value ∙ ap counts_of c.in_ok-keeper.ensures.kept.1.0 in
    no_register (λ sound. refuted c.leads_to.ensures c.if-not-leads_to.true
    (subst (λ n. AreBalanced state.first n (changes_of state.moves)) (sym counts)
    ((balance_told state).1 sound.balance)))

pub into_register-requires-clause-sound : goal.into_register-requires-clause-sound
into_register-requires-clause-sound g c =
    let state = c.args.state in
    let counts = c.counts.ensures.value ∙ ap counts_of c.in_ok-keeper.ensures.kept.1.0 in
    sound_with state c.in_ok-check.ensures ((balance_told state).0
    (subst (λ n. AreBalanced state.first n (changes_of state.moves)) counts
    (c.leads_to.ensures.0 c.if-not-leads_to.false)))
