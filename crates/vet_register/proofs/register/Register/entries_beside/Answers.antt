use Rattle.std.proofs.Common.{ap, arith}
use Rattle.vet_entries.proofs.PeerLaws.{entries_without}
use Rattle.vet_register.specs.RegisterView.{RegisterView}
use Rattle.vet_register.specs.Verdict.{entries_beside}
use Rattle.vet_register.proofs.register.Register.entries_beside.Goals as goal

pub returns-clause-few : goal.returns-clause-few
returns-clause-few g c =
    let sound = c.state_is_sound.ensures.held.facts in
    let here = ap (λ (r : RegisterView _). entries_beside r.state.held.facts c.args.name.now) c.self.view_is in
    omega (
      arith,
      entries_without c.args.self.now.state.held.facts.peers c.args.name.now sound.peers.by_name,
      sound.few,
      here,
      c.entries_beside.ensures,
    )
