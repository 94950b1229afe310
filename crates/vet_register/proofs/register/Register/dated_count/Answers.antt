use Rattle.std.proofs.Common.{ap, arith, filter, length}
use Rattle.vet_entries.specs.Replaced.{is_dated}
use Rattle.vet_register.specs.RegisterView.{RegisterView}
use Rattle.vet_register.proofs.Lists.{filter-fewer}
use Rattle.vet_register.proofs.register.Register.dated_count.Goals as goal

pub returns-clause-few : goal.returns-clause-few
returns-clause-few g c =
    let sound = c.state_is_sound.ensures.held.facts in
    let here = ap (λ (r : RegisterView _). length (filter is_dated r.state.held.facts.entries)) c.self.view_is in
    omega (
      arith,
      filter-fewer is_dated c.args.self.now.state.held.facts.entries,
      sound.few,
      here,
      c.dated_count.ensures,
    )
