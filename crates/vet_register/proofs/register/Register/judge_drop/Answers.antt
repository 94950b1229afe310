use Rattle.std.proofs.Common.{◌≡◌, ◌∙◌, sym, subst, Ok, Some, None}
use Rattle.vet_entries.specs.Numbered.{place_of}
use Rattle.vet_register.specs.RegisterView.{RegisterView}
use Rattle.vet_register.specs.Verdict.{step_limit}
use Rattle.vet_register.proofs.Drops.{drop_passes, drop_refused}
use Rattle.vet_register.proofs.register.Register.judge_drop.Goals as goal

pub returns-in-Some-clause-refused : goal.returns-in-Some-clause-refused
returns-in-Some-clause-refused g c day =
    let state = c.args.self.now.state in
    let at = subst (λ (r : RegisterView _). place_of r.state.held.facts.entries c.args.number ≡ Some c.in-Some.place)
    c.self.view_is (sym c.place_of.ensures ∙ c.in-Some.is) in
    let step : step_limit state ≡ Ok tt = sym c.check_step.ensures ∙ c.in_ok-check_step.was in
    rw (drop_passes state day c.args.number c.in-Some.place step at) tt

pub returns-in-None-clause-passed : goal.returns-in-None-clause-passed
returns-in-None-clause-passed g c day told =
    let at = subst (λ (r : RegisterView _). place_of r.state.held.facts.entries c.args.number ≡ None) c.self.view_is
    (sym c.place_of.ensures ∙ c.in-None.is) in
    absurd (drop_refused c.args.self.now.state day c.args.number at told)
