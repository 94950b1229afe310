use Rattle.std.proofs.Common.{◌≡◌, ◌∙◌, sym, ap, Ok}
use Rattle.vet_desk.specs.DeskVerdict.{desk_limits, desk_number, desk_references, desk_rules}
use Rattle.vet_register.specs.RegisterView.{RegisterView}
use Rattle.vet_register.specs.State.{demanded}
use Rattle.vet_register.specs.Verdict.{step_before_rules}
use Rattle.vet_base.proofs.Telling.{answered}
use Rattle.vet_register.proofs.AskingDesk.{answers_itself, rules_left}
use Rattle.vet_register.proofs.register.Register.check_command.Goals as goal

pub returns : goal.returns
returns g c =
    let state = c.args.self.now.state in
    let command = c.args.command.now in
    let few : desk_limits state.desk command ≡ Ok tt =
    ap (λ (r : RegisterView _). desk_limits r.state.desk command) (sym c.self.view_is) ∙ sym c.check_limits.ensures ∙
    c.in_ok-check_limits.was in
    let step : step_before_rules state command ≡ Ok tt = sym c.check_step_before_rules.ensures ∙
    c.in_ok-check_step_before_rules.was in
    let number : desk_number state.desk command ≡ Ok tt =
    ap (λ (r : RegisterView _). desk_number r.state.desk command) (sym c.self.view_is) ∙ sym c.check_number.ensures ∙
    c.in_ok-check_number.was in
    let table = c.criteria.ensures.value in
    let references : desk_references state.held.facts.criteria state.desk command ≡ Ok tt =
    ap (λ (r : RegisterView _). desk_references r.state.held.facts.criteria r.state.desk command) (sym c.self.view_is)
    ∙ ap (λ t. desk_references t c.self.inside.desk.content command) (sym table) ∙ answered _ _
    c.in_ok-check_references.ensures in
    let rules : c.check_rules.result ≡ desk_rules (demanded state) state.desk command =
    c.check_rules.ensures ∙ ap (λ d. desk_rules d c.self.inside.desk.content command) c.self.invariant.0.0.1.1
    ∙ ap (λ (r : RegisterView _). desk_rules (demanded r.state) r.state.desk command) c.self.view_is in
    answers_itself _ _ (rules ∙ sym (rules_left state command few step number references))
