use Rattle.std.proofs.Common.{◌≡◌, ◌∙◌, sym, ap, subst}
use Rattle.vet_demand.specs.DemandOf.{PoliciesAreKnown}
use Rattle.vet_entries.specs.Step.{AreKnown}
use Rattle.vet_graph.specs.Touched.{SameOutside}
use Rattle.vet_register.specs.Held.{Fits, HeldValue, content_of, demand_in, edited}
use Rattle.vet_register.specs.RegisterView.{RegisterView, held_room}
use Rattle.vet_register.specs.State.{State, demanded}
use Rattle.vet_register.specs.Touches.{touched_with}
use Rattle.vet_register.proofs.register.Register.plan.Goals as goal

pub apply-back-requires : goal.apply-back-requires
apply-back-requires g c = subst (λ (r : RegisterView _). Fits c.args.edit (held_room r)) (sym c.self.view_is)
    c.requires.fits

pub find_standing-found-requires-clause-known : goal.find_standing-found-requires-clause-known
find_standing-found-requires-clause-known g c =
    let becomes : ◌≡◌ {A = HeldValue} (content_of c.apply-back.new.self)
    (edited c.args.edit c.args.self.now.state.held) =
    c.apply-back.ensures.content ∙ ap (λ (r : RegisterView _). edited c.args.edit r.state.held) c.self.view_is in
    subst (λ h. AreKnown h.facts) (sym becomes) c.requires.sound.1.facts.known

pub find_standing-found-requires-clause-policies : goal.find_standing-found-requires-clause-policies
find_standing-found-requires-clause-policies g c =
    let becomes : ◌≡◌ {A = HeldValue} (content_of c.apply-back.new.self)
    (edited c.args.edit c.args.self.now.state.held) =
    c.apply-back.ensures.content ∙ ap (λ (r : RegisterView _). edited c.args.edit r.state.held) c.self.view_is in
    subst (λ h. PoliciesAreKnown h.facts.criteria h.policies) (sym becomes) c.requires.sound.1.policies.known

pub find_standing-found-requires-clause-outside : goal.find_standing-found-requires-clause-outside
find_standing-found-requires-clause-outside g c =
    let before = ap (λ (r : RegisterView _). r.state) c.self.view_is in
    let held = content_of c.self.inside.held in
    let now = content_of c.apply-back.new.self in
    let after = edited c.args.edit c.args.self.now.state.held in
    let becomes : ◌≡◌ {A = HeldValue} now after =
    c.apply-back.ensures.content ∙ ap (λ (r : RegisterView _). edited c.args.edit r.state.held) c.self.view_is in (
      held.facts,
      demand_in held,
      c.self.invariant.0.0.0,
      subst (λ d. SameOutside (touched_with c.args.touching d (demand_in now)) held.facts (demand_in held) now.facts
          (demand_in now)) (sym c.self.invariant.0.0.1.1)
          (subst (λ h. SameOutside (touched_with c.args.touching (demand_in held) (demand_in h)) held.facts
          (demand_in held) h.facts (demand_in h)) (sym becomes)
          (subst (λ (s : State). SameOutside (touched_with c.args.touching (demanded s) (demand_in after)) s.held.facts
          (demanded s) after.facts (demand_in after)) (sym before) c.requires.outside)),
    )
