use Rattle.std.proofs.Common.{◌≡◌, ◌∙◌, sym, ap, subst, length, arith}
use Rattle.vet_register.specs.Changes.{changed, demand_by}
use Rattle.vet_register.specs.Flow.{arrivals}
use Rattle.vet_register.specs.Held.{content_of}
use Rattle.vet_register.specs.Machine.{next}
use Rattle.vet_register.specs.RegisterView.{IsPrepared}
use Rattle.vet_register.specs.Sound.{IsSound}
use Rattle.vet_register.specs.State.{State, changes_of, demanded}
use Rattle.vet_register.proofs.register.Register.install.Goals as goal

pub invariant_of-self : goal.invariant_of-self
invariant_of-self g c =
    let command = c.requires.0 in
    let change = c.args.change in
    let prepared = subst (λ r. IsPrepared g.K.Keeper.keeping r command change) (sym c.self.view_is) c.requires.1 in
    let s : State = record {
      held = content_of c.self.inside.held;
      desk = c.self.inside.desk.content;
      step = c.self.inside.step;
      next_entry = c.self.inside.next_entry;
      moves_limit = c.self.inside.moves_limit;
      first = c.self.inside.first;
      moves = c.self.inside.moves.items;
    } in
    let left : State = record {
      held = content_of c.apply.new.self;
      desk = c.change_desk.new.desk.content;
      step = change.step;
      next_entry = change.next_entry;
      moves_limit = c.self.inside.moves_limit;
      first = c.make_recording.new.first;
      moves = c.make_recording.new.moves.items;
    } in
    let made : changed change s ≡ left = λ i. record {
      held = sym c.apply.ensures.content i;
      desk = sym c.change_desk.ensures i;
      step = change.step;
      next_entry = change.next_entry;
      moves_limit = c.self.inside.moves_limit;
      first = sym c.make_recording.ensures.first i;
      moves = sym c.make_recording.ensures.moves i;
    } in
    let same : next s command ≡ left = sym prepared.step.becomes ∙ made in
    let planned = subst (λ (t : State). g.K.Keeper.keeping.plans c.self.inside.keeper change.update t.held.facts
    (demanded t)) same prepared.plans in (
      (
        (
          c.apply-2.ensures.keeps _ _ planned,
          (
            c.apply-2.ensures.standing _ _ planned,
            c.exchange.ensures ∙ ap (demand_by change.demand) c.self.invariant.0.0.1.1 ∙ prepared.step.demand ∙ ap
                demanded same,
          ),
        ),
        c.arrivals_after-self-inside.ensures c.self.inside.moves.items c.self.invariant.0.1
            ∙ ap (λ moves. arrivals (changes_of moves)) (sym c.make_recording.ensures.moves),
      ),
      subst IsSound same prepared.step.sound,
    )

pub arrivals_after-self-inside-requires : goal.arrivals_after-self-inside-requires
arrivals_after-self-inside-requires g c =
    let command = c.requires.0 in
    let change = c.args.change in
    let prepared = subst (λ r. IsPrepared g.K.Keeper.keeping r command change) (sym c.self.view_is) c.requires.1 in
    let few = prepared.step.sound.moves.few in
    let limit = prepared.step.sound.limit.1 in
    let moves = ap (λ (s : State). length s.moves) prepared.step.becomes in
    (c.self.inside.moves.items, c.self.invariant.0.1, omega (arith, few, limit, moves))

pub apply-requires : goal.apply-requires
apply-requires g c =
    let prepared = subst (λ r. IsPrepared g.K.Keeper.keeping r c.requires.0 c.args.change) (sym c.self.view_is)
    c.requires.1 in
    prepared.fits

pub apply-requires-2 : goal.apply-requires-2
apply-requires-2 g c =
    let prepared = subst (λ r. IsPrepared g.K.Keeper.keeping r c.requires.0 c.args.change) (sym c.self.view_is)
    c.requires.1 in
    (_, _, prepared.plans)

pub change_desk-requires : goal.change_desk-requires
change_desk-requires g c =
    let prepared = subst (λ r. IsPrepared g.K.Keeper.keeping r c.requires.0 c.args.change) (sym c.self.view_is)
    c.requires.1 in
    prepared.desk
