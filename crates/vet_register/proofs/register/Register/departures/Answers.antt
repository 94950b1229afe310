use Rattle.std.proofs.Common.{◌∙◌, sym, ap, subst, arith}
use Rattle.std.proofs.lemmas.List.{length-map}
use Rattle.vet_graph.specs.Standing.{counts_of}
use Rattle.vet_register.specs.Flow.{departures}
use Rattle.vet_register.specs.Held.{content_of}
use Rattle.vet_register.specs.RegisterView.{RegisterView}
use Rattle.vet_register.specs.SoundMoves.{AreBalanced}
use Rattle.vet_register.specs.State.{State, changes_of}
use Rattle.vet_register.specs.declared.moves.RecordedMove.{RecordedMove}
use Rattle.vet_register.proofs.Balancing.{balance_told}
use Rattle.vet_register.proofs.register.Register.departures.Goals as goal

pub departures-requires : goal.departures-requires
departures-requires g c =
    let s : State = record {
      held = content_of c.self.inside.held;
      desk = c.self.inside.desk.content;
      step = c.self.inside.step;
      next_entry = c.self.inside.next_entry;
      moves_limit = c.self.inside.moves_limit;
      first = c.self.inside.first;
      moves = c.self.inside.moves.items;
    } in
    let sound = c.self.invariant.1 in
    let present = c.counts.ensures.value ∙ ap counts_of c.self.invariant.0.0.1.0 in (
      changes_of s.moves,
      c.self.invariant.0.1,
      subst (λ n. AreBalanced s.first n (changes_of s.moves)) (sym present) ((balance_told s).1 sound.balance),
      omega (arith, sound.moves.few, sound.limit.1, length-map s.moves (λ (m : RecordedMove). m.change)),
    )

pub returns : goal.returns
returns g c =
    let s : State = record {
      held = content_of c.self.inside.held;
      desk = c.self.inside.desk.content;
      step = c.self.inside.step;
      next_entry = c.self.inside.next_entry;
      moves_limit = c.self.inside.moves_limit;
      first = c.self.inside.first;
      moves = c.self.inside.moves.items;
    } in
    let present = c.counts.ensures.value ∙ ap counts_of c.self.invariant.0.0.1.0 in
    c.departures.ensures (changes_of s.moves) c.self.invariant.0.1
    (subst (λ n. AreBalanced s.first n (changes_of s.moves)) (sym present)
    ((balance_told s).1 c.self.invariant.1.balance))
    ∙ ap (λ (r : RegisterView _). departures (changes_of r.state.moves)) c.self.view_is
