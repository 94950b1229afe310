-- What is prepared for a command.
use Rattle.std.proofs.Common.{◌≡◌, ◌⊎◌, ◌+◌, None, Ok, Option, Some, Err, sym, ap, subst, ◌∙◌, inl, inr, arith}
use Rattle.vet_base.specs.Gives.{◌>>=◌}
use Rattle.vet_base.specs.declared.refusal.Refusal.{Refusal}
use Rattle.vet_base.specs.declared.refusal.Refusal.TheVariants.{NoMemory}
use Rattle.vet_graph.specs.Keeping.{Keeping}
use Rattle.vet_desk.specs.DeskView.{DeskView, KeepsDeskChanges}
use Rattle.vet_register.specs.declared.change.Change.{Change}
use Rattle.vet_register.specs.declared.change.DeskEdit.{DeskEdit}
use Rattle.vet_register.specs.declared.command.Command.{Command}
use Rattle.vet_register.specs.declared.moves.Recording.{Recording}
use Rattle.vet_register.specs.declared.moves.Recording.TheVariants.{Behind, Anew}
use Rattle.vet_register.specs.declared.held.HeldEdit.{HeldEdit}
use Rattle.vet_register.specs.declared.verdict.Answer.TheVariants.{Accepted}
use Rattle.vet_register.specs.Changes.{FitsMoves, changed, demand_by, desk_edited, first_by, moves_by}
use Rattle.vet_register.specs.Held.{Fits, HeldEditsFit, demand_in, edited, held_with}
use Rattle.vet_register.specs.Machine.{desk_by, first_after, held_after, moves_after, next, number_after, outcome_of}
use Rattle.vet_register.specs.Machine.{touched_by}
use Rattle.vet_register.specs.RegisterView.{HoldsDesk, IsStep, KeepsPrepared, KeepsReady, KeepsRoom, RegisterView}
use Rattle.vet_register.specs.RegisterView.{desk_room, held_room}
use Rattle.vet_register.specs.Sound.{IsSound, IsSoundHeld}
use Rattle.vet_register.specs.State.{State, demanded}
use Rattle.vet_register.specs.Verdict.{fitting, judged, moves_fit, verdict}
use Rattle.vet_register.proofs.Soundness.{MoveLaws, sound_after}

-- what the parts of a change are in a state, but for its edits, its demand and its update
pub record AreParts {K U : Type 0} (s : State) (c : Command) (change : Change K U) : Type 0 where
  pub fit : moves_fit s c.day c.action ≡ Ok tt
  pub moves : moves_by change.recording s.moves ≡ moves_after s c
  pub first : first_by change.recording s.first ≡ first_after s c.action
  pub step : change.step ≡ s.step + 1
  pub next_entry : change.next_entry ≡ number_after s c.action
  pub outcome : change.outcome ≡ outcome_of s c

becomes_next : {K U : Type 0} (s : State) (c : Command) (change : Change K U) → AreParts s c change → edited
    change.edit s.held ≡ held_after s c.day c.action
    → desk_edited change.desk s.desk ≡ desk_by s c.day c.action → changed change s ≡ next s c
becomes_next s c change parts held desk = λ i. record {
  held = held i;
  desk = desk i;
  step = parts.step i;
  next_entry = parts.next_entry i;
  moves_limit = s.moves_limit;
  first = parts.first i;
  moves = parts.moves i;
}

-- a change of these parts is the step of a command that is accepted
pub is_step : {K U : Type 0} → MoveLaws → (keeping : Keeping K U) (s : State) (c : Command) (change : Change K U) →
    IsSound s
    → judged s c.day c.action ≡ Ok Accepted → IsSoundHeld (held_after s c.day c.action) (number_after s c.action)
    → AreParts s c change → edited change.edit s.held ≡ held_after s c.day c.action
    → desk_edited change.desk s.desk ≡ desk_by s c.day c.action
    → demand_by change.demand (demanded s) ≡ demand_in (held_after s c.day c.action)
    → keeping.touched_of change.update ≡ touched_by s c.day c.action → IsStep keeping s c change
is_step laws keeping s c change sound told held parts by desk demand touches = record {
  accepts = ap (λ t. t >>= fitting s c.day c.action) told ∙ ap (λ t. t >>= λ _. Ok Accepted) parts.fit;
  becomes = becomes_next s c change parts by desk;
  sound = sound_after laws s c sound told parts.fit held;
  demand = demand;
  touches = touches;
  outcome = parts.outcome;
}

-- a command that is accepted but for its moves is refused where these do not fit
pub fit_told : (s t : State) (c : Command) (f : Refusal) → t ≡ s → judged s c.day c.action ≡ Ok Accepted →
    (f ≡ NoMemory) ⊎ (moves_fit t c.day c.action ≡ Err f)
    → (f ≡ NoMemory) ⊎ (verdict s c ≡ Err f)
fit_told s t c f same told (inl lacks) = inl lacks
fit_told s t c f same told (inr h) =
    inr (ap (λ t. t >>= fitting s c.day c.action) told ∙ ap (λ t. t >>= λ _. Ok Accepted)
    (subst (λ (z : State). moves_fit z c.day c.action ≡ Err f) same h))

-- and told so where they fit
pub fits_told : (s t : State) (c : Command) → t ≡ s → judged s c.day c.action ≡ Ok Accepted
    → moves_fit t c.day c.action ≡ Ok tt → verdict s c ≡ Ok Accepted
fits_told s t c same told h =
    ap (λ t. t >>= fitting s c.day c.action) told ∙ ap (λ t. t >>= λ _. Ok Accepted)
    (subst (λ (z : State). moves_fit z c.day c.action ≡ Ok tt) same h)

-- ---- what was prepared before

-- what the same keeper planned it has planned
pub same_keeper : {K U : Type 0} (keeping : Keeping K U) (old new : RegisterView K) → new.keeper ≡ old.keeper →
    KeepsReady keeping old new
same_keeper keeping old new keeper u facts demand h = subst (λ k. keeping.plans k u facts demand) (sym keeper) h

-- an edit of the desk that it holds, it still holds
pub desk_still : (old new : DeskView) → KeepsDeskChanges old new → (o : Option DeskEdit) → HoldsDesk o old → HoldsDesk
    o new
desk_still old new keeps None h = tt
desk_still old new keeps (Some e) h = record
    { day = h.day; command = h.command; prepared = keeps h.day h.command e.change h.prepared; numbered = h.numbered }

module _ (law : HeldEditsFit) {K U : Type 0} (keeping : Keeping K U) (old new : RegisterView K)
    (state : new.state ≡ old.state) (ready : KeepsReady keeping old new)
    (room : KeepsRoom old new) where
  held_still : (e : HeldEdit) → Fits e (held_room old) → Fits e (held_room new)
  held_still e h = subst (λ (t : State). Fits e (held_with t.held new.room.held)) (sym state)
      (law e old.state.held old.room.held new.room.held room.0 h)

  moves_still : (r : Recording) → FitsMoves r old.room.moves → FitsMoves r new.room.moves
  moves_still (Behind more) h = omega (arith, h, room.1.0)
  moves_still (Anew counts) h = tt

  -- it still is where the state is the same, the keeper still has what it planned, and no room is lost
  pub prepared_stays : KeepsPrepared keeping old new
  prepared_stays c change h = record {
    step = subst (λ (t : State). IsStep keeping t c change) (sym state) h.step;
    fits = held_still change.edit h.fits;
    desk = desk_still (desk_room old) (desk_room new) room.1.1 change.desk h.desk;
    move_room = moves_still change.recording h.move_room;
    plans = subst (λ (t : State). keeping.plans new.keeper change.update (next t c).held.facts (demanded (next t c)))
        (sym state) (ready change.update _ _ h.plans);
  }
