use Rattle.std.proofs.Common.{◌≡◌, ◌∙◌, ap, sym, subst, Ok}
use Rattle.std.proofs.lemmas.Result.{err_from_is_err_and}
use Rattle.vet_register.specs.declared.held.Held.{Held}
use Rattle.vet_register.specs.Held.{Fits, demand_in, edited, held_with, standing_in}
use Rattle.vet_register.specs.declared.verdict.Answer.TheVariants.{Accepted}
use Rattle.vet_register.specs.Changes.{demand_by, desk_edited}
use Rattle.vet_register.specs.Machine.{held_after, moves_of, next, number_after, number_given}
use Rattle.vet_register.specs.RegisterView.{HoldsDesk, IsStep, desk_room, held_room}
use Rattle.vet_graph.specs.Moves.{moves_between}
use Rattle.vet_graph.specs.Touched.{SameOutside}
use Rattle.vet_graph.specs.declared.touched.Touched.{Touched}
use Rattle.vet_register.specs.State.{State, demanded, standing}
use Rattle.vet_register.specs.Sound.{IsSoundHeld}
use Rattle.vet_register.specs.Touches.{touched_with}
use Rattle.vet_register.specs.Verdict.{judged, step_limit, wants_memory}
use Rattle.vet_register.proofs.Asking.{accepted_exact, refusal_exact, refusal_told}
use Rattle.vet_register.proofs.AskingDesk.{room_onward}
use Rattle.vet_register.proofs.Effects.{passed, step_passed}
use Rattle.vet_register.proofs.Prepared.{AreParts, desk_still, fit_told, fits_told, is_step}
use Rattle.vet_register.proofs.PreparedParts.{asked_stays, changed_stays, effect_of, planned_stays, rooms_onward}
use Rattle.vet_register.proofs.Soundness.{MoveLaws}
use Rattle.vet_register.proofs.TouchesLaws.{untouched_stays}
use Rattle.vet_register.proofs.register.Register.prepare.Goals as goal

pub returns-in_err-number-clause-told : goal.returns-in_err-number-clause-told
returns-in_err-number-clause-told g c =
    let passed = err_from_is_err_and c.from_residual.result c.from_residual.ensures.1 in
    rw (passed.1, passed.2) (refusal_told _ _ _
    (wants_memory c.args.self.now.state c.args.command.now.action) _ _ _ c.in_err-number.ensures.asked)

pub returns-in_err-number-clause-exact : goal.returns-in_err-number-clause-exact
returns-in_err-number-clause-exact g c =
    let passed = err_from_is_err_and c.from_residual.result c.from_residual.ensures.1 in
    rw (passed.1, passed.2) (refusal_exact _ _ _
    (wants_memory c.args.self.now.state c.args.command.now.action) _ _ _ c.in_err-number.ensures.asked)

pub change-requires-clause-step : goal.change-requires-clause-step
change-requires-clause-step g c =
    let command = c.args.command.now in
    let s = c.args.self.now.state in
    let asks = effect_of s command c.in-Effect.is c.in_ok-number.ensures.asked in
    subst (λ (t : State). step_limit t ≡ Ok tt) (sym (c.plan.ensures.state ∙ c.asked_by.ensures.state))
    (step_passed s command.day command.action (passed s command.day command.action asks.0))

pub change-requires-clause-next_entry : goal.change-requires-clause-next_entry
change-requires-clause-next_entry g c =
    (effect_of c.args.self.now.state c.args.command.now c.in-Effect.is c.in_ok-number.ensures.asked).1.next_entry
    ∙ ap (λ (t : State). number_after t c.args.command.now.action) (sym c.plan.ensures.state)

pub change-requires-clause-moves : goal.change-requires-clause-moves
change-requires-clause-moves g c =
    let asks = effect_of c.args.self.now.state c.args.command.now c.in-Effect.is c.in_ok-number.ensures.asked in
    c.in_ok-planned-in-Effect.ensures.moves
    ∙ ap (λ h. moves_between (standing c.asked_by.new.self.state) (standing_in h)) asks.1.held
    ∙ ap (λ (t : State). moves_of t c.args.command.now.day c.args.command.now.action) (sym c.plan.ensures.state)

pub returns-in_err-change-in-Effect-clause-told : goal.returns-in_err-change-in-Effect-clause-told
returns-in_err-change-in-Effect-clause-told g c =
    let s = c.args.self.now.state in
    let asks = effect_of s c.args.command.now c.in-Effect.is c.in_ok-number.ensures.asked in
    let gone = err_from_is_err_and c.from_residual-in_err-change-in-Effect.result
    c.from_residual-in_err-change-in-Effect.ensures.1 in
    rw (gone.1, gone.2) (fit_told s c.plan.new.self.state c.args.command.now _
    (c.plan.ensures.state ∙ c.asked_by.ensures.state) asks.0 c.in_err-change-in-Effect.ensures.told)

pub returns-in_err-change-in-Effect-clause-exact : goal.returns-in_err-change-in-Effect-clause-exact
returns-in_err-change-in-Effect-clause-exact g c = accepted_exact
    (wants_memory c.args.self.now.state c.args.command.now.action) _
    c.from_residual-in_err-change-in-Effect.result
    (effect_of c.args.self.now.state c.args.command.now c.in-Effect.is c.in_ok-number.ensures.asked).0

pub returns-in_ok-change-in-Effect-clause-told : goal.returns-in_ok-change-in-Effect-clause-told
returns-in_ok-change-in-Effect-clause-told g c =
    let s = c.args.self.now.state in
    fits_told s c.plan.new.self.state c.args.command.now (c.plan.ensures.state ∙ c.asked_by.ensures.state)
    (effect_of s c.args.command.now c.in-Effect.is c.in_ok-number.ensures.asked).0
    c.in_ok-change-in-Effect.ensures.told

pub returns-in_ok-change-in-Effect-clause-exact : goal.returns-in_ok-change-in-Effect-clause-exact
returns-in_ok-change-in-Effect-clause-exact g c = accepted_exact
    (wants_memory c.args.self.now.state c.args.command.now.action) _ _
    (effect_of c.args.self.now.state c.args.command.now c.in-Effect.is c.in_ok-number.ensures.asked).0

pub returns-in_ok-change-in-Effect-clause-prepared : goal.returns-in_ok-change-in-Effect-clause-prepared
returns-in_ok-change-in-Effect-clause-prepared g c =
    let command = c.args.command.now in
    let action = command.action in
    let change = c.in_ok-change-in-Effect.change in
    let s = c.asked_by.new.self.state in
    let asks = effect_of c.args.self.now.state command c.in-Effect.is c.in_ok-number.ensures.asked in
    let told = subst (λ (s : State). judged s command.day action ≡ Ok Accepted) (sym c.asked_by.ensures.state) asks.0 in
    let planned = c.in_ok-planned-in-Effect.ensures in
    let made = c.in_ok-change-in-Effect.ensures in
    let parts : AreParts c.plan.new.self.state command change = record {
      fit = made.told;
      moves = made.moves;
      first = made.first;
      step = made.step;
      next_entry = made.next_entry;
      outcome = made.outcome;
    } in
    let held = asks.1.held in
    let laws : MoveLaws = record {
      differences = c.moves_are_differences.ensures;
      balance = c.moves_balance.ensures;
      arrivals = c.runs_of_moves_add.ensures.arrivals;
      departures = c.runs_of_moves_add.ensures.departures;
      least = c.demand_is_least.ensures.least;
    } in
    let by = ap (λ e. edited e s.held) made.edit ∙ planned.edit ∙ held in
    let desk = ap (λ o. desk_edited o s.desk) made.desk ∙ asks.1.desk in
    let demand = ap (λ d. demand_by d (demanded s)) made.demand ∙ planned.demand ∙ ap demand_in held in
    let step = is_step laws g.K.Keeper.keeping s command change c.state_is_sound.ensures told asks.1.sound
    (subst (λ (t : State). AreParts t command change) c.plan.ensures.state parts) by desk demand
    (ap g.K.Keeper.keeping.touched_of made.update ∙ planned.touched
    ∙ ap (λ h. touched_with c.in-Effect.effect.touching (demanded s) (demand_in h)) held ∙ asks.1.touches) in
    let left : Held = held_room c.change.new.self in
    let room : held_room c.plan.new.self ≡ left = λ i. held_with ((sym made.state i).held) (sym made.held_room i) in
    let after = held_after s command.day action in
    let plans : g.K.Keeper.keeping.plans c.plan.new.self.keeper change.update after.facts (demand_in after) = subst
    (λ u. g.K.Keeper.keeping.plans c.plan.new.self.keeper u after.facts (demand_in after)) (sym made.update)
    (subst (λ h. g.K.Keeper.keeping.plans c.plan.new.self.keeper c.in_ok-planned-in-Effect.planned.update h.facts
    (demand_in h)) held planned.plans) in
    record {
      step = subst (λ (t : State). IsStep g.K.Keeper.keeping t command change)
          (sym (made.state ∙ c.plan.ensures.state)) step;
      fits = subst (λ e. Fits e left) (sym made.edit)
          (subst (Fits c.in_ok-planned-in-Effect.planned.edit) room planned.fits);
      desk = subst (λ o. HoldsDesk o (desk_room c.change.new.self)) (sym made.desk)
          (desk_still (desk_room c.plan.new.self) (desk_room c.change.new.self) made.room_stays.1.1
          c.in-Effect.effect.desk
          (desk_still (desk_room c.asked_by.new.self) (desk_room c.plan.new.self) c.plan.ensures.room_stays.1.1
          c.in-Effect.effect.desk asks.1.holds));
      move_room = made.room;
      plans = subst (λ (t : State). g.K.Keeper.keeping.plans c.change.new.self.keeper change.update
          (next t command).held.facts (demanded (next t command))) (sym (made.state ∙ c.plan.ensures.state))
          (subst (λ k. g.K.Keeper.keeping.plans k change.update after.facts (demand_in after)) (sym made.keeper) plans);
    }

pub plan-requires-clause-sound : goal.plan-requires-clause-sound
plan-requires-clause-sound g c =
    let next = number_after c.asked_by.new.self.state c.args.command.now.action in
    let asks = effect_of c.args.self.now.state c.args.command.now c.in-Effect.is c.in_ok-number.ensures.asked in
    (next, subst (λ h. IsSoundHeld h next) (sym asks.1.held) asks.1.sound)

pub plan-requires-clause-outside : goal.plan-requires-clause-outside
plan-requires-clause-outside g c =
    let command = c.args.command.now in
    let s = c.asked_by.new.self.state in
    let asks = effect_of c.args.self.now.state command c.in-Effect.is c.in_ok-number.ensures.asked in
    subst (λ h. SameOutside (touched_with c.in-Effect.effect.touching (demanded s) (demand_in h)) s.held.facts
    (demanded s) h.facts (demand_in h)) (sym asks.1.held)
    (subst (λ (t : Touched). SameOutside t s.held.facts (demanded s) (held_after s command.day command.action).facts
    (demand_in (held_after s command.day command.action))) (sym asks.1.touches)
    (untouched_stays s command.day command.action c.state_is_sound.ensures))

pub plan-requires-clause-fits : goal.plan-requires-clause-fits
plan-requires-clause-fits g c =
    (effect_of c.args.self.now.state c.args.command.now c.in-Effect.is c.in_ok-number.ensures.asked).1.fits

pub change-requires-clause-number : goal.change-requires-clause-number
change-requires-clause-number g c =
    let asks = effect_of c.args.self.now.state c.args.command.now c.in-Effect.is c.in_ok-number.ensures.asked in
    asks.1.number ∙ ap (λ (t : State). number_given t c.args.command.now.action) (sym c.plan.ensures.state)

-- ---- what was prepared before

pub returns-in_err-number-clause-prepared_stays : goal.returns-in_err-number-clause-prepared_stays
returns-in_err-number-clause-prepared_stays g c = asked_stays c.held_edits_fit_with_more_room.ensures.fits
    g.K.Keeper.keeping c.args.self.now c.asked_by.new.self c.asked_by.ensures.state c.asked_by.ensures.keeper
    c.asked_by.ensures.room_stays

pub returns-in-Already-clause-prepared_stays : goal.returns-in-Already-clause-prepared_stays
returns-in-Already-clause-prepared_stays g c = asked_stays c.held_edits_fit_with_more_room.ensures.fits
    g.K.Keeper.keeping c.args.self.now c.asked_by.new.self c.asked_by.ensures.state c.asked_by.ensures.keeper
    c.asked_by.ensures.room_stays

pub returns-in_err-planned-in-Effect-clause-room_stays : goal.returns-in_err-planned-in-Effect-clause-room_stays
returns-in_err-planned-in-Effect-clause-room_stays g c = room_onward c.args.self.now c.asked_by.new.self
    c.plan.new.self c.asked_by.ensures.room_stays c.plan.ensures.room_stays

pub returns-in_err-planned-in-Effect-clause-prepared_stays : goal.returns-in_err-planned-in-Effect-clause-prepared_stays
returns-in_err-planned-in-Effect-clause-prepared_stays g c =
    planned_stays c.held_edits_fit_with_more_room.ensures.fits g.K.Keeper.keeping c.args.self.now c.asked_by.new.self
    c.asked_by.ensures.state c.asked_by.ensures.keeper c.asked_by.ensures.room_stays c.plan.new.self
    c.plan.ensures.state c.plan.ensures.ready_stays c.plan.ensures.room_stays

pub returns-in_err-change-in-Effect-clause-room_stays : goal.returns-in_err-change-in-Effect-clause-room_stays
returns-in_err-change-in-Effect-clause-room_stays g c = rooms_onward c.args.self.now c.asked_by.new.self
    c.plan.new.self c.change.new.self c.asked_by.ensures.room_stays c.plan.ensures.room_stays
    c.change.ensures.room_stays

pub returns-in_err-change-in-Effect-clause-prepared_stays : goal.returns-in_err-change-in-Effect-clause-prepared_stays
returns-in_err-change-in-Effect-clause-prepared_stays g c =
    let asked = c.asked_by.ensures in
    let plan = c.plan.ensures in
    changed_stays c.held_edits_fit_with_more_room.ensures.fits g.K.Keeper.keeping c.args.self.now c.asked_by.new.self
    asked.state asked.keeper asked.room_stays c.plan.new.self plan.state plan.ready_stays plan.room_stays
    c.change.new.self c.change.ensures.state c.change.ensures.keeper c.change.ensures.room_stays

pub returns-in_ok-change-in-Effect-clause-room_stays : goal.returns-in_ok-change-in-Effect-clause-room_stays
returns-in_ok-change-in-Effect-clause-room_stays g c =
    rooms_onward c.args.self.now c.asked_by.new.self c.plan.new.self c.change.new.self c.asked_by.ensures.room_stays
    c.plan.ensures.room_stays c.change.ensures.room_stays

pub returns-in_ok-change-in-Effect-clause-prepared_stays : goal.returns-in_ok-change-in-Effect-clause-prepared_stays
returns-in_ok-change-in-Effect-clause-prepared_stays g c =
    changed_stays c.held_edits_fit_with_more_room.ensures.fits g.K.Keeper.keeping c.args.self.now c.asked_by.new.self
    c.asked_by.ensures.state c.asked_by.ensures.keeper c.asked_by.ensures.room_stays c.plan.new.self
    c.plan.ensures.state c.plan.ensures.ready_stays c.plan.ensures.room_stays c.change.new.self
    c.change.ensures.state c.change.ensures.keeper c.change.ensures.room_stays
