-- The answer to a command to the desk: what is judged of it, or its effect.
use Rattle.std.proofs.Common.{◌≡◌, ◌⊎◌, Bool, true, false, cond, ◌&&◌, is_ok, is_some, Option, Some, None, option_map}
use Rattle.std.proofs.Common.{Result, Ok, Err, refl, sym, ap, subst, ◌∙◌, inl, inr, arith}
use Rattle.vet_base.specs.declared.refusal.Refusal.{Refusal}
use Rattle.vet_base.specs.declared.refusal.Refusal.TheVariants.{NoMemory, UnknownCriterion}
use Rattle.vet_base.specs.Criteria.{IsTable}
use Rattle.vet_base.specs.Day.{DayValue}
use Rattle.vet_base.specs.Gives.{Answers, Refuses, Told, ◌>>=◌}
use Rattle.vet_base.proofs.Telling.{refuses_too, then_told}
use Rattle.vet_desk.specs.declared.change.DeskChange.{DeskChange}
use Rattle.vet_desk.specs.declared.command.DeskCommand.{DeskCommand}
use Rattle.vet_desk.specs.declared.verdict.DeskAnswer.TheVariants as at_desk
use Rattle.vet_desk.specs.Desk.{entry_of}
use Rattle.vet_desk.specs.DeskVerdict.{already_or, desk_checked, desk_held, desk_limits, desk_number, desk_references}
use Rattle.vet_desk.specs.DeskVerdict.{desk_rules, desk_verdict}
use Rattle.vet_desk.specs.DeskView.{IsDeskChange}
use Rattle.vet_register.specs.declared.command.Action.TheVariants.{Desk}
use Rattle.vet_register.specs.declared.edits.Effect.{Effect}
use Rattle.vet_register.specs.declared.verdict.Answer.{Answer}
use Rattle.vet_register.specs.declared.verdict.Answer.TheVariants.{Accepted}
use Rattle.vet_register.specs.AtDesk.{added_by, entry_number, finishes}
use Rattle.vet_register.specs.Changes.{desk_edited}
use Rattle.vet_register.specs.RegisterView.{Asks, AsksBy, HoldsDesk, IsDeskEffect, IsEffect, KeepsRoom, RegisterView}
use Rattle.vet_register.specs.RegisterView.{desk_room}
use Rattle.vet_register.specs.Sound.{ArePublishers, IsSound}
use Rattle.vet_register.specs.State.{State, demanded}
use Rattle.vet_register.specs.Verdict.{asked_before, checked, entry_limits, held_or, judged, limits, limits_after_rules}
use Rattle.vet_register.specs.Verdict.{references, step_before_rules, wants_memory}
use Rattle.vet_register.proofs.Asking.{exactly, no_memory, refused}
use Rattle.vet_register.proofs.Effects.{passes_desk}
use Rattle.vet_register.proofs.HeldEffects.{same_criteria, same_publishers, sound_held}

-- ---- telling

-- what is answered as it is told
refuses_itself : {A : Type 0} (e : Refusal) (x : Result A Refusal) → x ≡ Err e → Refuses e x
refuses_itself (UnknownCriterion n) x h = inl h
refuses_itself e x h = h

pub answers_itself : {A : Type 0} (t : Told A) (x : Result A Refusal) → x ≡ t → Answers t x
answers_itself (Ok y) x h = h
answers_itself (Err e) x h = refuses_itself e x h

-- a refusal is told before all that comes after
pub refused_first : {B : Type 0} (t : Told (Unit {0})) (then : Unit {0} → Told B) (f : Refusal) → Answers t (Err f) →
    Answers (t >>= then) (Err f)
refused_first (Ok u) then f h = cc h
refused_first (Err e) then f h = refuses_too _ _ e f h

in_turn : (a b c d : Told (Unit {0})) → (a >>= λ _. b >>= λ _. c >>= λ _. d) ≡ ((a >>= λ _. b >>= λ _. c) >>= λ _. d)
in_turn (Ok u) (Ok v) c d = refl
in_turn (Ok u) (Err e) c d = refl
in_turn (Err e) b c d = refl

-- ---- the verdict

module _ (s : State) (command : DeskCommand) where
  -- where the parts before were passed, the rules are left
  pub rules_left : desk_limits s.desk command ≡ Ok tt → step_before_rules s command ≡ Ok tt → desk_number s.desk
      command ≡ Ok tt
      → desk_references s.held.facts.criteria s.desk command ≡ Ok tt → asked_before s command ≡ desk_rules
      (demanded s) s.desk command
  rules_left few step number references =
      let last = desk_rules (demanded s) s.desk command in
      let third = desk_references s.held.facts.criteria s.desk command in
      ap (λ t. (t >>= λ _. step_before_rules s command >>= λ _. desk_number s.desk command) >>= λ _. third >>= λ _.
      last) few
      ∙ ap (λ t. (t >>= λ _. desk_number s.desk command) >>= λ _. third >>= λ _. last) step
      ∙ ap (λ t. t >>= λ _. third >>= λ _. last) number ∙ ap (λ t. t >>= λ _. last) references

  judged_in_turn : (day : DayValue) → desk_held s.desk command ≡ false → judged s day (Desk command) ≡
      ((asked_before s command >>= λ _. limits_after_rules s command) >>= λ _. Ok Accepted)
  judged_in_turn day new =
      ap (λ b. held_or (cond b (Some None) None) (checked s day (Desk command))) new
      ∙ ap (λ t. t >>= λ _. Ok Accepted)
      (in_turn (limits s (Desk command)) (references s (Desk command)) (desk_rules (demanded s) s.desk command)
      (limits_after_rules s command))

  -- what was asked before was passed: the limits after rules are left
  judged_after : (day : DayValue) → desk_held s.desk command ≡ false → asked_before s command ≡ Ok tt → judged s day
      (Desk command) ≡ (limits_after_rules s command >>= λ _. Ok Accepted)
  judged_after day new passed = judged_in_turn day new ∙ ap
      (λ t. (t >>= λ _. limits_after_rules s command) >>= λ _. Ok Accepted) passed

  pub accepted_after : (day : DayValue) → desk_held s.desk command ≡ false → asked_before s command ≡ Ok tt →
      limits_after_rules s command ≡ Ok tt → judged s day (Desk command) ≡ Ok Accepted
  accepted_after day new passed last = judged_after day new passed ∙ ap (λ t. t >>= λ _. Ok Accepted) last

  -- the desk accepts the command too
  pub desk_accepts : desk_held s.desk command ≡ false → asked_before s command ≡ Ok tt
      → desk_verdict s.held.facts.criteria (demanded s) s.desk command ≡ Ok at_desk.Accepted
  desk_accepts new passed =
      let l = then_told (limits s (Desk command))
      (λ _. references s (Desk command) >>= λ _. desk_rules (demanded s) s.desk command) tt passed in
      let r = then_told (references s (Desk command)) (λ _. desk_rules (demanded s) s.desk command) tt l.1 in
      let few = then_told (desk_limits s.desk command)
      (λ _. step_before_rules s command >>= λ _. desk_number s.desk command) tt l.0 in
      let number = then_told (step_before_rules s command) (λ _. desk_number s.desk command) tt few.1 in
      ap (λ b. already_or b (desk_checked s.held.facts.criteria (demanded s) s.desk command)) new
      ∙ ap (already_or false) (passes_desk s command few.0 number.1 r.0 r.1)

-- ---- what is answered

module _ {K : Type 0} (r : RegisterView K) (s : State) (day : DayValue) (command : DeskCommand)
    (new : desk_held s.desk command ≡ false) where
  -- a refusal of what is asked before
  pub refused_before : (f : Refusal) → Answers (asked_before s command) (Err f) → Asks s r day (Desk command)
      (judged s day (Desk command)) (Err f)
  refused_before f h =
      let told = refused_first (asked_before s command >>= λ _. limits_after_rules s command) (λ _. Ok Accepted) f
      (refused_first (asked_before s command) (λ _. limits_after_rules s command) f h) in
      exactly r day (Desk command) (wants_memory s (Desk command)) (judged s day (Desk command)) (Err f)
      (refused r day (Desk command) (judged s day (Desk command)) f
      (subst (λ (t : Told Answer). Answers t (Err f)) (sym (judged_in_turn s command day new)) told))

  module _ (passed : asked_before s command ≡ Ok tt) where
    -- or memory is wanting
    pub wanting : (f : Refusal) → f ≡ NoMemory → Asks s r day (Desk command) (judged s day (Desk command)) (Err f)
    wanting f lacks = by (finishes command) refl
      where
        by : (b : Bool) → finishes command ≡ b → AsksBy (b && is_ok (asked_before s command)) r day (Desk command)
            (judged s day (Desk command)) (Err f)
        by true is = subst (λ t. AsksBy (is_ok t) r day (Desk command) (judged s day (Desk command)) (Err f))
            (sym passed) (inl (ap Err lacks))
        by false is =
            no_memory r day (Desk command) (judged s day (Desk command)) f
            (accepted_after s command day new passed
            (ap (λ b. cond b (entry_limits s (added_by s command)) (Ok tt)) is)) lacks

    -- a refusal by the limits after rules
    pub refused_last : (f : Refusal) → (f ≡ NoMemory) ⊎ (limits_after_rules s command ≡ Err f) → Asks s r day
        (Desk command) (judged s day (Desk command)) (Err f)
    refused_last f (inl lacks) = wanting f lacks
    refused_last f (inr told) =
        let is : judged s day (Desk command) ≡ Err f = judged_after s command day new passed ∙ ap
        (λ t. t >>= λ _. Ok Accepted) told in
        exactly r day (Desk command) (wants_memory s (Desk command)) (judged s day (Desk command)) (Err f)
        (refused r day (Desk command) (judged s day (Desk command)) f
        (answers_itself (judged s day (Desk command)) (Err f) (sym is)))

some_mapped : {A B : Type 0} (f : A → B) (o : Option A) → is_some (option_map f o) ≡ is_some o
some_mapped f None = refl
some_mapped f (Some x) = refl

-- an effect of a command to the desk is its effect
pub desk_effective : {K : Type 0} (r : RegisterView K) (s : State) (day : DayValue) (command : DeskCommand)
    (change : DeskChange) (e : Effect) → r.state ≡ s → IsSound s
    → judged s day (Desk command) ≡ Ok Accepted → IsDeskChange (desk_room r) day command change → IsDeskEffect r day
    command change e → IsEffect r day (Desk command) e
desk_effective r s day command change e stays sound told prepared h =
    let here : IsSound r.state = subst IsSound (sym stays) sound in
    let accepted : judged r.state day (Desk command) ≡ Ok Accepted = subst
    (λ (t : State). judged t day (Desk command) ≡ Ok Accepted) (sym stays) told in
    let made = added_by r.state command in
    let facts = r.state.held.facts in
    record {
      held = h.held;
      touches = h.touches;
      desk = ap (λ o. desk_edited o r.state.desk) h.desk ∙ prepared.step.becomes (entry_number r.state command);
      number = h.number;
      next_entry = h.next_entry;
      sound = sound_held r.state day (Desk command) accepted here tt
          (subst IsTable (sym (same_criteria r.state.next_entry made facts)) here.held.facts.criteria)
          (subst ArePublishers (sym (same_publishers r.state.next_entry made facts)) here.held.facts.publishers);
      fits = h.fits;
      holds = subst (λ o. HoldsDesk o (desk_room r)) (sym h.desk) (record {
        day = day;
        command = command;
        prepared = prepared;
        numbered = some_mapped _ (entry_of r.state.desk command) ∙ ap is_some (sym prepared.step.entry);
      });
    }

-- ---- room

-- no room is lost by one thing after another that each lose none
pub room_onward : {K : Type 0} (a b c : RegisterView K) → KeepsRoom a b → KeepsRoom b c → KeepsRoom a c
room_onward a b c h k = (
  (
    (omega (arith, h.0.0.0, k.0.0.0), (omega (arith, h.0.0.1.0, k.0.0.1.0), omega (arith, h.0.0.1.1, k.0.0.1.1))),
    (omega (arith, h.0.1.0, k.0.1.0), omega (arith, h.0.1.1, k.0.1.1)),
  ),
  (omega (arith, h.1.0, k.1.0), λ day command change p. k.1.1 day command change (h.1.1 day command change p)),
)
