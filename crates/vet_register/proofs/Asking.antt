-- The answer to an action: what is judged of it, or its effect.
use Rattle.std.proofs.Common.{◌≡◌, ◌⊎◌, ℕ, ◌<◌, ◌^◌, Bool, true, false, cond, Option, Some, None, List, [], Result, Ok}
use Rattle.std.proofs.Common.{Err, refl, sym, ap, subst, ◌∙◌, inl, inr, arith}
use Rattle.std.specs.Prelude.{nat_lt}
use Rattle.std.proofs.lemmas.Bool.{ltb-false}
use Rattle.vet_base.specs.declared.criterion.Criterion.{Criterion}
use Rattle.vet_base.specs.declared.limits.TheConstants.{MOST_PUBLISHERS}
use Rattle.vet_base.specs.declared.refusal.Limit.TheVariants as limit
use Rattle.vet_base.specs.declared.refusal.Refusal.{Refusal}
use Rattle.vet_base.specs.declared.refusal.Refusal.TheVariants.{CriterionInUse, NoMemory, TooLarge, UnknownCriterion}
use Rattle.vet_base.specs.Criteria.{IsTable}
use Rattle.vet_base.specs.CriteriaChanges.{remove_references, remove_rules, remove_verdict, set_limits, set_references}
use Rattle.vet_base.specs.CriteriaChanges.{set_rules, set_verdict}
use Rattle.vet_base.specs.Day.{DayValue}
use Rattle.vet_base.specs.Gives.{Answers, Told, refuse_if, ◌>>=◌}
use Rattle.vet_base.proofs.Telling.{never_refuses, not_refused, refuses_too, then_told}
use Rattle.vet_desk.specs.Desk.{DeskState}
use Rattle.vet_entries.specs.declared.publisher.Publisher.{Publisher}
use Rattle.vet_entries.specs.declared.facts.Edit.{Edit}
use Rattle.vet_entries.specs.Facts as facts
use Rattle.vet_entries.specs.PublisherRecords.{IsByName, records_of, records_total, with_records}
use Rattle.vet_entries.specs.Publishers as Publishers
use Rattle.vet_entries.specs.Publishers.{publishers_eq}
use Rattle.vet_entries.specs.PublishersLaws.{publishers_eq-Decides}
use Rattle.vet_register.specs.declared.change.DeskEdit.{DeskEdit}
use Rattle.vet_register.specs.declared.change.Prepared.{Prepared}
use Rattle.vet_register.specs.declared.command.Action.{Action}
use Rattle.vet_register.specs.declared.command.Action.TheVariants.{RemoveCriterion, SetCriterion, SetPublishers}
use Rattle.vet_register.specs.declared.edits.Asked.{Asked}
use Rattle.vet_register.specs.declared.edits.Asked.TheVariants as asked
use Rattle.vet_register.specs.declared.edits.Effect.{Effect}
use Rattle.vet_register.specs.declared.touching.Touching.{Touching}
use Rattle.vet_register.specs.declared.touching.Touching.TheVariants as touching
use Rattle.vet_graph.specs.declared.touched.Touched.{Touched}
use Rattle.vet_register.specs.declared.verdict.Answer.{Answer}
use Rattle.vet_register.specs.declared.verdict.Answer.TheVariants.{Already, Accepted}
use Rattle.vet_register.specs.declared.held.HeldEdit.TheVariants as edit
use Rattle.vet_register.specs.Held.{Fits, demand_in, edited, held_with}
use Rattle.vet_register.specs.Changes.{desk_edited}
use Rattle.vet_register.specs.Machine.{desk_by, facts_after, held_after, number_after, number_given, policies_by}
use Rattle.vet_register.specs.Machine.{projects_by, settings_by, touched_by}
use Rattle.vet_register.specs.RegisterView.{AsksBy, AsksExactly, HoldsDesk, IsEffect, IsExact, IsExactly}
use Rattle.vet_register.specs.RegisterView.{RegisterView, SaysTouched, desk_room, held_room}
use Rattle.vet_register.specs.Sound.{ArePublishers, IsSound, IsSoundHeld}
use Rattle.vet_register.specs.State.{State, demanded}
use Rattle.vet_register.specs.Touches.{touched_with}
use Rattle.vet_register.specs.Verdict.{is_used, judged, publisher_limit, step_limit}
use Rattle.vet_register.proofs.Effects.{IsGivenContent, passed}
use Rattle.vet_register.proofs.HeldEffects.{sound_held}
use Rattle.vet_register.proofs.Publishing.{are_publishers}

-- ---- answers

-- of what is accepted nothing is asked before its moves are known
pub accepted_exact : {K U : Type 0} (wants : Bool) (t : Told Answer) (answer : Result (Prepared K U) Refusal)
    → t ≡ Ok Accepted → IsExact wants t answer
accepted_exact {K} {U} wants t answer told = by wants
  where
    accepted_so : IsExactly t answer
    accepted_so = rw told tt

    by : (wants : Bool) → IsExact wants t answer
    by true = inr accepted_so
    by false = accepted_so

-- what is touched is said by these packages, where they are known
pub known_touched : (s : State) (day : DayValue) (a : Action) (t : Touching) (x : Touched) → t ≡ touching.Known x
    → x ≡ touched_by s day a → SaysTouched s day a t
known_touched s day a t x is same =
    ap (λ (u : Touching). touched_with u (demanded s) (demand_in (held_after s day a))) is ∙ same

-- the desk stays where nothing is edited there. Lemmas that combine paths have variables for all that a command makes
-- of a state: antt writes out what it finds for an implicit argument, and there that is a case for each command.
desk_stays : (o : Option DeskEdit) (desk after : DeskState) → o ≡ None → after ≡ desk → desk_edited o desk ≡ after
desk_stays o desk after none stays = ap (λ x. desk_edited x desk) none ∙ sym stays

module _ {K : Type 0} (r : RegisterView K) (day : DayValue) (a : Action) where
  -- what is answered exactly may be answered
  pub exactly : (wants : Bool) (t : Told Answer) (x : Result Asked Refusal) → AsksExactly r day a t x
      → AsksBy wants r day a t x
  exactly true t x h = inr h
  exactly false t x h = h

  -- a refusal is passed on
  pub refused : (t : Told Answer) (f : Refusal) → Answers t (Err f) → AsksExactly r day a t (Err f)
  refused (Ok x) f h = cc h
  refused (Err e) f h = refuses_too _ _ e f h

  -- what is accepted has an effect
  pub effective : (t : Told Answer) (e : Effect) → t ≡ Ok Accepted → IsEffect r day a e → AsksExactly r day a t
      (Ok (asked.Effect e))
  effective t e told is = rw told is

  -- or memory is wanting
  pub no_memory : (t : Told Answer) (f : Refusal) → t ≡ Ok Accepted → f ≡ NoMemory → AsksExactly r day a t (Err f)
  no_memory t f told is = rw told is

  accepted_exactly : (t : Told Answer) (e : Effect) → AsksExactly r day a t (Ok (asked.Effect e)) → (t ≡ Ok Accepted)
      × IsEffect r day a e
  accepted_exactly (Err f) e h = absurd (never_refuses f _ h)
  accepted_exactly (Ok (Already n)) e h = cc h
  accepted_exactly (Ok Accepted) e h = (refl, h)

  -- what has an effect was accepted
  pub accepted : (wants : Bool) (t : Told Answer) (e : Effect) → AsksBy wants r day a t (Ok (asked.Effect e))
      → (t ≡ Ok Accepted) × IsEffect r day a e
  accepted true t e (inl lacks) = cc lacks
  accepted true t e (inr h) = accepted_exactly t e h
  accepted false t e h = accepted_exactly t e h

  told_exactly : {B : Type 0} (t : Told Answer) (then : Answer → Told B) (f : Refusal) → AsksExactly r day a t (Err f)
      → (f ≡ NoMemory) ⊎ ((t >>= then) ≡ Err f)
  told_exactly (Err (UnknownCriterion n)) then f (inl h) = inr (sym (ap Err (cc h)))
  told_exactly (Err (UnknownCriterion n)) then f (inr h) = inl (cc h)
  told_exactly (Err e) then f h = inr (sym (ap Err (cc h)))
  told_exactly (Ok (Already n)) then f h = cc h
  told_exactly (Ok Accepted) then f h = inl h

  -- what is refused was refused by the verdict, or because memory ran out
  pub refusal_told : {B : Type 0} (wants : Bool) (t : Told Answer) (then : Answer → Told B) (f : Refusal)
      → AsksBy wants r day a t (Err f) → (f ≡ NoMemory) ⊎ ((t >>= then) ≡ Err f)
  refusal_told true t then f (inl lacks) = inl (cc lacks)
  refusal_told true t then f (inr h) = told_exactly t then f h
  refusal_told false t then f h = told_exactly t then f h

  exact_exactly : (U : Type 0) (t : Told Answer) (f : Refusal) → AsksExactly r day a t (Err f) → IsExactly {K = K}
      {U = U} t (Err f)
  exact_exactly U (Err e) f h = refuses_too _ _ e f h
  exact_exactly U (Ok (Already n)) f h = cc h
  exact_exactly U (Ok Accepted) f h = tt

  -- and before moves are known, exactly so
  pub refusal_exact : (wants : Bool) (U : Type 0) (t : Told Answer) (f : Refusal) → AsksBy wants r day a t (Err f)
      → IsExact {K = K} {U = U} wants t (Err f)
  refusal_exact true U t f (inl lacks) = inl (ap Err (cc lacks))
  refusal_exact true U t f (inr h) = inr (exact_exactly U t f h)
  refusal_exact false U t f h = exact_exactly U t f h

  -- the effect of what is accepted in a state that stays, if what is held after it is sound
  pub effect_is : (s : State) (e : Effect) → r.state ≡ s → edited e.edit s.held ≡ held_after s day a
      → SaysTouched s day a e.touching → desk_edited e.desk s.desk ≡ desk_by s day a → e.number ≡ number_given s a
      → e.next_entry ≡ number_after s a
      → Fits e.edit (held_room r) → HoldsDesk e.desk (desk_room r)
      → IsSoundHeld (held_after s day a) (number_after s a) → IsEffect r day a e
  effect_is s e stays held touches desk number next fits holds sound =
      subst (λ (t : State). IsEffect (record { state = t; keeper = r.keeper; room = r.room }) day a e) (sym stays)
      (record {
        held = held;
        touches = touches;
        desk = desk;
        number = number;
        next_entry = next;
        sound = sound;
        fits = subst (λ (t : State). Fits e.edit (held_with t.held r.room.held)) stays fits;
        holds = subst (λ (t : State). HoldsDesk e.desk (record { content = t.desk; room = r.room.desk })) stays holds;
      })

  -- that of an edit of what is held, where the desk stays
  pub held_effect : (s : State) (e : Effect) → r.state ≡ s → edited e.edit s.held ≡ held_after s day a
      → SaysTouched s day a e.touching → e.desk ≡ None → desk_by s day a ≡ s.desk → e.number ≡ number_given s a
      → e.next_entry ≡ number_after s a
      → Fits e.edit (held_room r) → IsSoundHeld (held_after s day a) (number_after s a) → IsEffect r day a e
  held_effect s e stays held touches none desk number next fits sound =
      effect_is s e stays held touches (desk_stays e.desk s.desk (desk_by s day a) none desk) number next fits
      (subst (λ o. HoldsDesk o (desk_room r)) (sym none) tt) sound

  -- that of an edit of facts, where all else stays, if criteria and publisher records are sound after it
  pub facts_effect : (s : State) (change : Edit) (t : Touching) (number : Option ℕ) (next : ℕ) → r.state ≡ s → IsSound s
      → judged s day a ≡ Ok Accepted
      → IsGivenContent a → facts.edited change s.held.facts ≡ facts_after s day a
      → SaysTouched s day a t
      → s.held.policies ≡ policies_by a s.held.policies → s.held.projects ≡ projects_by a s.held.projects
      → s.held.settings ≡ settings_by a s.held.settings → desk_by s day a ≡ s.desk → number ≡ number_given s a
      → next ≡ number_after s a → facts.Fits change (held_room r).facts
      → IsTable (facts_after s day a).criteria → ArePublishers (facts_after s day a).publishers
      → IsEffect r day a
      (record { edit = edit.Facts change; touching = t; desk = None; number = number; next_entry = next })
  facts_effect s change t number next stays sound told given becomes touches policies projects settings desk numbered
      follows fits is are =
      held_effect s (record { edit = edit.Facts change; touching = t; desk = None; number = number; next_entry = next })
      stays (λ i. record { facts = becomes i; policies = policies i; projects = projects i; settings = settings i })
      touches refl
      desk numbered follows fits
      (sound_held s day a told sound given is are)

-- ---- what was passed

-- any day, where none matters
pub some_day : DayValue
some_day = record { year = 0; month = 1; day = 1 }

-- what is told in parts, each of which refuses nothing
both_told : (t u : Told (Unit {0})) → t ≡ Ok tt → u ≡ Ok tt → (t >>= λ _. u) ≡ Ok tt
both_told t u first last = ap (λ x. x >>= λ _. u) first ∙ last

all_told : (t u v : Told (Unit {0})) → t ≡ Ok tt → u ≡ Ok tt → v ≡ Ok tt → (t >>= λ _. u >>= λ _. v) ≡ Ok tt
all_told t u v first second last =
    ap (λ x. x >>= λ _. u >>= λ _. v) first ∙ ap (λ x. x >>= λ _. v) second ∙ last

-- a criterion that is set passes all that the table asks
pub set_passed : (s : State) (day : DayValue) (c : Criterion) → judged s day (SetCriterion c) ≡ Ok Accepted →
    set_verdict s.held.facts.criteria c ≡ Ok tt
set_passed s day c told =
    let p = passed s day (SetCriterion c) told in
    let l = then_told (set_limits s.held.facts.criteria c.name) (λ _. step_limit s) tt p.limits in
    all_told (set_limits s.held.facts.criteria c.name) (set_references s.held.facts.criteria c) (set_rules c.name) l.0
    p.references p.rules

-- so does the name of one that is removed
pub remove_passed : (s : State) (day : DayValue) (n : List ℕ) → judged s day (RemoveCriterion n) ≡ Ok Accepted →
    remove_verdict s.held.facts.criteria n ≡ Ok tt
remove_passed s day n told =
    let p = passed s day (RemoveCriterion n) told in
    let u = then_told (remove_rules s.held.facts.criteria n) (λ _. refuse_if (is_used s n) CriterionInUse) tt p.rules in
    both_told (remove_references s.held.facts.criteria n) (remove_rules s.held.facts.criteria n) p.references u.0

abbrev nothing : Option (Option ℕ)
nothing = None

-- records that are set are not as those held where both are none
differ : (held records : List Publisher) → held ≡ [] → records ≡ []
    → cond (publishers_eq held records) (Some None) nothing ≡ nothing → ⊥
differ held records none no_new h = by (publishers_eq held records) ((publishers_eq-Decides held records).1
    (none ∙ sym no_new)) h
  where
    by : (b : Bool) → b ≡ true → cond b (Some None) nothing ≡ nothing → ⊥
    by true e h = cc h
    by false e h = cc e

-- what is within the limit of publisher records can be counted
counted : (n : ℕ) → nat_lt MOST_PUBLISHERS n ≡ false → n < 2 ^ 64
counted n few = omega (arith, ltb-false MOST_PUBLISHERS n few)

module _ (s : State) (day : DayValue) (name : List ℕ) (records : List Publisher)
    (told : judged s day (SetPublishers name records) ≡ Ok Accepted) where
  limited : publisher_limit s name records ≡ Ok tt
  limited = (then_told (publisher_limit s name records) (λ _. step_limit s) tt
      (passed s day (SetPublishers name records) told).limits).0

  -- publisher records that are set can be counted
  pub records_counted : records_total (with_records name records s.held.facts.publishers) < 2 ^ 64
  records_counted = counted (records_total (with_records name records s.held.facts.publishers))
      (not_refused (nat_lt MOST_PUBLISHERS (records_total (with_records name records s.held.facts.publishers)))
      (TooLarge limit.Publishers) limited)

  -- they are sound
  pub records_sound : ArePublishers s.held.facts.publishers → Publishers.IsInOrder records → IsByName
      (with_records name records s.held.facts.publishers)
      → ArePublishers (with_records name records s.held.facts.publishers)
  records_sound are ordered named = are_publishers s name records are ordered named limited

  -- and others than those held
  pub records_differ : records_of s.held.facts.publishers name ≡ [] → records ≡ [] → ⊥
  records_differ none no_new = differ (records_of s.held.facts.publishers name) records none no_new
      (passed s day (SetPublishers name records) told).held
