-- The answer to an action that edits what is held, told by the register as it was before.
use Rattle.std.proofs.Common.{◌≡◌, ℕ, ◌+◌, ◌++◌, [], List, Option, None, Result, Ok, Err, refl, sym, ap, subst, ◌∙◌}
use Rattle.std.proofs.Common.{arith}
use Rattle.std.specs.Prelude.{IsErrAnd}
use Rattle.std.proofs.lemmas.List.{append-nil}
use Rattle.vet_base.specs.declared.refusal.Refusal.{Refusal}
use Rattle.vet_base.specs.Criteria.{Criteria, IsTable}
use Rattle.vet_base.specs.Day.{DayValue}
use Rattle.vet_base.specs.Gives.{Answers, Told}
use Rattle.vet_desk.specs.Desk.{DeskState}
use Rattle.vet_entries.specs.declared.facts.Edit.{Edit}
use Rattle.vet_entries.specs.declared.publisher_records.PackagePublishers.{PackagePublishers}
use Rattle.vet_entries.specs.Facts as facts
use Rattle.vet_entries.specs.Facts.{Facts}
use Rattle.vet_register.specs.declared.command.Action.{Action}
use Rattle.vet_register.specs.declared.edits.Asked.{Asked}
use Rattle.vet_register.specs.declared.held.HeldEdit.{HeldEdit}
use Rattle.vet_register.specs.declared.held.HeldEdit.TheVariants as edit
use Rattle.vet_register.specs.declared.touching.Touching.{Touching}
use Rattle.vet_register.specs.declared.verdict.Answer.{Answer}
use Rattle.vet_register.specs.declared.verdict.Answer.TheVariants.{Accepted}
use Rattle.vet_register.specs.Held.{Fits, HeldValue, edited, held_with}
use Rattle.vet_register.specs.Machine.{desk_by, facts_after, held_after, number_after, number_given, numbers_given}
use Rattle.vet_register.specs.RegisterView.{AsksExactly, IsEffect, RegisterView, Rooms, SaysTouched, held_room}
use Rattle.vet_register.specs.Sound.{ArePublishers, IsSound}
use Rattle.vet_register.specs.State.{State}
use Rattle.vet_register.specs.Touches.{only_at, packages_of_peer}
use Rattle.vet_register.specs.Verdict.{judged}
use Rattle.vet_base.proofs.Telling.{answered}
use Rattle.vet_register.proofs.Asking.{held_effect, refused}
use Rattle.vet_register.proofs.Effects.{IsGivenContent}
use Rattle.vet_register.proofs.HeldEffects.{sound_held}

-- a refusal by which a question ends is passed on
pub passed_on : {K : Type 0} (r : RegisterView K) (day : DayValue) (a : Action) (t : Told Answer) (f : Refusal)
    (out : Result Asked Refusal) → IsErrAnd out (λ e. e ≡ f) → Answers t (Err f) → AsksExactly r day a t out
passed_on r day a t f (Ok x) gone h = absurd gone
passed_on r day a t f (Err e) gone h = subst (λ x. AsksExactly r day a t (Err x)) (sym gone) (refused r day a t f h)

-- what is answered as accepted is accepted
pub accepts : {t : Told Answer} {x : Answer} → Answers t (Ok x) → x ≡ Accepted → t ≡ Ok Accepted
accepts {t} {x} h is = answered t x h ∙ ap Ok is

-- the state of a register as it was before
abbrev pub state_before : {K : Type 0} {was now : RegisterView K} → was ≡ now → State
state_before {was = was} same = was.state

-- and was so before
pub told_before : {K : Type 0} {was now : RegisterView K} → was ≡ now → (day : DayValue) (a : Action)
    → judged now.state day a ≡ Ok Accepted → judged was.state day a ≡ Ok Accepted
told_before {K} same day a told = subst (λ (r : RegisterView K). judged r.state day a ≡ Ok Accepted) (sym same) told

-- what an action gives and leaves besides what it edits
pub record Rest : Type 0 where
  pub numbers : ℕ
  pub number : Option ℕ
  pub desk : DeskState
  pub criteria : Criteria
  pub publishers : List PackagePublishers

abbrev pub beside : State → DayValue → Action → Rest
beside s day a = record {
  numbers = numbers_given s a;
  number = number_given s a;
  desk = desk_by s day a;
  criteria = (facts_after s day a).criteria;
  publishers = (facts_after s day a).publishers;
}

-- nothing, and all of it
abbrev pub untouched : State → Rest
untouched s = record {
  numbers = 0;
  number = None;
  desk = s.desk;
  criteria = s.held.facts.criteria;
  publishers = s.held.facts.publishers;
}

-- the packages of a peer, and no others
pub only_of_peer : (was facts : Facts) (name : List ℕ) → was ≡ facts
    → only_at (packages_of_peer facts name ++ []) ≡ only_at (packages_of_peer was name)
only_of_peer was facts name same =
    ap only_at (append-nil (packages_of_peer facts name)) ∙ ap (λ f. only_at (packages_of_peer f name)) (sym same)

-- what holds of one thing holds of another that is the same, and what is the same as a third is the same. They have
-- no implicit arguments, as those of `Asking`
as_before : {A : Type 0} (P : A → Type 0) (x y : A) → x ≡ y → P y → P x
as_before P x y same h = subst P (sym same) h

turned : {A : Type 0} (x y : A) → x ≡ y → y ≡ x
turned x y same = sym same

alike : {A : Type 0} (x y z : A) → x ≡ y → z ≡ y → x ≡ z
alike x y z first last = first ∙ sym last

still : (n k : ℕ) → k ≡ 0 → n ≡ n + k
still n k none = omega (arith, none)

-- the next number stays where none is given
pub none_given : {n k : ℕ} → k ≡ 0 → n ≡ n + k
none_given none = omega (arith, none)

module _ {K : Type 0} {was now : RegisterView K} (same : was ≡ now) (sound : IsSound was.state) (day : DayValue)
    (a : Action) (given : IsGivenContent a) (told : judged now.state day a ≡ Ok Accepted) where
  -- an edit for which room is taken, while what is held stays
  pub edit_is : (held : HeldValue) (keeper : K) (room : Rooms) (change : HeldEdit) (t : Touching) (number : Option ℕ)
      (next : ℕ) → held ≡ was.state.held → edited change was.state.held ≡ held_after was.state day a
      → SaysTouched was.state day a t
      → desk_by was.state day a ≡ was.state.desk → number ≡ number_given was.state a
      → next ≡ number_after was.state a → Fits change (held_with held room.held)
      → IsTable (facts_after was.state day a).criteria → ArePublishers (facts_after was.state day a).publishers
      → IsEffect (record { state = record was.state { held = held }; keeper = keeper; room = room }) day a
      (record { edit = change; touching = t; desk = None; number = number; next_entry = next })
  edit_is held keeper room change t number next stays becomes touches desk numbered follows fits is are =
      held_effect (record { state = record was.state { held = held }; keeper = keeper; room = room }) day a was.state
      (record { edit = change; touching = t; desk = None; number = number; next_entry = next })
      (λ i. record was.state { held = stays i }) becomes touches refl desk numbered follows fits
      (sound_held was.state day a (told_before same day a told) sound given is are)

  -- an edit for which none is taken
  pub edit_is_still : (change : HeldEdit) (t : Touching) (number : Option ℕ) (next : ℕ)
      → edited change was.state.held ≡ held_after was.state day a → SaysTouched was.state day a t
      → desk_by was.state day a ≡ was.state.desk
      → number ≡ number_given was.state a → next ≡ number_after was.state a → Fits change (held_room was)
      → IsTable (facts_after was.state day a).criteria → ArePublishers (facts_after was.state day a).publishers
      → IsEffect now day a (record { edit = change; touching = t; desk = None; number = number; next_entry = next })
  edit_is_still change t number next becomes touches desk numbered follows fits is are =
      subst
      (λ (r : RegisterView K). IsEffect r day a
      (record { edit = change; touching = t; desk = None; number = number; next_entry = next })) same
      (edit_is was.state.held was.keeper was.room change t number next refl becomes touches desk numbered follows fits
      is are)

  module _ (change : HeldEdit) (t : Touching) (plain : beside was.state day a ≡ untouched was.state)
      (becomes : edited change was.state.held ≡ held_after was.state day a) (touches : SaysTouched was.state day a t)
    where
      table_stays : IsTable (facts_after was.state day a).criteria
      table_stays = as_before IsTable (facts_after was.state day a).criteria was.state.held.facts.criteria
          (λ i. (plain i).criteria) sound.held.facts.criteria

      publishers_stay : ArePublishers (facts_after was.state day a).publishers
      publishers_stay = as_before ArePublishers (facts_after was.state day a).publishers was.state.held.facts.publishers
          (λ i. (plain i).publishers) sound.held.facts.publishers

      number_stays : was.state.next_entry ≡ number_after was.state a
      number_stays = still was.state.next_entry (numbers_given was.state a) (λ i. (plain i).numbers)

      none_told : None ≡ number_given was.state a
      none_told = turned (number_given was.state a) None (λ i. (plain i).number)

      -- where all else stays, and room is taken
      pub plain_is : (held : HeldValue) (keeper : K) (room : Rooms) → held ≡ was.state.held
          → Fits change (held_with held room.held)
          → IsEffect (record { state = record was.state { held = held }; keeper = keeper; room = room }) day a
          (record { edit = change; touching = t; desk = None; number = None; next_entry = was.state.next_entry })
      plain_is held keeper room stays fits =
          edit_is held keeper room change t None was.state.next_entry stays becomes touches (λ i. (plain i).desk)
          none_told number_stays fits table_stays publishers_stay

      -- and where none is
      pub plain_is_still : Fits change (held_room was) → IsEffect now day a
          (record { edit = change; touching = t; desk = None; number = None; next_entry = was.state.next_entry })
      plain_is_still fits =
          edit_is_still change t None was.state.next_entry becomes touches (λ i. (plain i).desk)
          none_told number_stays fits table_stays publishers_stay

  module _ (others : held_after was.state day a ≡ record was.state.held { facts = facts_after was.state day a })
      (change : Edit) (t : Touching) (becomes : facts.edited change was.state.held.facts ≡ facts_after was.state day a)
      (touches : SaysTouched was.state day a t)
      (is : IsTable (facts_after was.state day a).criteria)
      (are : ArePublishers (facts_after was.state day a).publishers) where
    in_facts : edited (edit.Facts change) was.state.held ≡ held_after was.state day a
    in_facts = alike (edited (edit.Facts change) was.state.held)
        (record was.state.held { facts = facts_after was.state day a }) (held_after was.state day a)
        (λ i. record was.state.held { facts = becomes i }) others

    -- an edit of facts for which room is taken
    pub of_facts_is : (content : Facts) (keeper : K) (room : Rooms) (number : Option ℕ) (next : ℕ)
        → content ≡ was.state.held.facts → desk_by was.state day a ≡ was.state.desk
        → number ≡ number_given was.state a → next ≡ number_after was.state a
        → facts.Fits change (record { content = content; room = room.held.facts })
        → IsEffect (record {
          state = record was.state { held = record was.state.held { facts = content } };
          keeper = keeper;
          room = room;
        }) day a (record { edit = edit.Facts change; touching = t; desk = None; number = number; next_entry = next })
    of_facts_is content keeper room number next stays desk numbered follows fits =
        edit_is (record was.state.held { facts = content }) keeper room (edit.Facts change) t number next
        (λ i. record was.state.held { facts = stays i }) in_facts touches desk numbered follows fits is are

    -- and one for which none is taken
    pub of_facts_is_still : (number : Option ℕ) (next : ℕ) → desk_by was.state day a ≡ was.state.desk
        → number ≡ number_given was.state a → next ≡ number_after was.state a
        → facts.Fits change (held_room was).facts → IsEffect now day a
        (record { edit = edit.Facts change; touching = t; desk = None; number = number; next_entry = next })
    of_facts_is_still number next desk numbered follows fits =
        edit_is_still (edit.Facts change) t number next in_facts touches desk numbered follows fits is are
