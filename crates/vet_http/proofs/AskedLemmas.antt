-- From a command that was run to the request that asked for it.
use Rattle.std.proofs.Common.{◌≡◌, ◌∙◌, ◌⊎◌, inl, inr, Bool, true, false, IsTrue, Option, Some, None, Ok, Err}
use Rattle.std.proofs.Common.{IsErrAnd, ap, subst, sym}
use Rattle.std.proofs.lemmas.Bool.{false≢true}
use Rattle.sqlite.specs.State.{HasCleanDisk}
use Rattle.sqlite.specs.State as sqlite
use Rattle.vet_base.specs.Day.{DayValue}
use Rattle.vet_base.specs.Gives.{Told}
use Rattle.vet_base.specs.Words.{Bytes}
use Rattle.vet_base.specs.declared.refusal.Refusal.{Refusal}
use Rattle.vet_base.specs.declared.refusal.Refusal.TheVariants.{NoMemory, StoreRefused}
use Rattle.vet_http.specs.Answer.{IsUnavailable}
use Rattle.vet_http.specs.Answered.{Tells}
use Rattle.vet_http.specs.AskedFor.{given_at, given_by, given_in}
use Rattle.vet_http.specs.ShutStore.{IsCutOff, IsRefused, IsToldCutOff, IsToldRefused, LeavesAsked}
use Rattle.vet_http.specs.Given.{given_told}
use Rattle.vet_http.specs.HeldAsked.{HeldStays, RepeatsStay, TellsHeld}
use Rattle.vet_requests.specs.Request.{RequestValue}
use Rattle.vet_requests.specs.Route.{asked_at, asked_by}
use Rattle.vet_http.specs.Told.{outcome_reply}
use Rattle.vet_http.specs.declared.answer.Answered.{Answered}
use Rattle.vet_http.specs.declared.answer.Answered.TheVariants as answered
use Rattle.vet_requests.specs.declared.reply.Reply.{Reply}
use Rattle.vet_requests.specs.declared.route.RouteAction.{RouteAction}
use Rattle.vet_requests.specs.declared.route.RouteAction.TheVariants.{Runs, Shows}
use Rattle.vet_requests.specs.declared.route.BodyKind.{BodyKind}
use Rattle.vet_requests.specs.declared.route.Route.{Route}
use Rattle.vet_requests.specs.declared.route.Shown.{Shown}
use Rattle.vet_register.specs.State.{State}
use Rattle.vet_register.specs.declared.command.Command.{Command}
use Rattle.vet_register.specs.declared.command.Outcome.{Outcome}
use Rattle.vet_register.specs.declared.command.Outcome.TheVariants.{Already}
use Rattle.vet_store.specs.Crash.{LeavesEither}
use Rattle.vet_store.specs.Repeats.{Repeats}
use Rattle.vet_store.specs.Repeats as stored
use Rattle.vet_store.specs.Runs.{Fails, IsOfStore}
use Rattle.vet_http.proofs.AnswerLemmas.{no_refusal, same_refusal, tells_store}

-- ---- which command is asked for

no_command : (c : Command) → None ≡ Some c → ⊥
no_command c h = cc h

same_command : (c d : Command) → Some c ≡ Some d → d ≡ c
same_command c d h = cc h

in_given : (given : Told Command) (c : Command) → given ≡ Ok c → given_in given ≡ Some c
unfolding given_in
in_given given c is = ap given_in is

in_refused : (given : Told Command) (e : Refusal) → given ≡ Err e → given_in given ≡ None
unfolding given_in
in_refused given e is = ap given_in is

module _ (day : DayValue) (r : RequestValue) where
  pub by_shown : (asked : Option RouteAction) (what : Shown) → asked ≡ Some (Shows what) → None ≡ given_by day r asked
  unfolding given_by
  by_shown asked what is = sym (ap (given_by day r) is)

  pub by_lacking : (asked : Option RouteAction) → asked ≡ None → None ≡ given_by day r asked
  unfolding given_by
  by_lacking asked is = sym (ap (given_by day r) is)

  pub by_giving : (asked : Option RouteAction) (what given : BodyKind) (text : Bytes) → asked ≡ Some (Runs what)
      → given ≡ what → text ≡ r.target → given_in (given_told given day text r) ≡ given_by day r asked
  unfolding given_by
  by_giving asked what given text is same is_text =
      ap (λ (x : BodyKind). given_in (given_told x day text r)) same
      ∙ ap (λ (t : Bytes). given_in (given_told what day t r)) is_text ∙ sym (ap (given_by day r) is)

  pub at_found : (found : Option Route) (route : Route) → found ≡ Some route
      → given_by day r (asked_by r.method (asked_at route)) ≡ given_at day r found
  unfolding given_at
  at_found found route is = sym (ap (given_at day r) is)

  pub at_missing : (found : Option Route) → found ≡ None → None ≡ given_at day r found
  unfolding given_at
  at_missing found is = sym (ap (given_at day r) is)

-- ---- what is held

told_failed : (a : Told Answered) (e : Refusal) → IsOfStore e → IsErrAnd a (λ x. x ≡ e) → TellsHeld a
told_failed (Ok x) e of gone = absurd gone
told_failed (Err x) e of same = subst IsOfStore (sym same) of

told_already : (o : Outcome) → (◌≡◌ {A = Told Outcome} (Ok o) (Ok (Already None))) ⊎ Fails (Ok o)
    → outcome_reply o ≡ outcome_reply (Already None)
told_already o (inl already) = let same : o ≡ Already None = cc already in ap outcome_reply same
told_already o (inr (inl no_memory)) = absurd (no_refusal o NoMemory no_memory)
told_already o (inr (inr refused)) = absurd (no_refusal o StoreRefused refused)

failed : (e : Refusal) → Fails (Err e) → IsOfStore e
failed e (inl no_memory) = inl (same_refusal e NoMemory no_memory)
failed e (inr refused) = inr (same_refusal e StoreRefused refused)

failed_already : (e : Refusal) → (◌≡◌ {A = Told Outcome} (Err e) (Ok (Already None))) ⊎ Fails (Err e) → IsOfStore e
failed_already e (inl already) = absurd (no_refusal (Already None) e (sym already))
failed_already e (inr fails) = failed e fails

module _ (s end : State) where
  -- nothing is said where no command is asked for
  pub none_held : (asked : Option Command) (a : Told Answered) → None ≡ asked → HeldStays asked s a end
  unfolding HeldStays
  none_held asked a is c asks repeats = absurd (no_command c (is ∙ asks))

  pub held_as : (given asked : Option Command) (a : Told Answered) → given ≡ asked → HeldStays given s a end
      → HeldStays asked s a end
  held_as given asked a is held = subst (λ (o : Option Command). HeldStays o s a end) is held

  -- nor where memory was wanting before it was looked for
  pub unread_held : (asked : Option Command) (e : Refusal) (a : Told Answered) → e ≡ NoMemory
      → IsErrAnd a (λ x. x ≡ e) → end ≡ s → HeldStays asked s a end
  unfolding HeldStays
  unread_held asked e a no_memory passed same c asks repeats = (told_failed a e (inl no_memory) passed, same)

  -- a command that was not given is told so, unless memory was wanting
  pub not_given_held : (given : Told Command) (e : Refusal) (a : Told Answered) → (e ≡ NoMemory) ⊎ (given ≡ Err e)
      → IsErrAnd a (λ x. x ≡ e) → end ≡ s → HeldStays (given_in given) s a end
  unfolding HeldStays
  not_given_held given e a (inr refused) passed same c asks repeats =
      absurd (no_command c (sym (in_refused given e refused) ∙ asks))
  not_given_held given e a (inl no_memory) passed same c asks repeats =
      (told_failed a e (inl no_memory) passed, same)

  -- what was given says what is held where the command does
  says : (given : Told Command) (c d : Command) → given ≡ Ok c → given_in given ≡ Some d → Repeats s d.action
      → Repeats s c.action
  says given c d is asks repeats =
      subst (λ (x : Command). Repeats s x.action) (same_command c d (sym (in_given given c is) ∙ asks)) repeats

  pub given_ran_held : (given : Told Command) (c : Command) (o : Outcome) → given ≡ Ok c
      → stored.RepeatsStay s c (Ok o) end → HeldStays (given_in given) s (Ok (answered.Outcome o)) end
  unfolding HeldStays
  given_ran_held given c o is held d asks repeats =
      let (tells, same) = held (says given c d is asks repeats) in (told_already o tells, same)

  pub given_refused_held : (given : Told Command) (c : Command) (e : Refusal) (a : Told Answered) → given ≡ Ok c
      → stored.RepeatsStay s c (Err e) end → IsErrAnd a (λ x. x ≡ e) → HeldStays (given_in given) s a end
  unfolding HeldStays
  given_refused_held given c e a is held passed d asks repeats =
      let (tells, same) = held (says given c d is asks repeats) in
      (told_failed a e (failed_already e tells) passed, same)

-- what is answered is replied
held_reply : (a : Told Answered) (reply : Reply) → Tells a reply → TellsHeld a
    → (reply ≡ outcome_reply (Already None)) ⊎ IsUnavailable reply
unfolding Tells
held_reply (Ok x) reply tells held = inl (tells ∙ held)
held_reply (Err e) reply tells held = inr (tells_store (Err e) reply tells held)

pub repeats_stay : (asked : Option Command) (s end : State) (a : Told Answered) (reply : Reply) → Tells a reply
    → HeldStays asked s a end → RepeatsStay asked s reply end
unfolding HeldStays RepeatsStay
repeats_stay asked s end a reply tells held c asks repeats =
    let (told, same) = held c asks repeats in (held_reply a reply tells told, same)

-- ---- a store that is shut

passed_store : (a : Told Answered) (e : Refusal) → IsOfStore e → IsErrAnd a (λ x. x ≡ e) → IsErrAnd a IsOfStore
passed_store (Ok x) e of gone = absurd gone
passed_store (Err x) e of same = subst IsOfStore (sym same) of

module _ (a : Told Answered) where
  pub none_refused : (asked : Option Command) → None ≡ asked → IsRefused asked a
  unfolding IsRefused
  none_refused asked is c asks = absurd (no_command c (is ∙ asks))

  pub refused_as : (given asked : Option Command) → given ≡ asked → IsRefused given a → IsRefused asked a
  refused_as given asked is refused = subst (λ (o : Option Command). IsRefused o a) is refused

  -- whatever was asked for, it was refused because memory ran out, or by the store
  pub store_refused : (asked : Option Command) (e : Refusal) → IsOfStore e → IsErrAnd a (λ x. x ≡ e)
      → IsRefused asked a
  unfolding IsRefused
  store_refused asked e of passed c asks = passed_store a e of passed

  pub not_given_refused : (given : Told Command) (e : Refusal) → (e ≡ NoMemory) ⊎ (given ≡ Err e)
      → IsErrAnd a (λ x. x ≡ e) → IsRefused (given_in given) a
  not_given_refused given e (inr refused) passed = none_refused (given_in given) (sym (in_refused given e refused))
  not_given_refused given e (inl no_memory) passed = store_refused (given_in given) e (inl no_memory) passed

-- what the store answers while it is shut
pub shut_refused : (e : Refusal) → ◌≡◌ {A = Told Outcome} (Err e) (Err StoreRefused) → IsOfStore e
shut_refused e is = inr (same_refusal e StoreRefused is)

pub shut_done : {X : Type 0} (o : Outcome) → ◌≡◌ {A = Told Outcome} (Ok o) (Err StoreRefused) → X
shut_done o is = absurd (no_refusal o StoreRefused is)

pub told_refused : (asked : Option Command) (a : Told Answered) (reply : Reply) → Tells a reply → IsRefused asked a
    → IsToldRefused asked reply
unfolding IsRefused IsToldRefused
told_refused asked a reply tells refused c asks = tells_store a reply tells (refused c asks)

-- ---- a commit that failed

-- a store is not shut before and after at once
pub never : {X : Type 0} (shut : Bool) → shut ≡ false → IsTrue shut → X
never true served shut = absurd (false≢true (sym served))
never false served shut = absurd (false≢true shut)

module _ (s : State) (conn : sqlite.State) where
  pub cut_as : (given asked : Option Command) (a : Told Answered) → given ≡ asked → IsCutOff given s conn a
      → IsCutOff asked s conn a
  cut_as given asked a is cut = subst (λ (o : Option Command). IsCutOff o s conn a) is cut

  pub given_cut_off : (given : Told Command) (c : Command) (e : Refusal) (a : Told Answered) (end : State)
      → given ≡ Ok c → Fails (Err e) → IsErrAnd a (λ x. x ≡ e) → (HasCleanDisk conn → LeavesEither conn s c)
      → end ≡ s → IsCutOff (given_in given) end conn a
  unfolding LeavesAsked
  given_cut_off given c e a end is fails passed leaves same = record {
    refused = passed_store a e (failed e fails) passed;
    leaves = λ clean. (
      c,
      (in_given given c is, subst (λ (t : State). LeavesEither conn t c) (sym same) (leaves clean)),
    );
  }

  pub told_cut_off : (asked : Option Command) (a : Told Answered) (reply : Reply) → Tells a reply
      → IsCutOff asked s conn a → IsToldCutOff asked s conn reply
  told_cut_off asked a reply tells cut = record {
    unavailable = tells_store a reply tells cut.refused;
    leaves = cut.leaves;
  }

-- a command that was done shut nothing
pub done_fails : {X : Type 0} (o : Outcome) → Fails (Ok o) → X
done_fails o (inl no_memory) = absurd (no_refusal o NoMemory no_memory)
done_fails o (inr refused) = absurd (no_refusal o StoreRefused refused)
