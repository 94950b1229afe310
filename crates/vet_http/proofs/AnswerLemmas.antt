-- From what the machine tells a command to the reply.
use Rattle.std.proofs.Common.{◌≡◌, ◌∙◌, ◌⊎◌, inl, inr, Option, Some, None, Result, Ok, Err, IfErr, IfOk, IsErrAnd}
use Rattle.std.proofs.Common.{IsUtf8, OnErr, true, ap, refl, subst, sym}
use Rattle.std.proofs.lemmas.Bool.{cases_Bool}
use Rattle.std.proofs.lemmas.Str.{IsUtf8-from_is_utf8, is_utf8-from_IsUtf8}
use Rattle.std.specs.Str.{is_utf8}
use Rattle.vet_base.specs.Day.{DayValue}
use Rattle.vet_base.specs.Gives.{Told, ◌>>=◌}
use Rattle.vet_base.specs.Words.{Bytes}
use Rattle.vet_base.specs.declared.refusal.Refusal.{Refusal}
use Rattle.vet_base.specs.declared.refusal.Refusal.TheVariants.{NoMemory, StoreRefused}
use Rattle.vet_http.specs.Answer.{IsByMethod, IsByRoute, IsRun, IsUnavailable}
use Rattle.vet_http.specs.Answered.{Tells, reply_of}
use Rattle.vet_http.specs.Given.{given_told}
use Rattle.vet_http.specs.Shown.{IsShown}
use Rattle.vet_http.specs.Told.{command_reply, outcome_reply, refusal_reply}
use Rattle.vet_http.specs.declared.answer.Answered.{Answered}
use Rattle.vet_http.specs.declared.answer.Answered.TheVariants as answered
use Rattle.vet_register.specs.Runs.{after, left, outcome_by, told}
use Rattle.vet_register.specs.State.{State}
use Rattle.vet_register.specs.Verdict.{verdict}
use Rattle.vet_register.specs.declared.command.Command.{Command}
use Rattle.vet_register.specs.declared.command.Outcome.{Outcome}
use Rattle.vet_register.specs.declared.verdict.Answer.{Answer}
use Rattle.vet_register.specs.declared.verdict.Answer.TheVariants.{Accepted, Already}
use Rattle.vet_requests.specs.Reply.{not_allowed, plain_reply}
use Rattle.vet_requests.specs.Request.{RequestValue}
use Rattle.vet_requests.specs.Route.{asked_at, asked_by, told_methods}
use Rattle.vet_requests.specs.Path.{route_at, route_of}
use Rattle.vet_requests.specs.declared.reply.Reply.{Reply}
use Rattle.vet_requests.specs.declared.route.RouteAction.{RouteAction}
use Rattle.vet_requests.specs.declared.route.RouteAction.TheVariants.{Runs, Shows}
use Rattle.vet_requests.specs.declared.route.BodyKind.{BodyKind}
use Rattle.vet_requests.specs.declared.route.Route.{Route}
use Rattle.vet_requests.specs.declared.route.Shown.{Shown}
use Rattle.vet_requests.specs.declared.status.Status.TheVariants as status
use Rattle.vet_store.specs.Runs.{IsOfStore, IsTurn}

pub same_refusal : {A E : Type 0} (x y : E) → ◌≡◌ {A = Result A E} (Err x) (Err y) → x ≡ y
same_refusal x y h = cc h

pub no_refusal : {A E : Type 0} (x : A) (e : E) → ◌≡◌ {A = Result A E} (Ok x) (Err e) → ⊥
no_refusal x e h = cc h

stays_by : (s : State) (c : Command) (e : Refusal) (v : Told Answer)
    → (v >>= λ answer. Ok (outcome_by s c answer)) ≡ Err e → left s c v ≡ s
stays_by s c e (Ok Accepted) h = absurd (no_refusal (outcome_by s c Accepted) e h)
stays_by s c e (Ok (Already number)) h = absurd (no_refusal (outcome_by s c (Already number)) e h)
stays_by s c e (Err other) h = refl

-- a refused command leaves the state
stays : (s : State) (c : Command) (e : Refusal) → told s c ≡ Err e → after s c ≡ s
stays s c e h = stays_by s c e (verdict s c) h

-- ---- a command

-- a command that was not refused was told its verdict
ran : (s : State) (c : Command) (o : Outcome) (end : State) → IsTurn s c (Ok o) end
    → IsRun (Ok c) s (outcome_reply o) end
unfolding IsRun
ran s c o end (inl (told_so, after_it)) = (ap command_reply told_so, after_it)
ran s c o end (inr (inl no_memory, same)) = absurd (no_refusal o NoMemory no_memory)
ran s c o end (inr (inr refused, same)) = absurd (no_refusal o StoreRefused refused)

-- one that was refused left the state
pub left_by : (s : State) (c : Command) (e : Refusal) (end : State) → IsTurn s c (Err e) end → end ≡ s
left_by s c e end (inl (told_so, after_it)) = after_it ∙ stays s c e (sym told_so)
left_by s c e end (inr (fails, same)) = same

-- and was told so by its verdict, or by the store
refused_by : (s : State) (c : Command) (e : Refusal) (end : State) → IsTurn s c (Err e) end
    → IsOfStore e ⊎ IsRun (Ok c) s (refusal_reply e) s
unfolding IsRun
refused_by s c e end (inl (told_so, after_it)) = inr (ap command_reply told_so, sym (stays s c e (sym told_so)))
refused_by s c e end (inr (inl no_memory, same)) = inl (inl (same_refusal e NoMemory no_memory))
refused_by s c e end (inr (inr refused, same)) = inl (inr (same_refusal e StoreRefused refused))

module _ (given : Told Command) (s : State) where
  -- one that was not given is told so, unless memory was wanting
  pub not_given : (e : Refusal) → (e ≡ NoMemory) ⊎ (given ≡ Err e) → IsOfStore e ⊎ IsRun given s (refusal_reply e) s
  unfolding IsRun
  not_given e (inl no_memory) = inl (inl no_memory)
  not_given e (inr refused) =
      inr (subst (λ (g : Told Command). IsRun g s (refusal_reply e) s) (sym refused) (refl, refl))

  -- one that was given and not refused is told its verdict
  pub given_ran : (c : Command) (o : Outcome) (end : State) → given ≡ Ok c → IsTurn s c (Ok o) end
      → IsRun given s (outcome_reply o) end
  given_ran c o end is turn =
      subst (λ (g : Told Command). IsRun g s (outcome_reply o) end) (sym is) (ran s c o end turn)

  -- and one that was refused is told so by its verdict, or by the store
  pub given_refused : (c : Command) (e : Refusal) (end : State) → given ≡ Ok c → IsTurn s c (Err e) end
      → IsOfStore e ⊎ IsRun given s (refusal_reply e) s
  given_refused c e end is turn =
      subst (λ (g : Told Command). IsOfStore e ⊎ IsRun g s (refusal_reply e) s) (sym is) (refused_by s c e end turn)

-- a refusal is passed on
pub passed_on : {T : Type 0} (Holds : Refusal → Type 0) (e : Refusal) (r : Result T Refusal)
    → IsErrAnd r (λ x. x ≡ e) → Holds e → IfErr r Holds
passed_on Holds e (Ok x) gone h = absurd gone
passed_on Holds e (Err x) same h = subst Holds (sym same) h

pub on_err : {T E : Type 0} (r : Result T E) (P : Type 0) → P → OnErr r P
on_err (Ok x) P h = tt
on_err (Err e) P h = h

-- ---- a route

-- what is asked by the method of a request
pub asks : (method given : Bytes) (route : Route) (asked : Option RouteAction) (x y : RouteAction)
    → asked ≡ asked_by given (asked_at route) → given ≡ method → asked ≡ Some x → x ≡ y
    → asked_by method (asked_at route) ≡ Some y
asks method given route asked x y told is some same =
    ap (λ (m : Bytes). asked_by m (asked_at route)) (sym is) ∙ sym told ∙ some
    ∙ ap (λ (z : RouteAction). Some z) same

pub asks_nothing : (method given : Bytes) (route : Route) (asked : Option RouteAction)
    → asked ≡ asked_by given (asked_at route) → given ≡ method → asked ≡ None
    → asked_by method (asked_at route) ≡ None
asks_nothing method given route asked told is none =
    ap (λ (m : Bytes). asked_by m (asked_at route)) (sym is) ∙ sym told ∙ none

module _ (route : Route) (asked : Option RouteAction) (day : DayValue) (r : RequestValue) (s : State) where
  -- what is asked is shown
  pub by_shown : (what given : Shown) (text : Bytes) (held : State) (reply : Reply) → asked ≡ Some (Shows what)
      → given ≡ what → text ≡ r.target → held ≡ s → IsShown given text held reply
      → IsByMethod route asked day r s reply s
  unfolding IsByMethod
  by_shown what given text held reply is same is_text is_held shown =
      subst (λ (o : Option RouteAction). IsByMethod route o day r s reply s) (sym is) (
        subst (λ (t : Bytes). IsShown what t s reply) is_text
            (subst (λ (t : State). IsShown what text t reply) is_held
            (subst (λ (x : Shown). IsShown x text held reply) same shown)),
        refl,
      )

  -- or it is run
  pub by_run : (what given : BodyKind) (text : Bytes) (reply : Reply) (end : State) → asked ≡ Some (Runs what)
      → given ≡ what → text ≡ r.target → IsRun (given_told given day text r) s reply end
      → IsByMethod route asked day r s reply end
  unfolding IsByMethod
  by_run what given text reply end is same is_text run =
      subst (λ (o : Option RouteAction). IsByMethod route o day r s reply end) (sym is)
      (subst (λ (t : Bytes). IsRun (given_told what day t r) s reply end) is_text
      (subst (λ (x : BodyKind). IsRun (given_told x day text r) s reply end) same run))

  -- what is refused is of the store, or is told so
  pub shown_refused : (what given : Shown) (text : Bytes) (held : State) (e : Refusal) → asked ≡ Some (Shows what)
      → given ≡ what → text ≡ r.target → held ≡ s → (e ≡ NoMemory) ⊎ IsShown given text held (refusal_reply e)
      → IsOfStore e ⊎ IsByMethod route asked day r s (refusal_reply e) s
  shown_refused what given text held e is same is_text is_held (inl no_memory) = inl (inl no_memory)
  shown_refused what given text held e is same is_text is_held (inr shown) =
      inr (by_shown what given text held (refusal_reply e) is same is_text is_held shown)

  pub run_refused : (what given : BodyKind) (text : Bytes) (e : Refusal) → asked ≡ Some (Runs what) → given ≡ what
      → text ≡ r.target → IsOfStore e ⊎ IsRun (given_told given day text r) s (refusal_reply e) s
      → IsOfStore e ⊎ IsByMethod route asked day r s (refusal_reply e) s
  run_refused what given text e is same is_text (inl of_store) = inl of_store
  run_refused what given text e is same is_text (inr run) =
      inr (by_run what given text (refusal_reply e) s is same is_text run)

  -- or the route lacks the method
  pub by_none : (reply : Reply) → asked ≡ None → reply ≡ not_allowed (told_methods (asked_at route))
      → IsByMethod route asked day r s reply s
  unfolding IsByMethod
  by_none reply is lacks =
      subst (λ (o : Option RouteAction). IsByMethod route o day r s reply s) (sym is) (lacks, refl)

module _ (found : Option Route) (day : DayValue) (r : RequestValue) (s : State) where
  -- at a route the method is looked at
  pub at_route : (route : Route) (reply : Reply) (end : State) → found ≡ Some route
      → IsByMethod route (asked_by r.method (asked_at route)) day r s reply end → IsByRoute found day r s reply end
  unfolding IsByRoute
  at_route route reply end is by_method =
      subst (λ (o : Option Route). IsByRoute o day r s reply end) (sym is) by_method

  -- what is refused there is of the store, or is told so
  pub refused_at : (route : Route) (e : Refusal) → found ≡ Some route
      → IsOfStore e ⊎ IsByMethod route (asked_by r.method (asked_at route)) day r s (refusal_reply e) s
      → IsOfStore e ⊎ IsByRoute found day r s (refusal_reply e) s
  refused_at route e is (inl of_store) = inl of_store
  refused_at route e is (inr by_method) = inr (at_route route (refusal_reply e) s is by_method)

  -- without one nothing is found, and nothing is changed
  pub at_none : (reply : Reply) → found ≡ None → reply ≡ plain_reply status.NotFound → IsByRoute found day r s reply s
  unfolding IsByRoute
  at_none reply is as_told = subst (λ (o : Option Route). IsByRoute o day r s reply s) (sym is) (as_told, refl)

-- a target that is a text has the route of the text
route_of_text : (target : Bytes) → IsUtf8 target → route_of target ≡ route_at target
route_of_text target text = let told : is_utf8 target ≡ true = is_utf8-from_IsUtf8 target text in rw told refl

pub same_route : (target given text : Bytes) → IsUtf8 given → text ≡ given → given ≡ target
    → route_at text ≡ route_of target
same_route target given text utf8 same is =
    ap route_at (same ∙ is) ∙ sym (route_of_text target (subst IsUtf8 is utf8))

-- one that is none has none
pub no_route : (target given : Bytes) → (IsUtf8 given → ⊥) → given ≡ target → route_of target ≡ None
no_route target given none is = elim (cases_Bool (is_utf8 target)) [
  | inl text ↦ absurd (none (subst IsUtf8 (sym is) (IsUtf8-from_is_utf8 target text)))
  | inr other ↦ rw other refl
]

-- ---- the reply

-- a reply is told as it is
pub tells_reply : (a : Told Answered) (x : Answered) (reply told : Reply) → a ≡ Ok x → x ≡ answered.Reply reply
    → told ≡ reply → Tells a told
unfolding Tells
tells_reply a x reply told is_ok is_reply same =
    subst (λ (t : Told Answered). Tells t told) (sym is_ok) (same ∙ sym (ap reply_of is_reply))

-- an outcome is told in the room
pub tells_outcome : (a : Told Answered) (x : Answered) (o : Outcome) (told : Reply) → a ≡ Ok x
    → x ≡ answered.Outcome o → told ≡ outcome_reply o → Tells a told
unfolding Tells
tells_outcome a x o told is_ok is_outcome same =
    subst (λ (t : Told Answered). Tells t told) (sym is_ok) (same ∙ sym (ap reply_of is_outcome))

-- and so is a refusal
pub tells_refusal : (a : Told Answered) (e : Refusal) (told : Reply) → a ≡ Err e
    → (told ≡ refusal_reply e) ⊎ (told ≡ refusal_reply NoMemory) → Tells a told
unfolding Tells
tells_refusal a e told is_err same = subst (λ (t : Told Answered). Tells t told) (sym is_err) same

module _ (Is : Reply → State → Type 0) (s end : State) (reply : Reply) where
  -- what is answered is the reply, or the register is unavailable
  pub replied : (a : Told Answered) → Tells a reply → IfOk a (λ x. Is (reply_of x) end)
      → IfErr a (λ e. IsOfStore e ⊎ Is (refusal_reply e) s) → OnErr a (end ≡ s)
      → Is reply end ⊎ (IsUnavailable reply × (end ≡ s))
  unfolding Tells
  replied (Ok x) tells answer refused err = inl (subst (λ (y : Reply). Is y end) (sym tells) answer)
  replied (Err e) (inr no_memory) answer refused err = inr (inl no_memory, err)
  replied (Err e) (inl tells) answer (inl (inl memory)) err = inr (inl (tells ∙ ap refusal_reply memory), err)
  replied (Err e) (inl tells) answer (inl (inr store)) err = inr (inr (tells ∙ ap refusal_reply store), err)
  replied (Err e) (inl tells) answer (inr told_so) err =
      inl (subst (λ (y : Reply). Is y end) (sym tells)
      (subst (λ (t : State). Is (refusal_reply e) t) (sym err) told_so))

-- where the store refused, it tells so
pub tells_store : (a : Told Answered) (reply : Reply) → Tells a reply → IsErrAnd a IsOfStore → IsUnavailable reply
unfolding Tells
tells_store (Ok x) reply tells gone = absurd gone
tells_store (Err e) reply (inr no_memory) of_store = inl no_memory
tells_store (Err e) reply (inl tells) (inl memory) = inl (tells ∙ ap refusal_reply memory)
tells_store (Err e) reply (inl tells) (inr store) = inr (tells ∙ ap refusal_reply store)
