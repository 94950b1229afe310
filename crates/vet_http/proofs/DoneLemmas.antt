-- What a connection changes is what the command changes that it asks for.
use Rattle.std.proofs.Common.{◌≡◌, ◌⊎◌, List, [], ◌∷◌, Option, Some, None, Result, Ok, Err, IsTrue, inl, inr}
use Rattle.std.proofs.Common.{refl, subst, ◌∙◌}
use Rattle.vet_base.specs.Day.{DayValue}
use Rattle.vet_base.specs.Gives.{Told, ◌>>=◌}
use Rattle.vet_base.specs.Words.{Bytes}
use Rattle.vet_http.specs.Answer.{IsByMethod, IsByRoute, IsRun}
use Rattle.vet_http.specs.AskedFor.{given_at, given_by, given_in}
use Rattle.vet_http.specs.DoneRequests.{AreDone, IsAskedBy, IsDone, IsOfDone}
use Rattle.vet_http.specs.Given.{given_told}
use Rattle.vet_http.specs.Serve.{Each, IsServed, IsTurn, Replies}
use Rattle.vet_http.specs.declared.serve.Connection.{Connection}
use Rattle.vet_http.specs.declared.serve.Served.{Served}
use Rattle.vet_register.specs.Runs.{left, outcome_by}
use Rattle.vet_register.specs.State.{State}
use Rattle.vet_register.specs.Verdict.{verdict}
use Rattle.vet_register.specs.declared.command.Command.{Command}
use Rattle.vet_register.specs.declared.verdict.Answer.{Answer}
use Rattle.vet_register.specs.declared.verdict.Answer.TheVariants.{Already, Accepted}
use Rattle.vet_requests.specs.Input.{Hands, Heard}
use Rattle.vet_requests.specs.Path.{route_of}
use Rattle.vet_requests.specs.Request.{RequestValue}
use Rattle.vet_requests.specs.Route.{asked_at, asked_by}
use Rattle.vet_requests.specs.declared.io_fault.IoFault.{IoFault}
use Rattle.vet_requests.specs.declared.io_fault.IoFault.TheVariants.{Input, Output, Endless, NoMemory}
use Rattle.vet_requests.specs.declared.reply.Reply.{Reply}
use Rattle.vet_requests.specs.declared.route.RouteAction.{RouteAction}
use Rattle.vet_requests.specs.declared.route.RouteAction.TheVariants.{Runs, Shows}
use Rattle.vet_requests.specs.declared.route.Route.{Route}
use Rattle.vet_store.specs.Runs.{is_done, machine}

-- a state stays, or a command of these that is done leads to the other
abbrev Settles : Option Command → State → State → Type 0
Settles given s end = (end ≡ s) ⊎ ((c : Command) × ((given ≡ Some c) × IsDone s c end))

by_verdict : (s : State) (c : Command) (v : Told Answer)
    → (left s c v ≡ s) ⊎ IsTrue (is_done (v >>= λ answer. Ok (outcome_by s c answer)))
by_verdict s c (Ok Accepted) = inr refl
by_verdict s c (Ok (Already number)) = inl refl
by_verdict s c (Err e) = inl refl

by_run : (t : Told Command) (s end : State) (reply : Reply) → IsRun t s reply end → Settles (given_in t) s end
unfolding IsRun given_in
by_run (Err e) s end reply run = inl run.1
by_run (Ok c) s end reply run = elim (by_verdict s c (verdict s c)) [
  | inl same ↦ inl (run.1 ∙ same)
  | inr done ↦ inr (c, (refl, (done, run.1)))
]

by_asked : (day : DayValue) (r : RequestValue) (route : Route) (asked : Option RouteAction) (s end : State)
    (reply : Reply) → IsByMethod route asked day r s reply end → Settles (given_by day r asked) s end
unfolding IsByMethod given_by
by_asked day r route None s end reply h = inl h.1
by_asked day r route (Some (Shows what)) s end reply h = inl h.1
by_asked day r route (Some (Runs given)) s end reply h = by_run (given_told given day r.target r) s end reply h

by_route : (day : DayValue) (r : RequestValue) (route : Option Route) (s end : State) (reply : Reply)
    → IsByRoute route day r s reply end → Settles (given_at day r route) s end
unfolding IsByRoute given_at
by_route day r None s end reply h = inl h.1
by_route day r (Some route) s end reply h = by_asked day r route (asked_by r.method (asked_at route)) s end reply h

-- what one connection changes
abbrev Gives : DayValue → Heard → Heard → State → State → Type 0
Gives day seen seen' s end = (end ≡ s) ⊎ ((c : Command) × (IsAskedBy day seen seen' c × IsDone s c end))

by_reply : (day : DayValue) (seen seen' : Heard) (bytes : Bytes) (s end : State) (reply : Reply)
    → Hands seen seen' bytes → Replies day s end reply bytes → Gives day seen seen' s end
by_reply day seen seen' bytes s end reply hands (Err fault, (requests, stays)) = inl stays.1
by_reply day seen seen' bytes s end reply hands (Ok r, (requests, inr (unavailable, same))) = inl same
by_reply day seen seen' bytes s end reply hands (Ok r, (requests, inl h)) =
    elim (by_route day r (route_of r.target) s end reply h) [
      | inl same ↦ inl same
      | inr (c, (given, done)) ↦ inr (
        c,
        (record { bytes = bytes; hands = hands; request = r; requests = requests; asks = given }, done),
      )
    ]

pub by_served : (day : DayValue) (seen seen' : Heard) (out out' : Option Bytes) (s end : State)
    (answer : Result Served IoFault)
    → IsServed day seen seen' out out' s answer end → Gives day seen seen' s end
by_served day seen seen' out out' s end (Ok served) h =
    by_reply day seen seen' h.read.bytes s end h.reply h.read.hands h.read.told
by_served day seen seen' out out' s end (Err Output) h =
    by_reply day seen seen' h.read.bytes s end h.reply h.read.hands h.read.told
by_served day seen seen' out out' s end (Err Input) h = inl h.0
by_served day seen seen' out out' s end (Err Endless) h = inl h.0
by_served day seen seen' out out' s end (Err NoMemory) h = inl h.0

module _ {R W : Type 0} (remaining : R → Option Bytes) (contents : W → Option Bytes) where
  -- a connection in front that changed nothing
  unchanged : (s last : State) (was left : Connection R W) (before behind : List (Connection R W))
      (done : List Command) → AreDone remaining s before behind done last
      → AreDone remaining s (was ∷ before) (left ∷ behind) done last
  unchanged s last was left before behind [] h = h
  unchanged s last was left before behind (c ∷ done) h = inl h

  pub of_turns : (s last : State) (before behind : List (Connection R W)) (answers : List (Result Served IoFault))
      → Each (IsTurn remaining contents) s before behind answers last → IsOfDone remaining s before behind last
  of_turns s last [] [] [] h = ([], (h, h))
  of_turns s last [] (d ∷ behind) answers h = absurd h
  of_turns s last [] [] (a ∷ answers) h = absurd h
  of_turns s last (was ∷ before) [] answers h = absurd h
  of_turns s last (was ∷ before) (d ∷ behind) [] h = absurd h
  of_turns s last (was ∷ before) (d ∷ behind) (a ∷ answers) (mid, (turn, rest)) =
      let (done, (are, ends)) = of_turns mid last before behind answers rest in
      elim (by_served was.day _ _ _ _ s mid a turn) [
        | inl same ↦ (
          done,
          (
            unchanged s last was d before behind done
                (subst (λ (t : State). AreDone remaining t before behind done last) same are),
            subst (λ (t : State). last ≡ machine t done) same ends,
          ),
        )
        | inr (c, (asked, by)) ↦ (
          c ∷ done,
          (inr (asked, (mid, (by, are))), subst (λ (t : State). last ≡ machine t done) by.1 ends),
        )
      ]
