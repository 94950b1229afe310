-- What clients change is what the commands change that they ask for, and what a crash leaves is of one of these.
use Rattle.std.proofs.Common.{◌≡◌, Bool, true, false, IsTrue, List, [], ◌∷◌, ◌++◌, Option, inl, inr, refl}
use Rattle.std.proofs.Common.{ap, subst, sym}
use Rattle.std.proofs.lemmas.Bool.{true≢false}
use Rattle.sqlite.specs.State.{HasCleanDisk}
use Rattle.sqlite.specs.State as sqlite
use Rattle.vet_base.specs.Day.{DayValue}
use Rattle.vet_base.specs.Gives.{Told}
use Rattle.vet_http.proofs.DoneLemmas.{by_served}
use Rattle.vet_http.specs.DoneRequests.{IsDone}
use Rattle.vet_http.proofs.ServeLemmas.{without_repeats}
use Rattle.vet_register.specs.Runs.{told}
use Rattle.vet_register.specs.State.{State}
use Rattle.vet_register.specs.declared.command.Command.{Command}
use Rattle.vet_register.specs.declared.command.Outcome.{Outcome}
use Rattle.vet_store.specs.Crash.{LeavesEither}
use Rattle.vet_store.specs.Headline.{HasClasses}
use Rattle.vet_store.specs.Runs.{machine, told_each}
use Rattle.vetd_program.specs.DoneTurns.{AreDone, HasHeadline, IsAskedAmong, IsAskedIn, LeavesWhereShut}
use Rattle.vetd_program.specs.Serving.{Clients, ServesEach, Turn}
use Rattle.vetd_program.specs.declared.clients.arrival.Arrival.{Arrival}
use Rattle.vetd_program.specs.declared.clients.arrival.Arrival.TheVariants.{Client, Failed, Lost}

-- a turn in front that changed nothing
unchanged : (s last : State) (t : Turn) (turns : List Turn) (done : List Command) (outcomes : List (Told Outcome))
    → AreDone s turns done outcomes last → AreDone s (t ∷ turns) done outcomes last
unchanged s last t turns [] [] h = h
unchanged s last t turns (c ∷ done) (o ∷ outcomes) h = inl h
unchanged s last t [] [] (o ∷ outcomes) h = absurd h
unchanged s last t (u ∷ turns) [] (o ∷ outcomes) h = absurd h
unchanged s last t [] (c ∷ done) [] h = absurd h
unchanged s last t (u ∷ turns) (c ∷ done) [] h = absurd h

-- commands that turns had done, and what the machine over them alone comes to and tells
record Done (s : State) (turns : List Turn) (last : State) : Type 0 where
  commands : List Command
  outcomes : List (Told Outcome)
  are_done : AreDone s turns commands outcomes last
  state : last ≡ machine s commands
  same : outcomes ≡ told_each s commands

-- no turn, or one in front that changed nothing
none_done : (s last : State) → last ≡ s → Done s [] last
none_done s last h = record { commands = []; outcomes = []; are_done = h; state = h; same = refl }

not_done : (s last : State) (t : Turn) (turns : List Turn) → Done s turns last → Done s (t ∷ turns) last
not_done s last t turns done = record {
  commands = done.commands;
  outcomes = done.outcomes;
  are_done = unchanged s last t turns done.commands done.outcomes done.are_done;
  state = done.state;
  same = done.same;
}

-- one in front that had a command done
one_done : (s mid last : State) (t : Turn) (turns : List Turn) (c : Command) → IsAskedIn t c → IsDone s c mid
    → Done mid turns last → Done s (t ∷ turns) last
one_done s mid last t turns c asked by done = record {
  commands = c ∷ done.commands;
  outcomes = told s c ∷ done.outcomes;
  are_done = inr (asked, (refl, (mid, (by, done.are_done))));
  state = subst (λ (x : State). last ≡ machine x done.commands) by.1 done.state;
  same = ap (λ (l : List (Told Outcome)). told s c ∷ l)
      (subst (λ (x : State). done.outcomes ≡ told_each x done.commands) by.1 done.same);
}

module _ {N L R W : Type 0} (clients : Clients N L R W) (day : Option DayValue) (l' : L) where
  -- the commands that clients had done
  done_of : (s last : State) (l : L) (came : List (Arrival R W)) (turns : List Turn)
      → ServesEach clients day s l came turns last l' → Done s turns last
  done_of s last l [] [] h = none_done s last h.0
  done_of s last l [] (t ∷ turns) h = absurd h
  done_of s last l (Failed ∷ came) turns (next, (comes, rest)) = done_of s last next came turns rest
  done_of s last l (Lost ∷ []) [] h = none_done s last h.0
  done_of s last l (Lost ∷ []) (t ∷ turns) h = absurd h
  done_of s last l (Lost ∷ next ∷ came) [] h = absurd h
  done_of s last l (Lost ∷ next ∷ came) (t ∷ turns) h = absurd h
  done_of s last l (Client was ∷ came) [] h = absurd h
  done_of s last l (Client was ∷ came) (t ∷ turns) (held, (comes, (mid, (next, (is, rest))))) =
      let done = done_of mid last next came turns rest in
      elim (by_served t.day t.seen t.seen' t.out t.out' s mid t.answer
      (without_repeats t.day t.seen t.seen' t.out t.out' s mid t.answer is.served)) [
        | inl same ↦ not_done s last t turns (subst (λ (x : State). Done x turns last) same done)
        | inr (c, (asked, by)) ↦ one_done s mid last t turns c asked by done
      ]

  pub headline_of : (s last : State) (l : L) (came : List (Arrival R W)) (turns : List Turn)
      → ServesEach clients day s l came turns last l' → HasClasses last → HasHeadline s turns last
  headline_of s last l came turns h classes =
      let found = done_of s last l came turns h in
      record {
        done = found.commands;
        outcomes = found.outcomes;
        are_done = found.are_done;
        machine = found.state;
        same = found.same;
        classes = classes;
      }

-- ---- what a crash leaves

asked_in_front : (turns more : List Turn) (c : Command) → IsAskedAmong turns c → IsAskedAmong (turns ++ more) c
asked_in_front [] more c h = absurd h
asked_in_front (t ∷ turns) more c (inl h) = inl h
asked_in_front (t ∷ turns) more c (inr h) = inr (asked_in_front turns more c h)

asked_behind : (turns more : List Turn) (c : Command) → IsAskedAmong more c → IsAskedAmong (turns ++ more) c
asked_behind [] more c h = h
asked_behind (t ∷ turns) more c h = inr (asked_behind turns more c h)

-- no turn shuts what is as it was
pub never_shut : (shut : Bool) (c : sqlite.State) (s : State) (turns : List Turn) → LeavesWhereShut shut shut c s turns
never_shut true c s turns served shut clean = absurd (true≢false served)
never_shut false c s turns served shut clean = absurd (true≢false (sym shut))

-- a client whose command's commit failed
pub one_leaves : (was shut : Bool) (c : sqlite.State) (s : State) (t : Turn)
    → (was ≡ false → IsTrue shut → HasCleanDisk c
    → (command : Command) × (IsAskedIn t command × LeavesEither c s command))
    → LeavesWhereShut was shut c s (t ∷ [])
one_leaves was shut c s t h served is clean =
    let (command, (asked, leaves)) = h served is clean in (command, (inl asked, leaves))

-- more turns, which leave a shut store as it is
pub leaves_more : (was mid shut : Bool) (c c' : sqlite.State) (s s' : State) (turns more : List Turn)
    → (IsTrue mid → (c' ≡ c) × (s' ≡ s)) → LeavesWhereShut was mid c s turns → LeavesWhereShut mid shut c' s' more
    → LeavesWhereShut was shut c' s' (turns ++ more)
leaves_more was true shut c c' s s' turns more same first second served is clean =
    let h = same refl in
    let (command, (asked, leaves)) = first served refl (subst (λ (x : sqlite.State). HasCleanDisk x) h.0 clean) in (
      command,
      (
        asked_in_front turns more command asked,
        subst (λ (x : State). LeavesEither c' x command) (sym h.1)
            (subst (λ (x : sqlite.State). LeavesEither x s command) (sym h.0) leaves),
      ),
    )
leaves_more was false shut c c' s s' turns more same first second served is clean =
    let (command, (asked, leaves)) = second refl is clean in (command, (asked_behind turns more command asked, leaves))
