-- What was printed as clients were served.
use Rattle.std.proofs.Common.{◌≡◌, ◌≢◌, ℕ, List, [], ◌++◌, true, false, Option, Some, None, Result, Ok, Err}
use Rattle.std.proofs.Common.{IfErr, IfOk, IsErrAnd, OnErr, OnOk, ap, refl, sym, ◌∙◌}
use Rattle.std.specs.Bool.{⊤}
use Rattle.std.proofs.KnownBytes.{Appends-trans, Keeps-refl}
use Rattle.std.specs.Io.KnownBytes.{Appends, Keeps}
use Rattle.vet_base.specs.Words.{Bytes, Text}
use Rattle.vet_http.specs.Output.{AppendsPart}
use Rattle.vet_requests.specs.declared.io_fault.IoFault.{IoFault}
use Rattle.vet_requests.specs.declared.io_fault.IoFault.TheVariants.{Output}
use Rattle.vet_register.specs.Sound.{IsBalanced}
use Rattle.vet_register.specs.State.{State}
use Rattle.vet_store.specs.Classes.{AddsUp, HasClassesOfChains}
use Rattle.vet_store.specs.Headline.{HasClasses}
use Rattle.vetd_words.specs.Answer.{AllCame, Ending, IsWritten, NetworkLost, NoPort, Says, Serves, Stops, Unheard}
use Rattle.vetd_words.specs.Answer.{network_line}
use Rattle.vetd_program.specs.ServeRun.{Answered, IsSitting, IsSittingOf}
use Rattle.vetd_program.specs.Serving.{AreServed, AreServedAt, Clients, HasEnded, ServesEach, Turn, listening_line}
use Rattle.vetd_program.specs.Serving.{printed_by, replied, served_line}
use Rattle.vetd_program.specs.declared.clients.arrival.Arrival.{Arrival}
use Rattle.vetd_words.specs.declared.answer.TheConstants.{PRINTED, REFUSED}
use Rattle.vetd_program.specs.declared.serve_run.Service.{Service}
use Rattle.vetd_words.proofs.Answered.{told_written}
use Rattle.vetd_program.proofs.DoneTurnLemmas.{headline_of}
use Rattle.vetd_program.proofs.Fronts.{front_behind}

-- what is asked of other faults is nothing where there is none but that of a write
not_other : (r : Result ℕ IoFault) (P : Type 0) → IfErr r (λ fault. fault ≡ Output)
    → IfErr r (λ fault. fault ≢ Output → P)
not_other (Ok status) P faults = tt
not_other (Err fault) P faults = λ other. absurd (other faults)

-- an ending of which the line of the network tells
abbrev pub IsOfNetwork : Ending → Type 0
IsOfNetwork NetworkLost = ⊤
IsOfNetwork NoPort = ⊤
IsOfNetwork _ = ⊥

module _ {N L R W : Type 0} (clients : Clients N L R W) (network network' : N) (service : Service)
    (Leaves : List Turn → Type 0) (s end : State) (Untold : Type 0) where
  written_of : (text : Text) (ending : Ending) (sitting : IsSitting clients network network' service Leaves s text
      ending end)
      (r : Result ℕ IoFault) (out out' errors errors' : Option Bytes)
      → IfOk r (λ status. Says (Serves text ending) status out out' errors errors')
      → IfErr r (λ fault. fault ≡ Output → Stops (Serves text ending) out out' errors errors')
      → IfErr r (λ fault. fault ≢ Output → Keeps out out' × Keeps errors errors')
      → IfErr r (λ fault. fault ≢ Output → Untold)
      → IsWritten (Answered (IsSittingOf clients network network' service Leaves s end)) Untold r out out' errors
      errors'
  written_of text ending sitting r out out' errors errors' says stops silent untold =
      told_written (Answered (IsSittingOf clients network network' service Leaves s end)) Untold (Serves text ending)
      (λ Holds holds. (Serves text ending, (sitting, holds))) r out out' errors errors' says stops silent untold

  module _ (text : Text) (out out' errors errors' : Option Bytes) where
    -- the text was printed, and the network was lost
    says_lost : (ending : Ending) → IsOfNetwork ending → (r : Result ℕ IoFault) → Appends out out' text
        → IfOk r (λ status. status ≡ REFUSED) → OnOk r (Appends errors errors' network_line)
        → IfOk r (λ status. Says (Serves text ending) status out out' errors errors')
    says_lost ending is (Err fault) printed status told = tt
    says_lost NetworkLost is (Ok n) printed status told = (status, printed, told)
    says_lost NoPort is (Ok n) printed status told = (status, printed, told)
    says_lost AllCame is (Ok n) printed status told = absurd is
    says_lost Unheard is (Ok n) printed status told = absurd is

    stops_lost : (ending : Ending) → IsOfNetwork ending → (r : Result ℕ IoFault) → Appends out out' text
        → OnErr r (AppendsPart errors errors' network_line)
        → IfErr r (λ fault. fault ≡ Output → Stops (Serves text ending) out out' errors errors')
    stops_lost ending is (Ok n) printed part = tt
    stops_lost NetworkLost is (Err fault) printed part = λ output. (printed, part)
    stops_lost NoPort is (Err fault) printed part = λ output. (printed, part)
    stops_lost AllCame is (Err fault) printed part = absurd is
    stops_lost Unheard is (Err fault) printed part = absurd is

    pub lost_written : (ending : Ending) → IsOfNetwork ending
        → (sitting : IsSitting clients network network' service Leaves s text ending end) (r : Result ℕ IoFault)
        → Appends out out' text
        → IfOk r (λ status. status ≡ REFUSED) → OnOk r (Appends errors errors' network_line)
        → OnErr r (AppendsPart errors errors' network_line) → IfErr r (λ fault. fault ≡ Output)
        → IsWritten (Answered (IsSittingOf clients network network' service Leaves s end)) Untold r out out' errors
        errors'
    lost_written ending is sitting r printed status told part faults =
        written_of text ending sitting r out out' errors errors' (says_lost ending is r printed status told)
        (stops_lost ending is r printed part) (not_other r (Keeps out out' × Keeps errors errors') faults)
        (not_other r Untold faults)

  -- the whole text was printed
  pub whole_written : (text : Text) (sitting : IsSitting clients network network' service Leaves s text AllCame end)
      (out out' errors : Option Bytes)
      → Appends out out' text
      → IsWritten (Answered (IsSittingOf clients network network' service Leaves s end)) Untold (Ok PRINTED) out out'
      errors errors
  whole_written text sitting out out' errors printed =
      written_of text AllCame sitting (Ok PRINTED) out out' errors errors (refl, printed, Keeps-refl errors) tt tt tt

  -- a front of it was, and then a write failed
  pub part_written : (text : Text) (ending : Ending) → (sitting : IsSitting clients network network' service Leaves s
      text ending end)
      (r : Result ℕ IoFault) (fault : IoFault) (out out' errors : Option Bytes) → IsErrAnd r (λ f. f ≡ fault)
      → fault ≡ Output → Stops (Serves text ending) out out' errors errors
      → IsWritten (Answered (IsSittingOf clients network network' service Leaves s end)) Untold r out out' errors errors
  part_written text ending sitting (Ok n) fault out out' errors is output part = absurd is
  part_written text ending sitting (Err f) fault out out' errors is output part =
      let failed : f ≡ Output = is ∙ output in
      written_of text ending sitting (Err f) out out' errors errors tt (λ _. part)
      (λ other. absurd (other failed)) (λ other. absurd (other failed))

pub classes_of : (s : State) → HasClassesOfChains s → AddsUp s → IsBalanced s → HasClasses s
classes_of s classes adds_up balance = record { classes = classes; adds_up = adds_up; balance = balance }

module _ {N L R W : Type 0} (clients : Clients N L R W) (network network' : N) (service : Service)
    (Leaves : List Turn → Type 0) (s : State) where
  -- nobody was served
  none_served : HasClasses s → Leaves [] → (text : Text) (ending : Ending)
      → HasEnded clients service.day service.port service.connections network s [] [] s network' ending
      → text ≡ printed_by service.port [] ending
      → IsSitting clients network network' service Leaves s text ending s
  none_served classes leaves text ending ended printed = record {
    came = [];
    turns = [];
    ended = ended;
    printed = printed;
    headline = record {
      done = [];
      outcomes = [];
      are_done = refl;
      machine = refl;
      same = refl;
      classes = classes;
    };
    leaves = leaves;
  }

  -- the port couldn't be had
  pub no_port : HasClasses s → Leaves [] → clients.may_listen network service.port None network'
      → IsSitting clients network network' service Leaves s [] NoPort s
  no_port classes leaves none = none_served classes leaves [] NoPort (none, (refl, (refl, refl))) refl

  module _ (listener last : L) (listening : N) (listens : clients.may_listen network service.port (Some listener)
      listening)
      (closes : clients.may_close listening last network') where
    served_at : (came : List (Arrival R W)) (turns : List Turn) (end : State)
        → ServesEach clients service.day s listener came turns end last
        → AreServedAt clients service.day service.port network s came turns end network'
    served_at came turns end one_by_one = record {
      listener = listener;
      listening = listening;
      listens = listens;
      last = last;
      one_by_one = one_by_one;
      closes = closes;
    }

    -- the first line can't be printed
    pub unheard : last ≡ listener → HasClasses s → Leaves [] → (Untold : Type 0)
        (r : Result ℕ IoFault) (fault : IoFault) (line : Text)
        (out out' errors : Option Bytes) → line ≡ listening_line service.port → IsErrAnd r (λ f. f ≡ fault)
        → fault ≡ Output → AppendsPart out out' line
        → IsWritten (Answered (IsSittingOf clients network network' service Leaves s s)) Untold r out out' errors errors
    unheard same classes leaves Untold r fault line out out' errors is failed output part =
        part_written clients network network' service Leaves s s Untold line Unheard
        (none_served classes leaves line Unheard (served_at [] [] s (refl, same), refl) is) r fault out out' errors
        failed output (part, Keeps-refl errors)

    -- clients were served
    module _ (end : State) (classes : HasClasses end) (Untold : Type 0) where
      pub lost_in_between : (served : AreServed clients service.day service.connections s listener true end last)
          → Leaves served.turns
          → (line : Text) (r : Result ℕ IoFault) (out out' errors errors' : Option Bytes)
          → line ≡ listening_line service.port → Appends out out' line → IfOk r (λ status. status ≡ REFUSED)
          → OnOk r (Appends errors errors' network_line) → OnErr r (AppendsPart errors errors' network_line)
          → IfErr r (λ fault. fault ≡ Output)
          → IsWritten (Answered (IsSittingOf clients network network' service Leaves s end)) Untold r out out' errors
          errors'
      lost_in_between served leaves line r out out' errors errors' is printed =
          lost_written clients network network' service Leaves s end Untold line out out' errors errors' NetworkLost tt
          (record {
            came = served.came;
            turns = served.turns;
            ended = (
              served_at served.came served.turns end served.one_by_one,
              (served.few, sym served.found),
            );
            printed = is;
            headline = headline_of clients service.day last s end listener served.came served.turns served.one_by_one
                classes;
            leaves = leaves;
          }) r printed

      module _ (served : AreServed clients service.day service.connections s listener false end last)
          (leaves : Leaves served.turns) (line more : Text) (is : line ≡ listening_line service.port)
          (ends : more ≡ served_line (replied served.turns)) where
        sat : IsSitting clients network network' service Leaves s (line ++ more) AllCame end
        sat = record {
          came = served.came;
          turns = served.turns;
          ended = (
            served_at served.came served.turns end served.one_by_one,
            (served.all refl, sym served.found),
          );
          printed = ap (λ (l : Text). l ++ more) is
              ∙ ap (λ (l : Text). listening_line service.port ++ l) ends;
          headline = headline_of clients service.day last s end listener served.came served.turns served.one_by_one
              classes;
          leaves = leaves;
        }

        pub sat_whole : (out mid out' errors : Option Bytes) → Appends out mid line → Appends mid out' more
            → IsWritten (Answered (IsSittingOf clients network network' service Leaves s end)) Untold (Ok PRINTED) out
            out' errors errors
        sat_whole out mid out' errors first second =
            whole_written clients network network' service Leaves s end Untold (line ++ more) sat out out' errors
            (Appends-trans out mid out' line more first second)

        pub sat_in_part : (r : Result ℕ IoFault) (fault : IoFault) (out mid out' errors : Option Bytes)
            → IsErrAnd r (λ f. f ≡ fault) → fault ≡ Output → Appends out mid line → AppendsPart mid out' more
            → IsWritten (Answered (IsSittingOf clients network network' service Leaves s end)) Untold r out out' errors
            errors
        sat_in_part r fault out mid out' errors failed output first part =
            part_written clients network network' service Leaves s end Untold (line ++ more) AllCame sat r fault out
            out'
            errors failed output (front_behind out mid out' line more first part, Keeps-refl errors)
