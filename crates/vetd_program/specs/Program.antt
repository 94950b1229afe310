-- The answer of the program, command by command (ours).
use Rattle.std.specs.Prelude.{◌≡◌, List, Option, None, codes, if◌then◌else◌, ⊤}
use Rattle.clap.specs.Walk.{Text}
use Rattle.sqlite.specs.Held.{Held}
use Rattle.sqlite_trees.specs.declared.store.Store.{Ghosts}
use Rattle.vet_requests.specs.Input.{Heard}
use Rattle.vetd_commands.specs.Applying.{AnswersApply, IsUnapplied, day_given}
use Rattle.vetd_commands.specs.Making.{AnswersNew, Giving, IsUnmade}
use Rattle.vetd_program.specs.ServeRun.{AnswersServe, IsUnserved}
use Rattle.vetd_program.specs.Serving.{Clients}
use Rattle.vetd_commands.specs.Viewing.{AnswersView, IsUntold}
use Rattle.vetd_program.specs.declared.program.ProgramCommand.{ProgramCommand}
use Rattle.vetd_program.specs.declared.program.ProgramCommand.TheVariants.{Apply, File, New, Serve, Show}
use Rattle.vetd_words.specs.Answer.{Answer, Answers}
use Rattle.vetd_words.specs.ApplyGiven.{apply_given}
use Rattle.vetd_words.specs.Asked.{asked_by}
use Rattle.vetd_words.specs.NewAsked.{AsksNew, NewAsked}
use Rattle.vetd_words.specs.ServeAsked.{AsksServe, ServeAsked}
use Rattle.vetd_words.specs.ViewWords.{view_given}
use Rattle.vetd_words.specs.Words.{begins_with}
use Rattle.vetd_words.specs.declared.asked.CommandKind.TheVariants.{Class, Read}
use Rattle.vetd_words.specs.declared.view_words.ViewCommand.TheVariants.{Export, Report}

-- the command that words are to be, by the first of them
abbrev pub command_of : List Text → ProgramCommand
command_of words =
    if begins_with (codes "read") words then File Read
    else (if begins_with (codes "new") words then New
    else (if begins_with (codes "apply") words then Apply
    else (if begins_with (codes "report") words then Show Report
    else (if begins_with (codes "export") words then Show Export
    else (if begins_with (codes "serve") words then Serve else File Class)))))

module _ {S : Type 0} (g : Ghosts S) (Gives Finds : Giving S) {N L R W : Type 0} (clients : Clients N L R W)
    (network network' : N) (seen seen' : Heard) (words : List Text) (left : Option (Held S)) where
  -- this holds of the answer to the words, the input, what a path gives or finds, and the clients that come
  abbrev pub AnswersAs : ProgramCommand → (Answer → Type 0) → Type 0
  AnswersAs (File kind) Holds = Answers seen seen' (asked_by kind words) Holds × (left ≡ None)
  AnswersAs New Holds = AnswersNew g Gives words left Holds
  AnswersAs Apply Holds = AnswersApply g Finds seen seen' (apply_given words) left Holds
  AnswersAs (Show command) Holds = AnswersView g Finds (view_given command words) left Holds
  AnswersAs Serve Holds = AnswersServe g Finds clients network network' words left Holds

  -- after a run without an answer, this holds of the connection that is left
  abbrev pub IsUntoldAs : ProgramCommand → Type 0
  IsUntoldAs (File kind) = left ≡ None
  IsUntoldAs New = IsUnmade g Gives words left
  IsUntoldAs Apply = IsUnapplied g Finds seen seen' (apply_given words) left
  IsUntoldAs (Show command) = IsUntold g Finds (view_given command words) left
  IsUntoldAs Serve = (network' ≡ network) × IsUnserved g Finds words left

-- the words are not such a command
abbrev pub AsksNothing : ProgramCommand → List Text → Type 0
AsksNothing (File kind) words = asked_by kind words ≡ None
AsksNothing New words = (asked : NewAsked) → AsksNew words asked → ⊥
AsksNothing Apply words = apply_given words ≡ None
AsksNothing (Show command) words = view_given command words ≡ None
AsksNothing Serve words = (asked : ServeAsked) → AsksServe words asked → ⊥

-- the words ask for none of the input
abbrev pub AsksNoInput : ProgramCommand → List Text → Type 0
AsksNoInput (File kind) words = asked_by kind words ≡ None
AsksNoInput New words = ⊤
AsksNoInput Apply words = day_given (apply_given words) ≡ None
AsksNoInput (Show command) words = ⊤
AsksNoInput Serve words = ⊤
