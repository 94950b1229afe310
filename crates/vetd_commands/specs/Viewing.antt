-- The text that is printed of a register whose rows are in tables, and the answer (ours).
use Rattle.std.specs.Prelude.{◌≡◌, ◌⊎◌, Option, Some, None, Ok, Err, ⊤}
use Rattle.clap.specs.Walk.{Text}
use Rattle.sqlite.specs.Held.{Held}
use Rattle.sqlite_trees.specs.declared.store.Store.{Ghosts}
use Rattle.vet_base.specs.declared.refusal.Refusal.{Refusal}
use Rattle.vet_base.specs.declared.refusal.Refusal.TheVariants.{NoMemory}
use Rattle.vet_register.specs.State.{State}
use Rattle.vetd_commands.specs.Making.{Giving}
use Rattle.vetd_commands.specs.Opening.{IsNotOpened, IsOpenedAs}
use Rattle.vetd_words.specs.Answer.{Answer, Explains, Prints, Refuses, Serves}
use Rattle.vetd_words.specs.View.{Shows}
use Rattle.vetd_words.specs.ViewWords.{ViewAsked}
use Rattle.vetd_words.specs.declared.view.View.{View}

-- a text shows the register that was opened
pub record IsShown {S : Type 0} (g : Ghosts S) (before : Held S) (view : View) (text : Text) (after : Held S) : Type 0
  where
    pub register : State
    pub opened : IsOpenedAs g before register after
    pub shows : Shows view register text

-- there is no text: no register was opened, or one was opened and memory ran out for the text
abbrev pub IsNotShown : {S : Type 0} → Ghosts S → Held S → Refusal → Held S → Type 0
IsNotShown g before refusal after =
    IsNotOpened g before refusal after
    ⊎ ((refusal ≡ NoMemory) × ((register : State) × IsOpenedAs g before register after))

module _ {S : Type 0} (g : Ghosts S) (Gives : Giving S) where
  -- The answer to the command, and the connection that is left: a text of the register was printed; or the path gave no
  -- connection; or it gave one, and there is no text.
  abbrev pub IsViewFor : ViewAsked → Answer → Option (Held S) → Type 0
  IsViewFor asked (Prints text) left = (before : Held S) × (Gives asked.path (Ok before)
      × ((after : Held S) × ((left ≡ Some after) × IsShown g before asked.view text after)))
  IsViewFor asked (Refuses refusal) None = Gives asked.path (Err refusal)
  IsViewFor asked (Refuses refusal) (Some after) = (before : Held S) × (Gives asked.path (Ok before)
      × IsNotShown g before refusal after)
  IsViewFor asked Explains left = ⊥
  IsViewFor asked (Serves text ending) left = ⊥

  -- the same for words: they are explained if they are not such a command
  abbrev pub IsAnswerToView : Option ViewAsked → Answer → Option (Held S) → Type 0
  IsAnswerToView (Some asked) answer left = IsViewFor asked answer left
  IsAnswerToView None Explains left = left ≡ None
  IsAnswerToView None _ left = ⊥

  -- this holds of the answer to the words
  abbrev pub AnswersView : Option ViewAsked → Option (Held S) → (Answer → Type 0) → Type 0
  AnswersView asked left Holds = (answer : Answer) × (IsAnswerToView asked answer left × Holds answer)

  -- After a run without an answer, a connection that is left is as after a refusal. Nothing is said of a database if no
  -- connection is left.
  abbrev pub IsUntold : Option ViewAsked → Option (Held S) → Type 0
  IsUntold asked None = ⊤
  IsUntold asked (Some after) = (refusal : Refusal) × IsAnswerToView asked (Refuses refusal) (Some after)
