-- From what the steps of making a register ensure to the answer to the words of a new command.
use Rattle.std.proofs.Common.{◌≡◌, ◌≢◌, Bool, false, ℕ, List, Option, Some, None, Result, Ok, Err, IfOk, IfErr, OnOk}
use Rattle.std.proofs.Common.{IsTrue, refl, sym, subst}
use Rattle.sqlite.specs.Held.{Held, state}
use Rattle.sqlite.specs.State.{HasCleanDisk, Survives}
use Rattle.sqlite_trees.specs.declared.store.Store.{Ghosts}
use Rattle.vet_base.specs.declared.refusal.Refusal.{Refusal}
use Rattle.vet_base.specs.declared.refusal.Refusal.TheVariants.{NotARegister}
use Rattle.vet_register.specs.State.{State, start}
use Rattle.vet_rows.specs.RowsOf.{rows_of}
use Rattle.vet_store.specs.Made.{IsMade}
use Rattle.vet_tables.specs.Extends.{SparesOthers}
use Rattle.vet_tables.specs.Free.{AreFree}
use Rattle.vet_store.specs.Runs.{IsOfStore}
use Rattle.vet_tables.specs.Read.{Rests}
use Rattle.vet_store.specs.Tied.{IsTied}
use Rattle.vetd_words.specs.Answer.{Answer, Explains, answer_for}
use Rattle.vetd_commands.specs.Making.{AnswersNew, Giving, IsAnswerFor, IsAnswerToNew, IsNewRegister, IsNoRegister}
use Rattle.vetd_commands.specs.Making.{IsUnmade, created_line}
use Rattle.vetd_words.specs.NewAsked.{AsksNew, NewAsked}
use Rattle.vet_requests.specs.declared.io_fault.IoFault.{IoFault}
use Rattle.vet_requests.specs.declared.io_fault.IoFault.TheVariants.{Output}

module _ {S : Type 0} (g : Ghosts S) (limit : ℕ) (before : Held S) where
  -- what a store that was made ensures, of the connection that it gives back
  pub is_new_register : (conn after : Held S) (shut : Bool) (s : State) → after ≡ conn → s ≡ start limit
      → ((AreFree (state g before).now.schema → ⊥) → ⊥)
      → (shut ≡ false) × IsTied (state g conn) shut (rows_of s)
      → (HasCleanDisk (state g conn) → SparesOthers (state g before).now (state g conn).now)
      → Survives (state g before) (state g conn) (IsMade (state g before) (rows_of (start limit)))
      → IsNewRegister g limit before after
  is_new_register conn after shut s same first not_taken tied others crash =
      let held : IsTied (state g conn) false (rows_of (start limit)) =
      subst (λ (t : State). IsTied (state g conn) false (rows_of t)) first
      (subst (λ (b : Bool). IsTied (state g conn) b (rows_of s)) tied.0 tied.1) in
      subst (λ (h : Held S). IsNewRegister g limit before h) (sym same)
      record { not_taken = not_taken; tables = held; others = others; crash = crash }

  -- what a refusal ensures, of its parts
  pub is_no_register : (conn after : Held S) (told refusal : Refusal) → refusal ≡ told → after ≡ conn
      → ((AreFree (state g before).now.schema → ⊥) → (told ≡ NotARegister) × (conn ≡ before))
      → (AreFree (state g before).now.schema → IsOfStore told)
      → (HasCleanDisk (state g conn) → IsTrue (state g conn).is_open
      → Rests (state g conn) × ((state g conn).now ≡ (state g before).now))
      → Survives (state g before) (state g conn) (IsMade (state g before) (rows_of (start limit)))
      → IsNoRegister g limit before refusal after
  is_no_register conn after told refusal same left taken free as_before crash =
      subst (λ (h : Held S). IsNoRegister g limit before refusal h) (sym left)
      (subst (λ (r : Refusal). IsNoRegister g limit before r conn) (sym same)
      record { taken = taken; free = free; as_before = as_before; crash = crash })

module _ {S : Type 0} (g : Ghosts S) (Gives : Giving S) {T : Type 0} (text : T → List ℕ) where
  -- where a path gave a connection, the answer is what came of making a register there
  pub made_answer : {A : Type 0} (asked : NewAsked) (line : T) (made : Result A Refusal) (told : Result T Refusal)
      (before after : Held S) → text line ≡ created_line → Gives asked.path (Ok before)
      → OnOk made (IsNewRegister g asked.moves_limit before after)
      → IfErr made (λ refusal. IsNoRegister g asked.moves_limit before refusal after)
      → OnOk made (told ≡ Ok line) → IfErr made (λ refusal. told ≡ Err refusal)
      → IsAnswerFor g Gives asked (answer_for text told) (Some after)
  made_answer asked line (Ok a) told before after is gives new none ok err =
      subst (λ (t : Result T Refusal). IsAnswerFor g Gives asked (answer_for text t) (Some after)) (sym ok)
      (is, (before, (gives, (after, (refl, new)))))
  made_answer asked line (Err refusal) told before after is gives new none ok err =
      subst (λ (t : Result T Refusal). IsAnswerFor g Gives asked (answer_for text t) (Some after)) (sym err)
      (before, (gives, none))

  -- the answer to what words ask for is the answer to the words
  of_words : (words : List (List ℕ)) (asked : NewAsked) (told : Result T Refusal) (left : Option (Held S))
      → AsksNew words asked → IsAnswerFor g Gives asked (answer_for text told) left
      → IsAnswerToNew g Gives words (answer_for text told) left
  of_words words asked (Ok line) left asks is = (asked, (asks, is))
  of_words words asked (Err refusal) left asks is = (asked, (asks, is))

  pub made_of_words : (words : List (List ℕ)) (asked : NewAsked) (told : Result T Refusal) (left : Option (Held S))
      → AsksNew words asked → IsAnswerFor g Gives asked (answer_for text told) left
      → (Holds : Answer → Type 0) → Holds (answer_for text told)
      → AnswersNew g Gives words left Holds
  made_of_words words asked told left asks is = λ Holds holds.
      (answer_for text told, (of_words words asked told left asks is, holds))

  -- a text that was told meets no fault but that of a write, so with another fault no register was made
  pub told_unmade : (words : List (List ℕ)) (asked : NewAsked) (told : Result T Refusal) (left : Option (Held S))
      (r : Result ℕ IoFault) → AsksNew words asked → IsAnswerFor g Gives asked (answer_for text told) left
      → IfOk told (λ _. IfErr r (λ fault. fault ≡ Output))
      → IfErr r (λ fault. fault ≢ Output → IsUnmade g Gives words left)
  told_unmade words asked told left (Ok status) asks is printed = tt
  told_unmade words asked (Ok line) left (Err fault) asks is printed = λ other. absurd (other printed)
  told_unmade words asked (Err refusal) None (Err fault) asks is printed = λ other. tt
  told_unmade words asked (Err refusal) (Some after) (Err fault) asks is printed = λ other.
      (asked, (asks, (refusal, is)))

module _ {S : Type 0} (g : Ghosts S) (Gives : Giving S) where
  -- words that ask for no register are explained
  pub new_explained : (words : List (List ℕ)) → ((asked : NewAsked) → AsksNew words asked → ⊥)
      → (Holds : Answer → Type 0) → Holds Explains
      → AnswersNew g Gives words None Holds
  new_explained words none Holds holds = (Explains, ((none, refl), holds))
