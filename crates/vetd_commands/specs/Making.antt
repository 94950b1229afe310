-- The register that a new command makes, and its answer (ours).
use Rattle.std.specs.Prelude.{◌≡◌, ◌⊎◌, IsTrue, List, Option, Some, None, Result, Ok, Err, codes, false}
use Rattle.std.specs.Prelude.{ℕ, ⊤}
use Rattle.clap.specs.Walk.{Text}
use Rattle.sqlite.specs.Held.{Held, state}
use Rattle.sqlite.specs.State.{HasCleanDisk, Survives}
use Rattle.sqlite_trees.specs.declared.store.Store.{Ghosts}
use Rattle.vet_base.specs.declared.refusal.Refusal.{Refusal}
use Rattle.vet_base.specs.declared.refusal.Refusal.TheVariants.{NoMemory, NotARegister}
use Rattle.vet_register.specs.State.{start}
use Rattle.vet_rows.specs.RowsOf.{rows_of}
use Rattle.vet_store.specs.Made.{IsMade}
use Rattle.vet_tables.specs.Extends.{SparesOthers}
use Rattle.vet_tables.specs.Free.{AreFree}
use Rattle.vet_store.specs.Runs.{IsOfStore}
use Rattle.vet_tables.specs.Read.{Rests}
use Rattle.vet_store.specs.Tied.{IsTied}
use Rattle.vetd_words.specs.Answer.{Answer, Explains, Prints, Refuses, Serves}
use Rattle.vetd_words.specs.NewAsked.{AsksNew, NewAsked}

-- the line that is printed if a register was made
abbrev pub created_line : Text
created_line = codes "created\n"

module _ {S : Type 0} (g : Ghosts S) (limit : ℕ) (before : Held S) where
  -- A register was made in a database in which no name of its tables was taken: its tables have the rows of the first
  -- state, and everything else is as it was. A crash leaves exactly that, as the second clause says; a crash in the
  -- meantime may have left what was there before.
  pub record IsNewRegister (after : Held S) : Type 0 where
    pub not_taken : (AreFree (state g before).now.schema → ⊥) → ⊥
    pub tables : IsTied (state g after) false (rows_of (start limit))
    pub others : HasCleanDisk (state g after) → SparesOthers (state g before).now (state g after).now
    pub crash : Survives (state g before) (state g after) (IsMade (state g before) (rows_of (start limit)))

  -- No register was made. If a table, an index or a view has a name of the tables, the refusal is NotARegister and
  -- nothing was done; otherwise memory ran out or the database refused. The database is as it was.
  pub record IsNoRegister (refusal : Refusal) (after : Held S) : Type 0 where
    pub taken : (AreFree (state g before).now.schema → ⊥) → (refusal ≡ NotARegister) × (after ≡ before)
    pub free : AreFree (state g before).now.schema → IsOfStore refusal
    pub as_before : HasCleanDisk (state g after) → IsTrue (state g after).is_open
        → Rests (state g after) × ((state g after).now ≡ (state g before).now)
    pub crash : Survives (state g before) (state g after) (IsMade (state g before) (rows_of (start limit)))

-- the results that a path may give: a connection, or the refusal if there is none
abbrev pub Giving : Type 0 → Type 1
Giving S = Text → Result (Held S) Refusal → Type 0

-- the same for databases of which this is known: a connection is outside a transaction, and if there is none, memory
-- ran out or the store refused
abbrev pub GivenBy : {S : Type 0} → Giving S → Giving S
GivenBy gives path (Ok conn) = gives path (Ok conn) × (conn.in_transaction ≡ false)
GivenBy gives path (Err refusal) = gives path (Err refusal) × IsOfStore refusal

-- the same if a database must already be there: then there may also be none
abbrev pub FoundBy : {S : Type 0} → Giving S → Giving S
FoundBy finds path (Ok conn) = finds path (Ok conn) × (conn.in_transaction ≡ false)
FoundBy finds path (Err refusal) = finds path (Err refusal) × (IsOfStore refusal ⊎ (refusal ≡ NotARegister))

module _ {S : Type 0} (g : Ghosts S) (Gives : Giving S) where
  -- The answer to a new command, and the connection that is left. A register was made; or there is no connection, since
  -- memory ran out or the path gave none; or there is one, and no register was made.
  abbrev pub IsAnswerFor : NewAsked → Answer → Option (Held S) → Type 0
  IsAnswerFor asked (Prints text) left = (text ≡ created_line) × ((before : Held S) × (Gives asked.path (Ok before)
      × ((after : Held S) × ((left ≡ Some after) × IsNewRegister g asked.moves_limit before after))))
  IsAnswerFor asked (Refuses refusal) None = (refusal ≡ NoMemory) ⊎ Gives asked.path (Err refusal)
  IsAnswerFor asked (Refuses refusal) (Some after) = (before : Held S) × (Gives asked.path (Ok before)
      × IsNoRegister g asked.moves_limit before refusal after)
  IsAnswerFor asked Explains left = ⊥
  IsAnswerFor asked (Serves text ending) left = ⊥

  -- the same for words: they are explained if they are not a new command
  abbrev pub IsAnswerToNew : List Text → Answer → Option (Held S) → Type 0
  IsAnswerToNew words Explains left = ((asked : NewAsked) → AsksNew words asked → ⊥) × (left ≡ None)
  IsAnswerToNew words answer left = (asked : NewAsked) × (AsksNew words asked × IsAnswerFor asked answer left)

  -- this holds of the answer to the words
  abbrev pub AnswersNew : List Text → Option (Held S) → (Answer → Type 0) → Type 0
  AnswersNew words left Holds = (answer : Answer) × (IsAnswerToNew words answer left × Holds answer)

  -- After a run without an answer, a connection that is left is as after a refusal. Nothing is said of a database if no
  -- connection is left.
  abbrev pub IsUnmade : List Text → Option (Held S) → Type 0
  IsUnmade words None = ⊤
  IsUnmade words (Some after) = (asked : NewAsked) × (AsksNew words asked
      × ((refusal : Refusal) × IsAnswerFor asked (Refuses refusal) (Some after)))
