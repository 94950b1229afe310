-- What a statement inside a transaction does to the contents.
use Rattle.std.proofs.Common.{◌≡◌, inl, inr, ℕ, List, [], ◌∷◌, append-nil, false, IsTrue}
use Rattle.std.proofs.Common.{None, Ok, Err, Result, OnOk, arith, inl, inr, refl, sym, ◌∙◌}
use Rattle.std.proofs.lemmas.Bool.{cases_Bool}
use Rattle.sqlite.specs.Clock.{timed}
use Rattle.sqlite.specs.Command.TheVariants.{Delete}
use Rattle.sqlite.specs.Effect.{IsDatabase}
use Rattle.sqlite.specs.Held.{Held, state}
use Rattle.sqlite.specs.State.{Executes, ExecutesIn, ExecutesInside, KeepsCommit, Runs, State, Survives, mode_of}
use Rattle.sqlite.specs.State.{shows_rows}
use Rattle.sqlite.specs.State.{text_of}
use Rattle.sqlite.specs.Store.{Ghosts}
use Rattle.sqlite.specs.declared.error.Error.{Error}
use Rattle.sqlite.specs.declared.error.Error.TheVariants.{SqliteFailure}
use Rattle.sqlite.specs.declared.error.ErrorCode.TheVariants.{TransactionState}
use Rattle.sqlite_resolve.specs.Compile.{compiled}
use Rattle.sqlite_resolve.specs.declared.compiled.Compiled.{Compiled}
use Rattle.sqlite_schema.specs.declared.command.Command.{Command}
use Rattle.sqlite_sql.specs.Term.{Term, col}
use Rattle.sqlite_trees.specs.Tree.{Trees}
use Rattle.sqlite_value.specs.Order.{Row as Cells}
use Rattle.vet_tables.proofs.Edits.{Removes, deleted, inserted}
use Rattle.vet_tables.proofs.Effects.{adds_holds, clears_holds, removes_holds, spares_others}
use Rattle.vet_tables.proofs.Meanings.{Means}
use Rattle.vet_tables.proofs.Shapes.{key_tests}
use Rattle.vet_tables.proofs.TableMeanings.{clear_is, delete_is, insert_is, over}
use Rattle.vet_tables.specs.Contents.{Changes, Contents, HasContents, added, cleared, dropped}
use Rattle.vet_tables.specs.Forms.{form_of}
use Rattle.vet_tables.specs.Has.{HasTable}
use Rattle.vet_tables.specs.Texts.{clear_text, delete_text, insert_text}
use Rattle.vet_tables.specs.Typed.{AreSorts, kinds_of}
use Rattle.vet_tables.specs.declared.table_name.TableName.{TableName}

-- a text that was run did what it means
pub ran : (text : List ℕ) (params : Cells) (old new : State) (does : Command) (count : ℕ)
    → Means old.now.schema text does → Executes text params old new (Ok count)
    → (c : Compiled) × (compiled old.now.schema text ≡ Ok c) × Runs old new None does (text_of text c) params count
unfolding ExecutesIn
ran text params old new does count means h =
    let known = sym means.stored ∙ h.1.is in
    let facts = means.means h.0 known in
    let run : Runs old new h.0.returning h.0.command (text_of text h.0) (timed params h.0.formats h.1.now) count =
    elim (cases_Bool (shows_rows false h.0)) [
      | inl shows ↦ absurd (let e = (rw shows at h.2).0 in cc)
      | inr runs ↦ rw runs at h.2
    ] in
    (h.0, known, rw (facts.0, facts.1, facts.2, append-nil params) at run)

module _ (n : TableName) (old new : State) where
  add_step : (cells : Cells) → AreSorts (kinds_of (form_of n)) cells → (count : ℕ)
      → ExecutesInside 0 (insert_text (form_of n)) cells old new (Ok count) → Changes old new (added n cells)
  add_step cells sorts count h =
      let write = λ (has : HasTable old.now.schema (form_of n)). ran (insert_text (form_of n)) cells old new _ count
      (insert_is n old.now.schema has) h.0 in
      let adds = λ (has : HasTable old.now.schema (form_of n)). inserted n cells sorts old.now has old.step_limit
      (mode_of old) (text_of (insert_text (form_of n)) (write has).0) (write has).2.tally new.now
      (write has).2.changed in
      record {
        was_open = h.1.was_open;
        is_open = h.1.is_open;
        committed = h.1.committed_is;
        inside = rw h.1.mode;
        holds = λ contents was. let has = was.has n in
            adds_holds n old.now new.now cells sorts has (adds has) (write has).2.sound contents was;
        spares = λ all. let has = all n in spares_others n old.now new.now has (adds has).2;
      }

  pub adds : (cells : Cells) → AreSorts (kinds_of (form_of n)) cells → (result : Result ℕ Error)
      → ExecutesInside 0 (insert_text (form_of n)) cells old new result → OnOk result (Changes old new (added n cells))
  adds cells sorts (Err e) h = tt
  adds cells sorts (Ok count) h = add_step cells sorts count h

  -- a text that takes out the rows that pass tests
  take_step : (text : List ℕ) (tests : List Term) (params : Cells) (change : Contents → Contents)
      → ((has : HasTable old.now.schema (form_of n)) → Means old.now.schema text (Delete has.at
      (record { lets = []; body = over has.tree tests (col 1 0 ∷ []) [] })))
      → ((has : HasTable old.now.schema (form_of n)) → Removes old.now has.tree tests params new.now
      → IsDatabase new.now → (contents : Contents) → HasContents old.now contents
      → HasContents new.now (change contents))
      → (count : ℕ) → ExecutesInside 0 text params old new (Ok count) → Changes old new change
  take_step text tests params change means holds count h =
      let write = λ (has : HasTable old.now.schema (form_of n)). ran text params old new _ count (means has) h.0 in
      let takes = λ (has : HasTable old.now.schema (form_of n)). deleted n old.now has tests old.step_limit
      (mode_of old) (text_of text (write has).0) params (write has).2.tally new.now (write has).2.changed in
      record {
        was_open = h.1.was_open;
        is_open = h.1.is_open;
        committed = h.1.committed_is;
        inside = rw h.1.mode;
        holds = λ contents was. let has = was.has n in holds has (takes has) (write has).2.sound contents was;
        spares = λ all. let has = all n in spares_others n old.now new.now has (takes has).1;
      }

  pub takes : (key : Cells) (result : Result ℕ Error) → ExecutesInside 0 (delete_text (form_of n)) key old new result
      → OnOk result (Changes old new (dropped n key))
  takes key (Err e) h = tt
  takes key (Ok count) h =
      take_step (delete_text (form_of n)) (key_tests (form_of n)) key (dropped n key) (delete_is n old.now.schema)
      (removes_holds n old.now new.now key) count h

  pub clears : (result : Result ℕ Error) → ExecutesInside 0 (clear_text (form_of n)) [] old new result
      → OnOk result (Changes old new (cleared n))
  clears (Err e) h = tt
  clears (Ok count) h =
      take_step (clear_text (form_of n)) [] [] (cleared n) (clear_is n old.now.schema) (clears_holds n old.now new.now)
      count h

-- ---- the last commit

keeps_inside : (sql : List ℕ) (params : Cells) (old new : State) (r : Result ℕ Error)
    → ExecutesInside 0 sql params old new r → KeepsCommit old new
keeps_inside sql params old new (Ok count) h = record {
  was_open = λ _. h.1.was_open;
  committed =
      λ _. h.1.committed_is;
}
keeps_inside sql params old new (Err e) (inl (ran, inl same)) =
    record { was_open = λ _. same.0.was_open; committed = λ _. same.0.committed_is }
keeps_inside sql params old new (Err e) (inl (ran, inr back)) =
    record { was_open = back.was_open; committed = λ serves. (back.undone serves).1 }
keeps_inside sql params old new (Err e) (inr bad) =
    record { was_open = λ _. bad.2.0.was_open; committed = λ _. bad.2.0.committed_is }

pub keeps_same : (a : State) → KeepsCommit a a
keeps_same a = record { was_open = λ serves. serves; committed = λ _. refl }

pub keeps_then : (a b c : State) → KeepsCommit a b → KeepsCommit b c → KeepsCommit a c
keeps_then a b c one two = record {
  was_open = λ serves. one.was_open (two.was_open serves);
  committed =
      λ serves. two.committed serves ∙ one.committed (two.was_open serves);
}

-- what a statement leaves of the last commit, inside a transaction or once it has ended
pub keeps : {S : Type 0} (g : Ghosts S) (sql : List ℕ) (params : Cells) (old new : Held S) (r : Result ℕ Error)
    → (old.in_transaction ≡ false → (r ≡ Err (SqliteFailure TransactionState)) × (new ≡ old))
    → (IsTrue old.in_transaction → ExecutesInside 0 sql params (state g old) (state g new) r)
    → KeepsCommit (state g old) (state g new)
keeps g sql params old new r ended runs = elim (cases_Bool old.in_transaction) [
  | inl inside ↦ keeps_inside sql params (state g old) (state g new) r (runs (rw inside))
  | inr outside ↦ rw (ended outside).1 (keeps_same (state g old))
]

pub survives_same : (a : State) (P : Trees → Type 0) → Survives a a P
survives_same a P = record {
  clean = omega arith;
  shield = λ s. s;
  counts = omega arith;
  limit = refl;
  closes =
      λ clean serves. inl serves;
  crash = λ clean db leaves. inl leaves;
}
