-- What INSERT of a row and DELETE of rows do to a database that has their table.
use Rattle.std.proofs.Common.{◌≡◌, ◌+◌, ◌++◌, ◌/◌, ℕ, List, [], ◌∷◌, filter, Bool, true, false, not}
use Rattle.std.proofs.Common.{◌&&◌, cond, nat_le, slice_get, None, Ok, Option, length, unwrap_or, ◌-◌, ◌^◌}
use Rattle.std.proofs.Common.{refl, sym, ap, subst, ◌∙◌}
use Rattle.std.specs.List.{AllByRecursion}
use Rattle.sqlite.proofs.Callers.{one_step}
use Rattle.sqlite.specs.Command.TheVariants.{Delete, Insert}
use Rattle.sqlite.specs.Does.{Does, Tally}
use Rattle.sqlite.specs.Edit.{edit_of}
use Rattle.sqlite.specs.Effect.{Database, value_rows}
use Rattle.sqlite.specs.Rowids.TheVariants.{Chosen, Given}
use Rattle.sqlite.specs.Rows.{Written}
use Rattle.sqlite.specs.Source.TheVariants.{Values}
use Rattle.sqlite.specs.declared.run.Mode.{Mode}
use Rattle.sqlite_rules.specs.Calls.{ids_of}
use Rattle.sqlite_rules.specs.Edit.{Applies, Edit, are_fresh, is_taken, next_rowid, put_all, taken_by}
use Rattle.sqlite_schema.specs.declared.schema.Keys.{Keys}
use Rattle.sqlite_sql.specs.Program.{overlay}
use Rattle.sqlite_sql.specs.Term.{Term, col}
use Rattle.sqlite_trees.specs.Tree.{Trees, put_row}
use Rattle.sqlite_value.specs.Order.{Row as Cells}
use Rattle.vet_tables.proofs.Answered.{answered, passes}
use Rattle.vet_tables.proofs.NewRows.{news_are}
use Rattle.vet_tables.proofs.Numbers.{removed}
use Rattle.vet_tables.proofs.Shapes.{insert_terms}
use Rattle.vet_tables.proofs.StoredRows.{stored_row}
use Rattle.vet_tables.proofs.Outcomes.{same_value, went}
use Rattle.vet_tables.proofs.TableMeanings.{over}
use Rattle.vet_tables.proofs.Unreferred.{no_works}
use Rattle.vet_tables.specs.Form.{TableForm, table_of}
use Rattle.vet_tables.specs.Forms.{form_of}
use Rattle.vet_tables.specs.Has.{HasTable}
use Rattle.vet_tables.specs.Numbered.{AreNumbered}
use Rattle.vet_tables.specs.Typed.{AreSorts, kinds_of}
use Rattle.vet_tables.specs.declared.table_name.TableName.{TableName}

free_if : (b c : Bool) → (not b && c) ≡ true → b ≡ false
free_if true c h = absurd cc
free_if false c h = refl

-- but for this tree, the tables have the rows that they had
abbrev pub KeepsElse : Database → ℕ → Database → Type 0
KeepsElse db tree after = (after.schema ≡ db.schema)
    × AllByRecursion (λ t. (t.tree ≡ tree → ⊥) → after.trees t.tree ≡ db.trees t.tree) db.schema.tables

-- one row more, with a rowid of its own
abbrev pub Adds : Database → ℕ → Cells → Database → Type 0
Adds db tree new after = (after.trees tree ≡ put_row new (db.trees tree)) × (is_taken (db.trees tree) new ≡ false)
    × KeepsElse db tree after

module _ (n : TableName) (cells : Cells) (sorts : AreSorts (kinds_of (form_of n)) cells) (db : Database)
    (has : HasTable db.schema (form_of n)) where
  abbrev form : TableForm
  form = form_of n

  abbrev new : Cells
  new = stored_row form (next_rowid (db.trees has.tree)) cells

  abbrev adding : List Cells → Edit
  adding sources = edit_of db.trees (table_of form has.tree) [] Chosen 0 sources

  applied : (keys : Keys) (next : Trees) (sources : List Cells)
      → sources ≡ value_rows (cells ++ []) (length form.columns + 1)
      (length (insert_terms form) / (length form.columns + 1)) (insert_terms form)
      → Applies db.schema keys db.trees (adding sources) next
      → Adds db has.tree new (record { schema = db.schema; trees = next })
  applied keys next sources is it =
      let news : (adding sources).news ≡ new ∷ [] = ap (λ all. (adding all).news) is
      ∙ news_are n cells sorts db.trees has.tree in
      let fresh : are_fresh (db.trees has.tree) (new ∷ []) ≡ true = rw news at it.fresh in
      (it.rows ∙ ap (put_all (db.trees has.tree)) news, free_if _ _ fresh, (refl, it.tables))

  pub inserted : (limit : Option ℕ) (mode : Mode) (text : List ℕ) (tally : Tally) (after : Database)
      → Does limit mode cells db text None (Insert has.at
      (Values (insert_terms form) (length form.columns + 1))) (Ok (tally, after)) → Adds db has.tree new after
  inserted limit mode text tally after does =
      let done = went (rw has.there at does) in
      let now : after ≡ record { schema = db.schema; trees = done.0.trees } =
      ap (λ (p : Tally × Database). p.1) (same_value (went (went done.2).2).2) in
      let given = went done.1 in
      let written = went (went given.2).2 in
      let counted = went written.2 in
      let trees : done.0.trees ≡ written.0 = ap (λ (it : Written). it.trees) (same_value counted.2)
      ∙ same_value counted.1 in
      let step = one_step db.schema mode.keys db.trees written.0 (adding given.0)
      (no_works db.schema form has mode.keys (taken_by db.trees (adding given.0))
      (adding given.0).news) written.1 in
      let whole : after ≡ record { schema = db.schema; trees = written.0 } = now
      ∙ ap (λ (t : Trees). record { schema = db.schema; trees = t }) trees in
      subst (λ (d : Database). Adds db has.tree new d) (sym whole) (applied mode.keys written.0 given.0 given.1.1 step)

-- ---- DELETE

pub overlays : (db : Trees) (t : ℕ) → overlay db [] t ≡ db t
overlays db t = go (nat_le (2 ^ 31) t)
  where
    go : (b : Bool) → unwrap_or (cond b (slice_get [] (t - 2 ^ 31)) None) (db t) ≡ db t
    go true = refl
    go false = refl

-- the rows that pass tests go
abbrev pub Removes : Database → ℕ → List Term → Cells → Database → Type 0
Removes db tree tests params after =
    (AreNumbered (db.trees tree) → after.trees tree ≡ filter (λ r. not (passes tests params r)) (db.trees tree))
    × KeepsElse db tree after

module _ (n : TableName) (db : Database) (has : HasTable db.schema (form_of n)) where
  abbrev deleting : List Cells → Edit
  deleting sources = edit_of db.trees (table_of (form_of n) has.tree) (ids_of sources) Given 0 []

  pub deleted : (tests : List Term) (limit : Option ℕ) (mode : Mode) (text : List ℕ) (params : Cells) (tally : Tally)
      (after : Database)
      → Does limit mode params db text None (Delete has.at
      (record { lets = []; body = over has.tree tests (col 1 0 ∷ []) [] })) (Ok (tally, after))
      → Removes db has.tree tests params after
  deleted tests limit mode text params tally after does =
      let done = went (rw has.there at does) in
      let now : after ≡ record { schema = db.schema; trees = done.0.trees } =
      ap (λ (p : Tally × Database). p.1) (same_value (went (went done.2).2).2) in
      let given = went done.1 in
      let written = went given.2 in
      let trees : done.0.trees ≡ written.0 = ap (λ (it : Written). it.trees) (same_value written.2) in
      let step = one_step db.schema mode.keys db.trees written.0 (deleting given.0)
      (no_works db.schema (form_of n) has mode.keys (taken_by db.trees (deleting given.0))
      (deleting given.0).news) written.1 in
      let found = answered has.tree tests (col 1 0 ∷ []) [] db.trees params
      (overlays db.trees has.tree) given.0 given.1.answer in
      let whole : after ≡ record { schema = db.schema; trees = written.0 } = now
      ∙ ap (λ (t : Trees). record { schema = db.schema; trees = t }) trees in
      subst (λ (d : Database). Removes db has.tree tests params d) (sym whole) (
        λ own. step.rows ∙ removed (passes tests params) (db.trees has.tree) given.0 own found,
        (refl, step.tables),
      )
