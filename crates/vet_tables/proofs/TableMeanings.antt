-- What the statements on a table mean over any schema that has it.
use Rattle.std.proofs.Common.{◌≡◌, List, [], ◌∷◌, ◌+◌, ◌^◌, ℕ, true, false, None, Some, Option, refl, sym, subst, map}
use Rattle.std.proofs.Common.{length, nat_lt, negsuc, pos}
use Rattle.sqlite.specs.Command.TheVariants.{Insert, Delete, Select}
use Rattle.sqlite_ast.specs.Layer.{ShownLayer}
use Rattle.sqlite_ast.specs.declared.Core.{out-Core}
use Rattle.sqlite_ast.specs.declared.Expr.{Expr}
use Rattle.sqlite_ast.specs.declared.Expr.TheOpen.{Shown-F}
use Rattle.sqlite_ast.specs.declared.Select as ast
use Rattle.sqlite_ast.specs.declared.Shown.{Shown, out-Shown}
use Rattle.sqlite_ast.specs.declared.Sort.{Sort, out-Sort}
use Rattle.sqlite_ast.specs.declared.Source.{Source}
use Rattle.sqlite_ast.specs.declared.Statement.{Statement}
use Rattle.sqlite_ast.specs.declared.Statement.TheVariants as written
use Rattle.sqlite_resolve.specs.Scope.{Name, alias_of, is_among}
use Rattle.sqlite_resolve.specs.Select.{ungrouped}
use Rattle.sqlite_resolve.specs.Write.{over as keys_over}
use Rattle.sqlite_schema.specs.Names.{column_named, same_name}
use Rattle.sqlite_schema.specs.declared.command.Source.TheVariants.{Values}
use Rattle.sqlite_schema.specs.declared.schema.Schema.{Schema}
use Rattle.sqlite_sql.specs.Query.{Query, inner, end}
use Rattle.sqlite_sql.specs.Term.{Term, col, lit}
use Rattle.sqlite_value.specs.Keys.{ascending}
use Rattle.sqlite_value.specs.declared.keys.Collation.TheVariants.{Binary}
use Rattle.sqlite_value.specs.declared.keys.Key.{Key}
use Rattle.sqlite_value.specs.declared.value.Value.TheVariants.{Int}
use Rattle.std.specs.List.{AllByRecursion}
use Rattle.vet_tables.proofs.KeyTests as keys
use Rattle.vet_tables.proofs.KeyTests.{IsKeyColumn, all_deleted, deleted_is, key_column, test_term}
use Rattle.vet_tables.proofs.Meanings.{Means, delete_means, insert_means}
use Rattle.vet_tables.proofs.Selects.{outputs_of, rowid_name, select_means}
use Rattle.vet_tables.proofs.Shapes.{AreShown, IsFrom, IsKnown, IsOne, IsOrder, IsSelect, IsSelection}
use Rattle.vet_tables.proofs.Shapes.{clear_parses, emptied}
use Rattle.vet_tables.proofs.Shapes.{delete_cheap, delete_columns, delete_deep, delete_depth, delete_keys}
use Rattle.vet_tables.proofs.Shapes.{delete_parses}
use Rattle.vet_tables.proofs.Shapes.{delete_terms, delete_tests}
use Rattle.vet_tables.proofs.Shapes.{given_rows, given_test, insert_parses, insert_terms, insert_values, inserted}
use Rattle.vet_tables.proofs.Shapes.{is_test, key_tests, removed, select_parses, selected}
use Rattle.vet_tables.proofs.TablePlaces.{each}
use Rattle.vet_tables.specs.Form.{TableForm, places_from, table_of}
use Rattle.vet_tables.specs.Forms.{form_of}
use Rattle.vet_tables.specs.Has.{HasTable}
use Rattle.vet_tables.specs.Texts.{clear_text, delete_text, insert_text, select_text}
use Rattle.vet_tables.specs.declared.table_name.TableName.{TableName}

-- a query over one table
abbrev pub over : ℕ → List Term → List Term → List (Term × Key) → Query
over tree tests project order = record {
  from = inner tree end;
  filter = tests;
  group = None;
  project = project;
  distinct = false;
  collations = [];
  order = order;
  limit = lit (Int (negsuc 0));
  offset = lit (Int (pos 0));
}

abbrev pub select_terms : TableForm → List Term
select_terms form = col 1 0 ∷ map (col 1) (places_from form 0 form.columns)

abbrev pub by_rowid : List (Term × Key)
by_rowid = (col 1 0, ascending Binary) ∷ []

module _ (n : TableName) (schema : Schema) (has : HasTable schema (form_of n)) where
  abbrev form : TableForm
  form = form_of n

  pub insert_is : Means schema (insert_text form) (Insert has.at (Values (insert_terms form) (length form.columns + 1)))
  insert_is =
      let p = insert_parses n in
      insert_means schema has.at (table_of form has.tree) form.name (insert_text form) has.named has.there
      (inserted n) p.0 p.2 (given_rows n)
      (Values (insert_terms form) (length form.columns + 1)) refl p.1 (insert_values n schema has.tree)

  key_columns : (ks : List keys.Key) → AllByRecursion (IsKnown (table_of form has.tree)) ks
      → AllByRecursion (λ k. IsKeyColumn (keys_over schema has.at form.name) k.0 k.1) ks
  key_columns [] all = tt
  key_columns (k ∷ ks) all =
      let it = all.0 in (
        subst (IsKeyColumn (keys_over schema has.at form.name) k.0) (sym it.3)
            (key_column schema has.at (table_of form has.tree) form.name has.there k.0 it.0 it.1 it.2),
        key_columns ks all.1,
      )

  pub delete_is : Means schema (delete_text form) (Delete has.at
      (record { lets = []; body = over has.tree (key_tests form) (col 1 0 ∷ []) [] }))
  delete_is = let p = delete_parses n in go (given_test n) p.1 (delete_tests n)
    where
      go : (test : Option Expr) → (removed n).statement ≡ written.Delete form.name test []
          → is_test test (delete_keys form)
          → Means schema (delete_text form) (Delete has.at
          (record { lets = []; body = over has.tree (key_tests form) (col 1 0 ∷ []) [] }))
      go None is tests = absurd tests
      go (Some e) is tests =
          let p = delete_parses n in
          let lowered = deleted_is schema has.at (table_of form has.tree) (delete_keys form) (delete_depth n) e
          (delete_deep n) (key_columns (delete_keys form) (delete_columns n has.tree)) tests (delete_cheap n) in
          let meant = delete_means schema has.at (table_of form has.tree) form.name
          (delete_text form) has.named has.there (removed n) p.0 p.2 (Some e) _ is lowered in
          subst (λ terms. Means schema (delete_text form)
          (Delete has.at (record { lets = []; body = over has.tree terms (col 1 0 ∷ []) [] })))
          (delete_terms n) meant

  pub clear_is : Means schema (clear_text form) (Delete has.at
      (record { lets = []; body = over has.tree [] (col 1 0 ∷ []) [] }))
  clear_is =
      let p = clear_parses n in
      delete_means schema has.at (table_of form has.tree) form.name (clear_text form) has.named has.there (emptied n)
      p.0 p.2 None _ p.1 (all_deleted schema has.at (table_of form has.tree))

abbrev IsFit : TableForm → Schema → ℕ → ℕ → Expr → Name → Type 0
IsFit form schema at tree e text =
    (column_named (table_of form tree) rowid_name ≡ None)
    × (nat_lt 2000 (length (outputs_of schema at (table_of form tree) form.name e text)) ≡ false)
    × (nat_lt 1 (length (outputs_of schema at (table_of form tree) form.name e text)) ≡ true)
    × (alias_of rowid_name (outputs_of schema at (table_of form tree) form.name e text) ≡ None)
    × (map (λ o. o.term) (outputs_of schema at (table_of form tree) form.name e text) ≡ select_terms form)

select_fits : (n : TableName) (schema : Schema) (at tree : ℕ) (e : Expr) (text : Name)
    → IsFit (form_of n) schema at tree e text
unfolding same_name is_among
select_fits n schema at tree e text = each (λ n. IsFit (form_of n) schema at tree e text) (assumption refl) n

module _ (n : TableName) (schema : Schema) (has : HasTable schema (form_of n))
    (low : nat_lt has.tree (2 ^ 31) ≡ true) where
  abbrev the_form : TableForm
  the_form = form_of n

  abbrev IsMeant : Type 0
  IsMeant = (heads : List Name) × Means schema (select_text the_form)
      (Select (record { lets = []; body = over has.tree [] (select_terms the_form) by_rowid }) heads)

  pub select_is : IsMeant
  unfolding ungrouped
  select_is = let p = select_parses n in go (selected n).statement refl p.1
    where
      finish : (s : ast.Select) → (selected n).statement ≡ written.Select s → IsSelect the_form.name s → (by : Sort)
          → (ast.out-Select s).order ≡ by ∷ [] → IsOrder (by ∷ [])
          → (one all : Shown) → (out-Core (ast.out-Select s).first).shown ≡ one ∷ all ∷ []
          → out-Shown all ≡ Shown-F.All → (from : Source) → (out-Core (ast.out-Select s).first).from ≡ from ∷ []
          → IsFrom the_form.name (from ∷ []) → (layer : ShownLayer) → out-Shown one ≡ layer → IsOne layer → IsMeant
      finish s is parts by order_is order one all shown_is all_is from from_is comes
          (Shown-F.One e None text) one_is first =
          let p = select_parses n in
          let fit = select_fits n schema has.at has.tree e text in
          let core = parts.5 in
          let meant =
          select_means schema has.at (table_of the_form has.tree) the_form.name has.named has.there low fit.0 from
          comes e text one all first one_is all_is fit.1 fit.2
          (ast.out-Select s).first core.0 shown_is from_is core.3 core.4 core.5 by
          (out-Sort by).key refl order.0 order.1 order.2 fit.3
          s parts.0 refl parts.1 order_is parts.2 parts.3 (select_text the_form) (selected n) p.0 is p.2 in
          let heads : List Name = map (λ o. o.name)
          (outputs_of schema has.at (table_of the_form has.tree) the_form.name e text) in (
            heads,
            subst (λ terms. Means schema (select_text the_form)
                (Select (record { lets = []; body = over has.tree [] terms by_rowid }) heads)) fit.4 meant,
          )
      finish s is parts by order_is order one all shown_is all_is from from_is comes _ one_is first = absurd first

      last : (s : ast.Select) → (selected n).statement ≡ written.Select s → IsSelect the_form.name s
          → (order : List Sort) → (ast.out-Select s).order ≡ order → IsOrder order
          → (shown : List Shown) → (out-Core (ast.out-Select s).first).shown ≡ shown → AreShown shown
          → (from : List Source) → (out-Core (ast.out-Select s).first).from ≡ from → IsFrom the_form.name from
          → IsMeant
      last s is parts [] order_is order shown shown_is are from from_is comes = absurd order
      last s is parts (by ∷ []) order_is order [] shown_is are from from_is comes = absurd are
      last s is parts (by ∷ []) order_is order (one ∷ []) shown_is are from from_is comes = absurd are
      last s is parts (by ∷ []) order_is order (one ∷ all ∷ third ∷ more) shown_is are from from_is comes = absurd are
      last s is parts (by ∷ []) order_is order (one ∷ all ∷ []) shown_is are [] from_is comes = absurd comes
      last s is parts (by ∷ []) order_is order (one ∷ all ∷ []) shown_is are (from ∷ second ∷ more) from_is comes =
          absurd comes
      last s is parts (by ∷ []) order_is order (one ∷ all ∷ []) shown_is are (from ∷ []) from_is comes =
          finish s is parts by order_is order one all shown_is are.1 from from_is comes (out-Shown one) refl are.0
      last s is parts (by ∷ second ∷ more) order_is order shown shown_is are from from_is comes = absurd order

      go : (s : Statement) → (selected n).statement ≡ s → IsSelection the_form.name s → IsMeant
      go (written.Select s) is parts = last s is parts (ast.out-Select s).order refl parts.4
          (out-Core (ast.out-Select s).first).shown refl parts.5.1
          (out-Core (ast.out-Select s).first).from refl parts.5.2
      go _ is parts = absurd parts
