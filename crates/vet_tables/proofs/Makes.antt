-- A table of ours that CREATE TABLE makes.
use Rattle.std.proofs.Common.{◌≡◌, ◌⊎◌, inl, inr, List, [], ◌∷◌, ◌||◌, not, ◌==◌, ℕ, ◌+◌, Bool, true, false, None, Some}
use Rattle.std.proofs.Common.{Option, Ok, Err, length, refl, sym, ap, subst, ◌∙◌, arith}
use Rattle.std.proofs.lemmas.Bool.{cases_Bool, eqb-true, true≢false}
use Rattle.std.proofs.lemmas.Slice.Eq.{bytes_eq-Decides}
use Rattle.std.specs.List.{AllByRecursion, list_all}
use Rattle.std.specs.Str.{bytes_eq}
use Rattle.sqlite.specs.Command.TheVariants as does
use Rattle.sqlite.specs.Does.{Does, Tally, lacks_sequence, sequence_text}
use Rattle.sqlite.specs.Effect.{Database, IsDatabase}
use Rattle.sqlite.specs.declared.run.Mode.{Mode}
use Rattle.sqlite_catalog.proofs.StepLemmas.{table_below}
use Rattle.sqlite_catalog.specs.Calls.{CreatesTable}
use Rattle.sqlite_catalog.specs.Change.{KeepsRows, automatics, created, is_used, next_tree}
use Rattle.sqlite_resolve.specs.Compile.{table_defined_by}
use Rattle.sqlite_resolve.specs.Lowering.{Checked}
use Rattle.sqlite_rules.proofs.ListLemmas.{all_from, test_from, test_has}
use Rattle.sqlite_rules.specs.Lists.{Has}
use Rattle.sqlite_schema.specs.Names.{same_name}
use Rattle.sqlite_schema.specs.declared.schema.Index.{Index}
use Rattle.sqlite_schema.specs.declared.schema.Schema.{Schema}
use Rattle.sqlite_schema.specs.declared.schema.Table.{Table}
use Rattle.sqlite_tied.specs.Compute.{everything}
use Rattle.sqlite_trees.specs.Tree.{Trees}
use Rattle.vet_tables.proofs.Creates.{defines}
use Rattle.vet_tables.proofs.Outcomes.{same_value, went}
use Rattle.vet_tables.proofs.Extends.{all_both, elsewhere, extends_made, extends_then, got_here, has_either, owner_of}
use Rattle.vet_tables.proofs.Extends.{placed_after}
use Rattle.vet_tables.proofs.Extends.{still_free, still_has, still_rows, unused}
use Rattle.vet_tables.proofs.RowSets.{had_in}
use Rattle.vet_tables.proofs.TablePlaces.{among_tables, each}
use Rattle.vet_tables.specs.Form.{TableForm, key_index, table_of}
use Rattle.vet_tables.specs.Forms.{code, form_of, tables}
use Rattle.vet_tables.specs.Has.{HasTable, is_apart, refers_not, spares}
use Rattle.vet_tables.specs.Extends.{Extends, Gains, IsMadeAs, counting_name}
use Rattle.vet_tables.specs.Free.{IsFree}
use Rattle.vet_tables.specs.Texts.{create_text}
use Rattle.vet_tables.specs.declared.table_name.TableName.{TableName}
use Rattle.vet_tables.specs.declared.table_name.TableName.TheVariants.{Meta}

abbrev indexes_of : TableName → ℕ → List Index
indexes_of n tree = automatics (table_of (form_of n) tree) 0 (tree + 1) (table_of (form_of n) tree).uniques

-- the indexes that SQLite makes are those of the key
key_indexes : (n : TableName) (tree : ℕ) → list_all (λ (i : Index). bytes_eq i.name (key_index (form_of n)))
    (indexes_of n tree) ≡ true
unfolding everything
key_indexes n tree =
    each (λ n. list_all (λ (i : Index). bytes_eq i.name (key_index (form_of n))) (indexes_of n tree) ≡ true)
    (assumption refl) n

pub named_itself : (n : TableName) → same_name (form_of n).name (form_of n).name ≡ true
unfolding same_name
named_itself n = each (λ n. same_name (form_of n).name (form_of n).name ≡ true) (assumption refl) n

-- the name of no other table, and no index, is that of a table
names_differ : (n : TableName) → list_all (λ m. (code n == code m)
    || not (same_name (form_of n).name (form_of m).name)) tables ≡ true
unfolding same_name
names_differ n =
    each (λ n. list_all (λ m. (code n == code m) || not (same_name (form_of n).name (form_of m).name)) tables ≡ true)
    (assumption refl) n

indexes_differ : (n : TableName) (tree : ℕ) → list_all
    (λ m. list_all (λ (i : Index). not (same_name i.name (form_of m).name)) (indexes_of n tree)) tables ≡ true
unfolding everything
indexes_differ n tree =
    each (λ n. list_all (λ m. list_all (λ (i : Index). not (same_name i.name (form_of m).name)) (indexes_of n tree))
    tables ≡ true) (assumption refl) n

abbrev table_or : Table → Checked Table → Table
table_or other (Ok t) = t
table_or other (Err e) = other

-- the table in which SQLite counts
abbrev sequence : Table
sequence = table_or (table_of (form_of Meta) 0) (table_defined_by sequence_text)

sequence_is : table_defined_by sequence_text ≡ Ok sequence
unfolding everything
sequence_is = refl

sequence_plain : (sequence.references ≡ []) × (sequence.uniques ≡ [])
    × (list_all (λ m. not (same_name sequence.name (form_of m).name)) tables ≡ true)
unfolding everything
sequence_plain = (refl, refl, refl)

sequence_named : sequence.name ≡ counting_name
unfolding everything
sequence_named = refl

not_true : (b : Bool) → not b ≡ true → b ≡ false
not_true true e = absurd (true≢false (sym e))
not_true false e = refl

or_true : (b : Bool) → (b || true) ≡ true
or_true true = refl
or_true false = refl

never : {X : Type 0} (p : X → Bool) (xs : List X) → list_all (λ x. not (p x)) xs ≡ true
    → AllByRecursion (λ x. p x ≡ false) xs
never p xs all = all_from _ xs (λ x h. not_true (p x) (test_has (λ y. not (p y)) xs x all h))

module _ (n : TableName) (db : Database) (trees : Trees) (empty : trees (next_tree db.schema) ≡ [])
    (rows : KeepsRows db.schema.tables db.trees trees) where
  abbrev form : TableForm
  form = form_of n

  abbrev tree : ℕ
  tree = next_tree db.schema

  abbrev after : Database
  after = record { schema = created db.schema (table_of form 0); trees = trees }

  below : (u : Table) → Has db.schema.tables u → u.tree ≡ tree → ⊥
  below u k e = let low = table_below db.schema u k in omega (arith, low, e)

  abbrev more : Extends db after
  more = extends_made db (table_of form 0) trees refl rows

  made_has : IsDatabase db → IsFree db.schema form.name → HasTable after.schema form
  made_has sound free =
      let was = unused db.schema form.name free.unused in
      let place : length db.schema.tables ≡ 0 + length db.schema.tables = omega arith in
      record {
        at = length db.schema.tables;
        tree = tree;
        named = placed_after (λ (t : Table). same_name t.name form.name) db.schema.tables (table_of form tree
            ∷ []) 0 was.0 ∙ rw (named_itself n) (ap Some (sym place));
        there = got_here db.schema.tables [] (table_of form tree);
        alone = all_both (is_apart form tree) db.schema.tables (table_of form tree ∷ [])
            (test_from (is_apart form tree) db.schema.tables
            (λ u k. elsewhere u.tree tree (bytes_eq u.name form.name) (below u k)))
            (test_from (is_apart form tree) (table_of form tree ∷ []) (λ u k. elim k [
              | inl same ↦
                  rw (ap (λ (t : Table). t.name) same, (bytes_eq-Decides form.name form.name).1 refl)
                  (or_true (not (u.tree == tree)))
              | inr none ↦ absurd none
            ]));
        unindexed = all_both (spares form tree) db.schema.indexes (indexes_of n tree)
            (test_from (spares form tree) db.schema.indexes (λ i k.
            let t = owner_of db sound i k in elsewhere i.table tree (bytes_eq i.name (key_index form))
            (λ e. below t.0 t.1 (sym t.2 ∙ e))))
            (test_from (spares form tree) (indexes_of n tree) (λ i k.
            rw (test_has (λ (i : Index). bytes_eq i.name (key_index form)) (indexes_of n tree) i
            (key_indexes n tree) k) (or_true (not (i.table == tree)))));
        unreferred = all_both (refers_not form.name) db.schema.tables (table_of form tree ∷ []) free.unreferred refl;
      }

  other_name : (m : TableName) → (code n ≡ code m → ⊥) → same_name form.name (form_of m).name ≡ false
  other_name m apart = not_true _ (go (code n == code m) refl
      (test_has (λ m. (code n == code m) || not (same_name (form_of n).name (form_of m).name)) tables m
      (names_differ n) (had_in tables m (among_tables m))))
    where
      go : (b : Bool) → (code n == code m) ≡ b → (b || not (same_name form.name (form_of m).name)) ≡ true
          → not (same_name form.name (form_of m).name) ≡ true
      go true e h = absurd (apart (eqb-true (code n) (code m) e))
      go false e h = h

  made_frees : (m : TableName) → (code n ≡ code m → ⊥) → IsFree db.schema (form_of m).name
      → IsFree after.schema (form_of m).name
  made_frees m apart =
      still_free db after (form_of m).name more (other_name m apart, tt)
      (never (λ (i : Index). same_name i.name (form_of m).name) (indexes_of n tree)
      (test_has (λ m. list_all (λ (i : Index). not (same_name i.name (form_of m).name))
      (indexes_of n tree)) tables m (indexes_differ n tree) (had_in tables m (among_tables m))))

  only_made : (t : Table) → Has after.schema.tables t → Has db.schema.tables t ⊎ IsMadeAs form.name t
  only_made t there = elim (has_either db.schema.tables (table_of form tree ∷ []) t there) [
    | inl old ↦ inl old
    | inr (inl same) ↦ inr (inl (ap (λ (u : Table). u.name) same))
    | inr (inr none) ↦ absurd none
  ]

  pub finds_made : Gains db after n
  unfolding made_has
  finds_made = record {
    extends = more;
    has = λ sound free. (made_has sound free, empty);
    frees = made_frees;
    only = only_made;
  }

-- the table in which SQLite counts is no table of ours
module _ (n : TableName) (db mid : Database) (trees : Trees) (rows : KeepsRows mid.schema.tables mid.trees trees) where
  abbrev last : Database
  last = record { schema = created mid.schema sequence; trees = trees }

  abbrev counted : Extends mid last
  counted = extends_made mid sequence trees sequence_plain.0 rows

  only_counted : Gains db mid n → (t : Table) → Has last.schema.tables t
      → Has db.schema.tables t ⊎ IsMadeAs (form_of n).name t
  only_counted found t there =
      elim (has_either mid.schema.tables (record sequence { tree = next_tree mid.schema } ∷ []) t there) [
        | inl old ↦ found.only t old
        | inr (inl same) ↦ inr (inr (ap (λ (u : Table). u.name) same ∙ sequence_named))
        | inr (inr none) ↦ absurd none
      ]

  with_sequence : Gains db mid n → Gains db last n
  with_sequence found = record {
    extends = extends_then db mid last found.extends counted;
    has = λ sound free. let it = found.has sound free in
        (still_has mid last (form_of n) counted it.0, still_rows mid last (form_of n) counted it.0 ∙ it.1);
    frees = λ m apart free.
        still_free mid last (form_of m).name counted (
          not_true _ (test_has (λ m. not (same_name sequence.name (form_of m).name)) tables m sequence_plain.2
              (had_in tables m (among_tables m))),
          tt,
        )
        (subst (λ keys. AllByRecursion (λ (i : Index). same_name i.name (form_of m).name ≡ false)
        (automatics (record sequence { tree = next_tree mid.schema }) 0 (next_tree mid.schema + 1) keys))
        (sym sequence_plain.1) tt) (found.frees m apart free);
    only = only_counted found;
  }

-- the table in which SQLite counts comes too
counted_too : (n : TableName) (db mid after : Database) → Gains db mid n
    → CreatesTable mid.schema sequence_text mid.trees after.schema after.trees → Gains db after n
counted_too n db mid after here made =
    let both : ◌≡◌ {A = Checked Table} (Ok made.table) (Ok sequence) = sym made.defined ∙ sequence_is in
    let table : made.table ≡ sequence = cc in
    let schema : after.schema ≡ created mid.schema sequence = made.is ∙ ap (created mid.schema) table in
    let whole : after ≡ record { schema = created mid.schema sequence; trees = after.trees } =
    ap (λ (s : Schema). record { schema = s; trees = after.trees }) schema in
    subst (λ d. Gains db d n) (sym whole) (with_sequence n db mid after.trees made.others here)

-- CREATE TABLE of one of our tables finds its name unused
pub finds_unused : (n : TableName) (limit : Option ℕ) (mode : Mode) (db after : Database) (tally : Tally)
    → Does limit mode [] db (create_text (form_of n)) None does.CreateTable (Ok (tally, after))
    → is_used db.schema (form_of n).name ≡ false
finds_unused n limit mode db after tally done =
    let all = went done in
    let first = went all.1 in
    let made = first.1 in
    let both : ◌≡◌ {A = Checked Table} (Ok made.table) (Ok (table_of (form_of n) 0)) = sym made.defined ∙ defines n in
    let table : made.table ≡ table_of (form_of n) 0 = cc in
    subst (λ (t : Table). is_used db.schema t.name ≡ false) table made.free

-- it makes the table
pub finds : (n : TableName) (limit : Option ℕ) (mode : Mode) (db after : Database) (tally : Tally)
    → Does limit mode [] db (create_text (form_of n)) None does.CreateTable (Ok (tally, after)) → Gains db after n
finds n limit mode db after tally done =
    let all = went done in
    let first = went all.1 in
    let made = first.1 in
    let both : ◌≡◌ {A = Checked Table} (Ok made.table) (Ok (table_of (form_of n) 0)) = sym made.defined ∙ defines n in
    let table : made.table ≡ table_of (form_of n) 0 = cc in
    let schema : first.0.schema ≡ created db.schema (table_of (form_of n) 0) = made.is ∙ ap (created db.schema) table in
    let mid : first.0 ≡ record { schema = created db.schema (table_of (form_of n) 0); trees = first.0.trees } =
    ap (λ (s : Schema). record { schema = s; trees = first.0.trees }) schema in
    let here : Gains db first.0 n = subst (λ d. Gains db d n) (sym mid)
    (finds_made n db first.0.trees made.empty made.others) in
    let now : after ≡ all.0 = ap (λ (p : Tally × Database). p.1) (same_value all.2) in
    subst (λ d. Gains db d n) (sym now) (elim (cases_Bool (lacks_sequence first.0.schema)) [
      | inl lacks ↦ counted_too n db first.0 all.0 here (rw lacks at first.2)
      | inr plain ↦ subst (λ d. Gains db d n) (sym (same_value (rw plain at first.2))) here
    ])
