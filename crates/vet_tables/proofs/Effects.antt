-- The contents after a row is put in, or rows are taken out.
use Rattle.std.proofs.Common.{◌≡◌, ◌⊎◌, inl, inr, ℕ, List, [], ◌∷◌, true, false, cond, filter, not, ◌==◌, Some, Option}
use Rattle.std.proofs.Common.{map, slice_get, refl, sym, ap, subst, ◌∙◌}
use Rattle.std.proofs.lemmas.Bool.{cases_Bool, eq-eqb, eqb-true}
use Rattle.std.proofs.lemmas.Slice.Eq.{bytes_eq-Decides}
use Rattle.std.specs.List.{AllByRecursion, position}
use Rattle.std.specs.Str.{bytes_eq}
use Rattle.sqlite.specs.Effect.{Database, IsDatabase}
use Rattle.sqlite_rules.proofs.ListLemmas.{all_has, has_got}
use Rattle.sqlite_rules.specs.Edit.{next_rowid}
use Rattle.sqlite_schema.specs.declared.schema.Schema.{Schema}
use Rattle.sqlite_schema.specs.declared.schema.Table.{Table}
use Rattle.sqlite_trees.specs.Tree.{Trees}
use Rattle.sqlite_value.specs.Order.{Row as Cells}
use Rattle.vet_tables.proofs.Answered.{passes}
use Rattle.vet_tables.proofs.Edits.{Adds, KeepsElse, Removes}
use Rattle.vet_tables.proofs.KeyPasses.{passes_keyed}
use Rattle.vet_tables.proofs.Numbers.{filter_numbered, put_numbered}
use Rattle.vet_tables.proofs.RowSets.{left_out, put_in}
use Rattle.vet_tables.proofs.Shapes.{key_tests}
use Rattle.vet_tables.proofs.StoredRows.{has_rowid, shows_cells, stored_row}
use Rattle.vet_tables.proofs.TablePlaces.{each, same_or_other}
use Rattle.vet_tables.proofs.Unreferred.{passes_at}
use Rattle.vet_tables.specs.Contents.{Contents, HasContents, KeepsOthers, Shows, added, cleared, dropped}
use Rattle.vet_tables.specs.Form.{TableForm, table_of}
use Rattle.vet_tables.specs.Forms.{code, form_of, tables}
use Rattle.vet_tables.specs.Has.{HasTable, HasTables, is_apart}
use Rattle.vet_tables.specs.Keyed.{is_keyed}
use Rattle.vet_tables.specs.Numbered.{AreNumbered}
use Rattle.vet_tables.specs.Typed.{AreSorts, kinds_of}
use Rattle.vet_tables.specs.declared.table_name.TableName.{TableName}

-- ---- each of our tables has a tree of its own

abbrev names : List (List ℕ)
names = map (λ n. (form_of n).name) tables

abbrev name_code : List ℕ → Option ℕ
name_code name = position (bytes_eq name) names

name_code_is : (n : TableName) → name_code (form_of n).name ≡ Some (code n)
name_code_is n = each (λ n. name_code (form_of n).name ≡ Some (code n)) (assumption refl) n

pub trees_apart : (schema : Schema) (has : HasTables schema) (m n : TableName) → (code m ≡ code n → ⊥)
    → (has m).tree ≡ (has n).tree → ⊥
trees_apart schema has m n apart same =
    let there = has_got schema.tables (has m).at (table_of (form_of m) (has m).tree) (has m).there in
    let passed = passes_at (is_apart (form_of n) (has n).tree) schema.tables (table_of (form_of m) (has m).tree)
    (has n).alone there in
    let equal : ((has m).tree == (has n).tree) ≡ true = eq-eqb (has m).tree (has n).tree same in
    let named : bytes_eq (form_of m).name (form_of n).name ≡ true = rw equal at passed in
    let names : (form_of m).name ≡ (form_of n).name = (bytes_eq-Decides (form_of m).name (form_of n).name).0 named in
    let codes : ◌≡◌ {A = Option ℕ} (Some (code m)) (Some (code n)) = sym (name_code_is m) ∙ ap name_code names
    ∙ name_code_is n in
    apart (let e : code m ≡ code n = cc in e)

-- the tree of a table that is found under a name
pub same_tree : (schema : Schema) (form : TableForm) (a b : HasTable schema form) → a.tree ≡ b.tree
same_tree schema form a b =
    let places : ◌≡◌ {A = Option ℕ} (Some a.at) (Some b.at) = sym a.named ∙ b.named in
    let place : a.at ≡ b.at = cc in
    let tables : ◌≡◌ {A = Option Table} (Some (table_of form a.tree)) (Some (table_of form b.tree)) = sym a.there
    ∙ ap (slice_get schema.tables) place ∙ b.there in
    let table : table_of form a.tree ≡ table_of form b.tree = cc in
    ap (λ (t : Table). t.tree) table

-- ---- the same contents

pub same_contents : (db : Database) (a b : Contents) → ((n : TableName) → a n ≡ b n) → HasContents db a
    → HasContents db b
same_contents db a b same holds = record {
  sound = holds.sound;
  has = holds.has;
  shows = λ n. subst (Shows (form_of n) (db.trees (holds.has n).tree)) (same n) (holds.shows n);
}

pub here_is : (n : TableName) → (code n == code n) ≡ true
here_is n = eq-eqb (code n) (code n) refl

-- a table that is another
pub apart_is : (m n : TableName) → (code m ≡ code n → ⊥) → (code m == code n) ≡ false
apart_is m n apart = elim (cases_Bool (code m == code n)) [
  | inl same ↦ absurd (apart (eqb-true (code m) (code n) same))
  | inr other ↦ other
]

pub added_here : (n : TableName) (cells : Cells) (contents : Contents) → added n cells contents n ≡ cells ∷ contents n
added_here n cells contents = ap (λ b. cond b (cells ∷ contents n) (contents n)) (here_is n)

pub added_elsewhere : (m n : TableName) (cells : Cells) (contents : Contents) → (code m ≡ code n → ⊥)
    → added n cells contents m ≡ contents m
added_elsewhere m n cells contents apart =
    ap (λ b. cond b (cells ∷ contents m) (contents m)) (apart_is m n apart)

pub dropped_here : (n : TableName) (key : Cells) (contents : Contents)
    → dropped n key contents n ≡ filter (λ cells. not (is_keyed (form_of n) key cells)) (contents n)
dropped_here n key contents =
    ap (λ b. cond b (filter (λ cells. not (is_keyed (form_of n) key cells)) (contents n)) (contents n)) (here_is n)

pub dropped_elsewhere : (m n : TableName) (key : Cells) (contents : Contents) → (code m ≡ code n → ⊥)
    → dropped n key contents m ≡ contents m
dropped_elsewhere m n key contents apart =
    ap (λ b. cond b (filter (λ cells. not (is_keyed (form_of m) key cells)) (contents m)) (contents m))
    (apart_is m n apart)

pub cleared_here : (n : TableName) (contents : Contents) → cleared n contents n ≡ []
cleared_here n contents = ap (λ b. cond b [] (contents n)) (here_is n)

pub cleared_elsewhere : (m n : TableName) (contents : Contents) → (code m ≡ code n → ⊥)
    → cleared n contents m ≡ contents m
cleared_elsewhere m n contents apart = ap (λ b. cond b [] (contents m)) (apart_is m n apart)

-- no test leaves no row
none_left : (rows : List Cells) → filter (λ r. not (passes [] [] r)) rows ≡ []
none_left [] = refl
none_left (r ∷ rows) = none_left rows

-- ---- all tables

abbrev over : Database → Trees → Database
over db trees = record { schema = db.schema; trees = trees }

module _ (n : TableName) (db : Database) (contents : Contents) (holds : HasContents db contents) (trees : Trees)
    (sound : IsDatabase (over db trees))
    (else : AllByRecursion (λ t. (t.tree ≡ (holds.has n).tree → ⊥)
    → trees t.tree ≡ db.trees t.tree) db.schema.tables) where
  abbrev here : ℕ
  here = (holds.has n).tree

  stays : (m : TableName) → (code m ≡ code n → ⊥) → trees (holds.has m).tree ≡ db.trees (holds.has m).tree
  stays m apart =
      all_has _ db.schema.tables (table_of (form_of m) (holds.has m).tree) else
      (has_got db.schema.tables (holds.has m).at (table_of (form_of m) (holds.has m).tree) (holds.has m).there)
      (trees_apart db.schema holds.has m n apart)

  with_tree : (next : Contents) → Shows (form_of n) (trees here) (next n)
      → ((m : TableName) → (code m ≡ code n → ⊥) → next m ≡ contents m) → HasContents (over db trees) next
  with_tree next shows others = record {
    sound = sound;
    has = holds.has;
    shows = λ m. go m (same_or_other m n);
  }
    where
      go : (m : TableName) → (m ≡ n) ⊎ (code m ≡ code n → ⊥) → Shows (form_of m) (trees (holds.has m).tree) (next m)
      go m (inl same) = subst (λ k. Shows (form_of k) (trees (holds.has k).tree) (next k)) (sym same) shows
      go m (inr apart) = rw (stays m apart, others m apart) (holds.shows m)

module _ (n : TableName) (db after : Database) where
  -- an INSERT of cells
  pub adds_holds : (cells : Cells) → AreSorts (kinds_of (form_of n)) cells → (has : HasTable db.schema (form_of n))
      → Adds db has.tree (stored_row (form_of n) (next_rowid (db.trees has.tree)) cells) after → IsDatabase after
      → (contents : Contents) → HasContents db contents → HasContents after (added n cells contents)
  adds_holds cells sorts has adds sound contents holds =
      let same : has.tree ≡ (holds.has n).tree = same_tree db.schema (form_of n) has (holds.has n) in
      let mine =
      subst (λ tree. Adds db tree (stored_row (form_of n) (next_rowid (db.trees tree)) cells) after) same adds in
      let whole : after ≡ over db after.trees = ap
      (λ (s : Schema). record { schema = s; trees = after.trees }) mine.2.0 in
      let tree = (holds.has n).tree in
      let new = stored_row (form_of n) (next_rowid (db.trees tree)) cells in
      let was = holds.shows n in
      let numbered = put_numbered new (db.trees tree) (has_rowid n cells sorts (next_rowid (db.trees tree))) mine.1
      was.numbered in
      let items = put_in (form_of n) (contents n) cells (db.trees tree) new mine.1
      (shows_cells n cells sorts (next_rowid (db.trees tree))) was.same in
      let shows : Shows (form_of n) (after.trees tree) (added n cells contents n) =
      rw (mine.0, added_here n cells contents) (record { numbered = numbered; same = items }) in
      subst (λ (d : Database). HasContents d (added n cells contents)) (sym whole)
      (with_tree n db contents holds after.trees (subst IsDatabase whole sound) mine.2.1 (added n cells contents) shows
      (λ m apart. added_elsewhere m n cells contents apart))

  -- a DELETE by a key
  pub removes_holds : (key : Cells) (has : HasTable db.schema (form_of n))
      → Removes db has.tree (key_tests (form_of n)) key after
      → IsDatabase after → (contents : Contents) → HasContents db contents → HasContents after (dropped n key contents)
  removes_holds key has removes sound contents holds =
      let same : has.tree ≡ (holds.has n).tree = same_tree db.schema (form_of n) has (holds.has n) in
      let mine = subst (λ tree. Removes db tree (key_tests (form_of n)) key after) same removes in
      let whole : after ≡ over db after.trees = ap
      (λ (s : Schema). record { schema = s; trees = after.trees }) mine.1.0 in
      let tree = (holds.has n).tree in
      let was = holds.shows n in
      let left = mine.0 was.numbered in
      let items = left_out (form_of n) (is_keyed (form_of n) key) (passes (key_tests (form_of n)) key)
      (contents n) (db.trees tree) (passes_keyed n key) was.same in
      let shows : Shows (form_of n) (after.trees tree) (dropped n key contents n) =
      rw (left, dropped_here n key contents)
      (record { numbered = filter_numbered _ (db.trees tree) was.numbered; same = items }) in
      subst (λ (d : Database). HasContents d (dropped n key contents)) (sym whole)
      (with_tree n db contents holds after.trees (subst IsDatabase whole sound) mine.1.1 (dropped n key contents) shows
      (λ m apart. dropped_elsewhere m n key contents apart))

  -- a DELETE of all rows
  pub clears_holds : (has : HasTable db.schema (form_of n)) → Removes db has.tree [] [] after → IsDatabase after
      → (contents : Contents) → HasContents db contents → HasContents after (cleared n contents)
  clears_holds has removes sound contents holds =
      let same : has.tree ≡ (holds.has n).tree = same_tree db.schema (form_of n) has (holds.has n) in
      let mine = subst (λ tree. Removes db tree [] [] after) same removes in
      let whole : after ≡ over db after.trees = ap
      (λ (s : Schema). record { schema = s; trees = after.trees }) mine.1.0 in
      let tree = (holds.has n).tree in
      let was = (holds.shows n).numbered in
      let left = mine.0 was ∙ none_left (db.trees tree) in
      let numbered = subst AreNumbered (none_left (db.trees tree))
      (filter_numbered (λ r. not (passes [] [] r)) (db.trees tree) was) in
      let shows : Shows (form_of n) (after.trees tree) (cleared n contents n) =
      rw (left, cleared_here n contents) (record { numbered = numbered; same = (λ x i. i, λ x i. i) }) in
      subst (λ (d : Database). HasContents d (cleared n contents)) (sym whole)
      (with_tree n db contents holds after.trees (subst IsDatabase whole sound) mine.1.1 (cleared n contents) shows
      (λ m apart. cleared_elsewhere m n contents apart))

-- the schema stays, and so do the rows of other tables
pub spares_others : (n : TableName) (db after : Database) (has : HasTable db.schema (form_of n))
    → KeepsElse db has.tree after → KeepsOthers db after
spares_others n db after has keeps = record {
  schema = keeps.0;
  rows = λ t there other. all_has _ db.schema.tables t keeps.1 there
      (other n (table_of (form_of n) has.tree) (has_got db.schema.tables has.at
      (table_of (form_of n) has.tree) has.there) refl);
}
