-- A database that has more tables than another, behind those of the other.
use Rattle.std.proofs.Common.{◌≡◌, ◌⊎◌, inl, inr, List, [], ◌∷◌, ◌++◌, ◌||◌, not, ◌==◌, ℕ, zero, suc, ◌+◌, Bool, true}
use Rattle.std.proofs.Common.{false, None, Some, Option, filter, is_some, length, slice_get, append-nil, append_assoc}
use Rattle.std.proofs.Common.{refl, sym, ap, subst, ◌∙◌, arith}
use Rattle.std.proofs.lemmas.Bool.{cases_Bool, eqb-true, true≢false}
use Rattle.std.proofs.lemmas.List.Folds.{list_all-append}
use Rattle.std.specs.List.{AllByRecursion, AllZip, list_all, position_from}
use Rattle.std.specs.Str.{bytes_eq}
use Rattle.sqlite.specs.Effect.{Database, IsDatabase}
use Rattle.sqlite_catalog.proofs.LayoutLemmas.{index_owner}
use Rattle.sqlite_catalog.proofs.StepLemmas.{table_below}
use Rattle.sqlite_catalog.specs.Change.{KeepsRows, automatics, created, is_used, next_tree}
use Rattle.sqlite_catalog.specs.Listing.{IsIndexRow, is_index_row}
use Rattle.sqlite_rules.proofs.ListLemmas.{all_from, all_has, has_got, test_from}
use Rattle.sqlite_rules.specs.Lists.{Has}
use Rattle.sqlite_schema.specs.Names.{index_named, same_name, table_named, view_named}
use Rattle.sqlite_schema.specs.declared.schema.Index.{Index}
use Rattle.sqlite_schema.specs.declared.schema.Reference.{Reference}
use Rattle.sqlite_schema.specs.declared.schema.Schema.{Schema}
use Rattle.sqlite_schema.specs.declared.schema.Table.{Table}
use Rattle.sqlite_schema.specs.declared.schema.View.{View}
use Rattle.sqlite_trees.specs.Objects.{catalog_tree}
use Rattle.sqlite_trees.specs.Tree.{Trees}
use Rattle.sqlite_value.specs.Order.{Row as Cells}
use Rattle.vet_tables.specs.Form.{TableForm, table_of}
use Rattle.vet_tables.specs.Has.{HasTable, is_apart, refers_not, spares}
use Rattle.vet_tables.specs.Extends.{Extends}
use Rattle.vet_tables.specs.Free.{IsFree}

-- ---- lists

pub has_front : {X : Type 0} (xs ys : List X) (x : X) → Has xs x → Has (xs ++ ys) x
has_front [] ys x h = absurd h
has_front (y ∷ xs) ys x (inl e) = inl e
has_front (y ∷ xs) ys x (inr h) = inr (has_front xs ys x h)

has_back : {X : Type 0} (xs ys : List X) (x : X) → Has ys x → Has (xs ++ ys) x
has_back [] ys x h = h
has_back (y ∷ xs) ys x h = inr (has_back xs ys x h)

pub has_either : {X : Type 0} (xs ys : List X) (x : X) → Has (xs ++ ys) x → Has xs x ⊎ Has ys x
has_either [] ys x h = inr h
has_either (y ∷ xs) ys x (inl e) = inl (inl e)
has_either (y ∷ xs) ys x (inr h) = elim (has_either xs ys x h) [ inl a ↦ inl (inr a) | inr b ↦ inr b ]

module _ {X : Type 0} (p : X → Bool) where
  placed_first : (xs ys : List X) (k i : ℕ) → position_from p k xs ≡ Some i → position_from p k (xs ++ ys) ≡ Some i
  placed_first [] ys k i is = absurd cc
  placed_first (x ∷ xs) ys k i is = elim (cases_Bool (p x)) [
    | inl a ↦ rw a (rw a at is)
    | inr a ↦ rw a (placed_first xs ys (k + 1) i (rw a at is))
  ]

  pub placed_after : (xs ys : List X) (k : ℕ) → position_from p k xs ≡ None
      → position_from p k (xs ++ ys) ≡ position_from p (k + length xs) ys
  placed_after [] ys k none = ap (λ j. position_from p j ys) (omega arith)
  placed_after (x ∷ xs) ys k none = elim (cases_Bool (p x)) [
    | inl a ↦ absurd (let e = rw a at none in cc)
    | inr a ↦ rw a (placed_after xs ys (k + 1) (rw a at none) ∙ ap (λ j. position_from p j ys) (omega arith))
  ]

  placed_before : (xs ys : List X) (k : ℕ) → position_from p k (xs ++ ys) ≡ None → position_from p k xs ≡ None
  placed_before [] ys k none = refl
  placed_before (x ∷ xs) ys k none = elim (cases_Bool (p x)) [
    | inl a ↦ absurd (let e = rw a at none in cc)
    | inr a ↦ rw a (placed_before xs ys (k + 1) (rw a at none))
  ]

  placed_nowhere : (xs : List X) (k : ℕ) → AllByRecursion (λ x. p x ≡ false) xs → position_from p k xs ≡ None
  placed_nowhere [] k all = refl
  placed_nowhere (x ∷ xs) k all = rw all.0 (placed_nowhere xs (k + 1) all.1)

got_front : {X : Type 0} (xs ys : List X) (i : ℕ) (x : X) → slice_get xs i ≡ Some x → slice_get (xs ++ ys) i ≡ Some x
got_front [] ys i x is = absurd cc
got_front (y ∷ xs) ys zero x is = is
got_front (y ∷ xs) ys (suc i) x is = got_front xs ys i x is

pub got_here : {X : Type 0} (xs ys : List X) (y : X) → slice_get (xs ++ y ∷ ys) (length xs) ≡ Some y
got_here [] ys y = refl
got_here (x ∷ xs) ys y = got_here xs ys y

pub all_both : {X : Type 0} (p : X → Bool) (xs ys : List X) → list_all p xs ≡ true → list_all p ys ≡ true
    → list_all p (xs ++ ys) ≡ true
all_both p xs ys one two = list_all-append p xs ys ∙ rw (one, two)

pub elsewhere : (a b : ℕ) (c : Bool) → (a ≡ b → ⊥) → (not (a == b) || c) ≡ true
elsewhere a b c apart = go (a == b) refl
  where
    go : (e : Bool) → (a == b) ≡ e → (not e || c) ≡ true
    go true e = absurd (apart (eqb-true a b e))
    go false e = refl

-- ---- more tables

pub extends_none : (db : Database) → Extends db db
extends_none db = record {
  tables = [];
  indexes = [];
  tables_are = sym (append-nil _);
  indexes_are = sym (append-nil _);
  views_are = refl;
  fresh = λ t h u k. absurd h;
  owned = λ i h u k. absurd h;
  unbound = λ t h. absurd h;
  rows = all_from _ db.schema.tables (λ t h. refl);
}

pub extends_then : (a b c : Database) → Extends a b → Extends b c → Extends a c
extends_then a b c one two =
    let old_first = λ (u : Table) (h : Has a.schema.tables u). subst (λ ts. Has ts u) (sym one.tables_are)
    (has_front a.schema.tables one.tables u h) in
    record {
      tables = one.tables ++ two.tables;
      indexes = one.indexes ++ two.indexes;
      tables_are = two.tables_are ∙ ap (λ ts. ts ++ two.tables) one.tables_are
          ∙ append_assoc a.schema.tables one.tables two.tables;
      indexes_are = two.indexes_are ∙ ap (λ is. is ++ two.indexes) one.indexes_are
          ∙ append_assoc a.schema.indexes one.indexes two.indexes;
      views_are = two.views_are ∙ one.views_are;
      fresh = λ t h u k. elim (has_either one.tables two.tables t h)
          [ inl l ↦ one.fresh t l u k | inr r ↦ two.fresh t r u (old_first u k) ];
      owned = λ i h u k. elim (has_either one.indexes two.indexes i h)
          [ inl l ↦ one.owned i l u k | inr r ↦ two.owned i r u (old_first u k) ];
      unbound =
          λ t h. elim (has_either one.tables two.tables t h) [ inl l ↦ one.unbound t l | inr r ↦ two.unbound t r ];
      rows = all_from _ a.schema.tables (λ t h. all_has _ b.schema.tables t two.rows (old_first t h)
          ∙ all_has _ a.schema.tables t one.rows h);
    }

-- a table that was there is still found
pub still_has : (old new : Database) (form : TableForm) → Extends old new → HasTable old.schema form
    → HasTable new.schema form
still_has old new form more has =
    let there = has_got old.schema.tables has.at (table_of form has.tree) has.there in
    record {
      at = has.at;
      tree = has.tree;
      named = subst (λ ts. position_from (λ (t : Table). same_name t.name form.name) 0 ts ≡ Some has.at)
          (sym more.tables_are) (placed_first _ old.schema.tables more.tables 0 has.at has.named);
      there = subst (λ ts. slice_get ts has.at ≡ Some (table_of form has.tree)) (sym more.tables_are)
          (got_front old.schema.tables more.tables has.at _ has.there);
      alone = subst (λ ts. list_all (is_apart form has.tree) ts ≡ true) (sym more.tables_are)
          (all_both _ old.schema.tables more.tables has.alone (test_from _ more.tables (λ t h.
          elsewhere t.tree has.tree (bytes_eq t.name form.name)
          (λ e. more.fresh t h (table_of form has.tree) there (sym e)))));
      unindexed = subst (λ is. list_all (spares form has.tree) is ≡ true) (sym more.indexes_are)
          (all_both _ old.schema.indexes more.indexes has.unindexed (test_from _ more.indexes (λ i h.
          elsewhere i.table has.tree _ (more.owned i h (table_of form has.tree) there))));
      unreferred = subst (λ ts. list_all (refers_not form.name) ts ≡ true) (sym more.tables_are)
          (all_both _ old.schema.tables more.tables has.unreferred (test_from _ more.tables (λ t h.
          ap (list_all (λ (r : Reference). not (same_name form.name r.parent))) (more.unbound t h))));
    }

-- and has its rows
pub still_rows : (old new : Database) (form : TableForm) (more : Extends old new) (has : HasTable old.schema form)
    → new.trees (still_has old new form more has).tree ≡ old.trees has.tree
unfolding still_has
still_rows old new form more has = all_has _ old.schema.tables (table_of form has.tree) more.rows
    (has_got old.schema.tables has.at (table_of form has.tree) has.there)

-- what a free name finds
pub unused : (schema : Schema) (name : List ℕ) → is_used schema name ≡ false → (table_named schema name ≡ None)
    × (index_named schema name ≡ None) × (view_named schema name ≡ None)
unused schema name free = go (table_named schema name) (index_named schema name) (view_named schema name) free
  where
    go : (a b c : Option ℕ) → (is_some a || is_some b || is_some c) ≡ false → (a ≡ None) × (b ≡ None) × (c ≡ None)
    go None None None e = (refl, refl, refl)
    go (Some a) b c e = absurd (true≢false e)
    go None (Some b) c e = absurd (true≢false e)
    go None None (Some c) e = absurd (true≢false e)

-- a name that is unused in the end was unused at first
pub unused_before : (old new : Database) (name : List ℕ) → Extends old new → is_used new.schema name ≡ false
    → is_used old.schema name ≡ false
unused_before old new name more free =
    let none = unused new.schema name free in
    let a : table_named old.schema name ≡ None = placed_before _ old.schema.tables more.tables 0
    (sym (ap (position_from (λ (t : Table). same_name t.name name) 0) more.tables_are) ∙ none.0) in
    let b : index_named old.schema name ≡ None = placed_before _ old.schema.indexes more.indexes 0
    (sym (ap (position_from (λ (i : Index). same_name i.name name) 0) more.indexes_are) ∙ none.1) in
    let c : view_named old.schema name ≡ None =
    sym (ap (position_from (λ (w : View). same_name w.name name) 0) more.views_are) ∙ none.2 in
    rw (a, b, c)

-- a name that no new table or index has stays free
pub still_free : (old new : Database) (name : List ℕ) (more : Extends old new)
    → AllByRecursion (λ (t : Table). same_name t.name name ≡ false) more.tables
    → AllByRecursion (λ (i : Index). same_name i.name name ≡ false) more.indexes → IsFree old.schema name
    → IsFree new.schema name
still_free old new name more tables indexes free =
    let was = unused old.schema name free.unused in
    let a : table_named new.schema name ≡ None = ap
    (position_from (λ (t : Table). same_name t.name name) 0) more.tables_are
    ∙ placed_after _ old.schema.tables more.tables 0 was.0 ∙ placed_nowhere _ more.tables _ tables in
    let b : index_named new.schema name ≡ None = ap
    (position_from (λ (i : Index). same_name i.name name) 0) more.indexes_are
    ∙ placed_after _ old.schema.indexes more.indexes 0 was.1 ∙ placed_nowhere _ more.indexes _ indexes in
    let c : view_named new.schema name ≡ None = ap
    (position_from (λ (w : View). same_name w.name name) 0) more.views_are ∙ was.2 in
    record {
      unused = rw (a, b, c);
      unreferred = subst (λ ts. list_all (refers_not name) ts ≡ true) (sym more.tables_are)
          (all_both _ old.schema.tables more.tables free.unreferred (test_from _ more.tables (λ t h.
          ap (list_all (λ (r : Reference). not (same_name name r.parent))) (more.unbound t h))));
    }

-- ---- a table that is made

index_of : (objects : List Cells) (tables : List Table) (indexes : List Index)
    → AllZip (IsIndexRow tables) objects indexes → (i : Index) → Has indexes i → (t : Table) × Has tables t
    × (i.table ≡ t.tree)
index_of [] tables [] all i h = absurd h
index_of [] tables (j ∷ indexes) all i h = absurd all
index_of (o ∷ objects) tables [] all i h = absurd h
index_of (o ∷ objects) tables (j ∷ indexes) all i (inl e) = let r =
    all.0 in (r.table, r.listed, ap (λ (k : Index). k.table) e ∙ index_owner r.table j _ r.defined)
index_of (o ∷ objects) tables (j ∷ indexes) all i (inr h) = index_of objects tables indexes all.1 i h

-- each index is that of a table
pub owner_of : (db : Database) → IsDatabase db → (i : Index) → Has db.schema.indexes i → (t : Table)
    × Has db.schema.tables t × (i.table ≡ t.tree)
owner_of db sound =
    index_of (filter is_index_row (db.trees catalog_tree)) db.schema.tables db.schema.indexes sound.lists.listed.indexes

pub made_owner : (t : Table) (keys : List (List ℕ)) (at tree : ℕ) (i : Index) → Has (automatics t at tree keys) i
    → i.table ≡ t.tree
made_owner t [] at tree i h = absurd h
made_owner t (key ∷ keys) at tree i (inl e) = ap (λ (k : Index). k.table) e
made_owner t (key ∷ keys) at tree i (inr h) = made_owner t keys (at + 1) (tree + 1) i h

module _ (db : Database) (table : Table) (trees : Trees) (unbound : table.references ≡ [])
    (rows : KeepsRows db.schema.tables db.trees trees) where
  abbrev new_table : Table
  new_table = record table { tree = next_tree db.schema }

  abbrev pub made : Database
  made = record { schema = created db.schema table; trees = trees }

  pub below_made : (u : Table) → Has db.schema.tables u → u.tree ≡ next_tree db.schema → ⊥
  below_made u k e = let low = table_below db.schema u k in omega (arith, low, e)

  abbrev pub extends_made : Extends db made
  extends_made = record {
    tables = new_table ∷ [];
    indexes = automatics new_table 0 (new_table.tree + 1) table.uniques;
    tables_are = refl;
    indexes_are = refl;
    views_are = refl;
    fresh = λ t h u k e. elim h [
      | inl same ↦ below_made u k (e
          ∙ ap (λ (x : Table). x.tree) same)
      | inr none ↦ absurd none
    ];
    owned = λ i h u k e. below_made u k (sym e ∙ made_owner new_table table.uniques 0 (new_table.tree + 1) i h);
    unbound = λ t h. elim h [ inl same ↦ ap (λ (x : Table). x.references) same ∙ unbound | inr none ↦ absurd none ];
    rows = rows;
  }
