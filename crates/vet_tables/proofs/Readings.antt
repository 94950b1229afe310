-- What reading a table shows of it.
use Rattle.std.proofs.Common.{◌≡◌, ◌⊎◌, inl, inr, ℕ, ℤ, ◌^◌, ◌<◌, ◌<ℤ◌, nat_lt, IfSome, List, [], ◌∷◌, ◌++◌, drop, map}
use Rattle.std.proofs.Common.{filter, true, false, None, Some, Option, Ok, Err, IsTrue, refl, sym, ap, subst, subst₂}
use Rattle.std.proofs.Common.{◌∙◌, arith, Less}
use Rattle.std.proofs.lemmas.Bool.{cases_Bool, lt-ltb}
use Rattle.std.proofs.lemmas.Cmp.{int_cmp_total}
use Rattle.std.proofs.lemmas.List.Sorted.{IsPermutation-sym}
use Rattle.std.specs.Cmp.{int_cmp_is, int_ranks}
use Rattle.std.specs.List.{AllByRecursion, AllZip}
use Rattle.std.specs.List.Sorted.{IsPermutation}
use Rattle.std.specs.Ordering.{is_eq}
use Rattle.sqlite.proofs.StateLemmas.{survives_weaker}
use Rattle.sqlite.proofs.Callers.{EndsIn, begins_shown}
use Rattle.sqlite.specs.Clock.{timed}
use Rattle.sqlite.specs.Command.TheVariants.{Select}
use Rattle.sqlite.specs.Effect.{Database, IsDatabase, Reads}
use Rattle.sqlite.specs.Given.{HasBegun, HasGiven, Returns}
use Rattle.sqlite.specs.Held.{Held, state}
use Rattle.sqlite.specs.Listing.{IsSourceOf, if_select, is_select, listing_schema, reads_listing, understood}
use Rattle.sqlite.specs.State.{Begins, CommitsShowing, IsUnchanged, Shown, State, Survives}
use Rattle.sqlite.specs.Store.{Ghosts}
use Rattle.sqlite_catalog.specs.Listing.{IsTableRow, is_table_row}
use Rattle.sqlite_ast.specs.declared.Statement.{Statement}
use Rattle.sqlite_ast.specs.declared.Statement.TheVariants as written
use Rattle.sqlite_resolve.specs.Compile.{command, compiled, meaning, planned, read, returning, timed as timed_by}
use Rattle.sqlite_resolve.specs.Compile.{with_command}
use Rattle.sqlite_resolve.specs.Lowering.{Checked, and_then}
use Rattle.sqlite_resolve.specs.declared.compiled.Compiled.{Compiled}
use Rattle.sqlite_rules.proofs.ListLemmas.{has_got}
use Rattle.sqlite_rules.specs.Lists.{Has}
use Rattle.sqlite_schema.specs.declared.command.Command.{Command}
use Rattle.sqlite_schema.specs.declared.schema.Schema.{Schema}
use Rattle.sqlite_schema.specs.declared.schema.Table.{Table}
use Rattle.sqlite_trees.proofs.ListLemmas.{all-permutation, all_from_map, all_of, all_weaker, along_permutation}
use Rattle.sqlite_trees.proofs.ListLemmas.{ascending_from_map, filter_all, map-map}
use Rattle.sqlite_sql.specs.Term.{eval_all}
use Rattle.sqlite_trees.specs.Objects.{catalog_tree}
use Rattle.sqlite_trees.specs.Tree.{IsAscending, Trees, rowid}
use Rattle.sqlite_trees.specs.View.{is_int}
use Rattle.sqlite_value.proofs.OrderLemmas.{value_cmp-Int}
use Rattle.sqlite_value.specs.Order.{Row as Cells, column, value_cmp}
use Rattle.sqlite_value.specs.declared.value.Value.TheVariants.{Int}
use Rattle.vet_tables.proofs.Answered.{answered}
use Rattle.vet_tables.proofs.Edits.{overlays}
use Rattle.vet_tables.proofs.Meanings.{Means}
use Rattle.vet_tables.proofs.Numbers.{apart_back}
use Rattle.vet_tables.proofs.Shapes.{IsSelection, select_parses, selected}
use Rattle.sqlite_rules.proofs.TableLemmas.{int_is}
use Rattle.sqlite_schema.specs.declared.schema.Kind.TheVariants as kind
use Rattle.sqlite_value.specs.declared.value.Value.{Value}
use Rattle.vet_base.proofs.ItemLemmas.{in_back, in_front, in_map, map_in}
use Rattle.vet_base.specs.Items.{IsIn, SameItems}
use Rattle.vet_tables.proofs.RowSets.{items_map, items_permuted}
use Rattle.vet_tables.proofs.TablePlaces.{each}
use Rattle.vet_tables.specs.Contents.{Shows}
use Rattle.vet_tables.specs.Typed.{AreTyped, IsKind, kinds_of}
use Rattle.vet_tables.proofs.TableMeanings.{by_rowid, over, select_is, select_terms}
use Rattle.vet_tables.specs.Form.{TableForm, shown, table_of}
use Rattle.vet_tables.specs.Forms.{form_of}
use Rattle.vet_tables.specs.Has.{HasTable}
use Rattle.vet_tables.specs.Numbered.{AreApart, AreNumbered}
use Rattle.vet_tables.specs.Texts.{select_text}
use Rattle.vet_tables.specs.declared.table_name.TableName.{TableName}

-- ---- a SELECT writes nothing

quiet_compiled : (n : TableName) (schema : Schema) (c : Compiled) → compiled schema (select_text (form_of n)) ≡ Ok c
    → c.returning ≡ None
unfolding compiled planned meaning returning command
quiet_compiled n schema c is = let p = select_parses n in by (selected n).statement refl p.1
  where
    by : (s : Statement) → (selected n).statement ≡ s → IsSelection (form_of n).name s → c.returning ≡ None
    by (written.Select s) st parts = let p = select_parses n in go (read schema s) (rw (p.0, st) at is)
      where
        go : (k : Checked Command) → and_then (and_then (and_then k (λ d. Ok (d, None)))
            (λ found. Ok (timed_by schema (selected n).formats (written.Select s), found)))
            (λ plan. Ok (with_command (selected n) plan)) ≡ Ok c → c.returning ≡ None
        go (Ok d) same = let it : with_command (selected n)
            (timed_by schema (selected n).formats (written.Select s), (d, None)) ≡ c = cc in
            ap (λ (x : Compiled). x.returning) (sym it)
        go (Err e) same = absurd cc
    by _ st parts = absurd parts

pub quiet : (n : TableName) (schema : Schema) (c : Compiled) → understood schema (select_text (form_of n)) ≡ Ok c
    → c.returning ≡ None
unfolding understood
quiet n schema c is = elim (cases_Bool (reads_listing schema (select_text (form_of n)))) [
  | inl listing ↦ through (compiled listing_schema (select_text (form_of n))) refl (rw listing at is)
  | inr stored ↦ quiet_compiled n schema c (rw stored at is)
]
  where
    through : (r : Checked Compiled) → compiled listing_schema (select_text (form_of n)) ≡ r → if_select r ≡ Ok c
        → c.returning ≡ None
    through (Ok d) known same = elim (cases_Bool (is_select d.command)) [
      | inl yes' ↦ quiet_compiled n listing_schema c (known ∙ rw yes' at same)
      | inr no' ↦ absurd (let e = rw no' at same in cc)
    ]
    through (Err e) known same = absurd cc

never_returns : (n : TableName) (schema : Schema) → ¬ Returns (understood schema (select_text (form_of n)))
never_returns n schema = go (understood schema (select_text (form_of n))) refl
  where
    go : (r : Checked Compiled) → understood schema (select_text (form_of n)) ≡ r → ¬ Returns r
    go (Ok c) is some = absurd (let e = rw (quiet n schema c is) at some in cc)
    go (Err e) is some = some

commits_none : (n : TableName) (s : State) (db : Trees) → ¬ CommitsShowing (select_text (form_of n)) [] s db
unfolding CommitsShowing
commits_none n s db h = absurd (let e = rw (quiet n s.now.schema h.0 h.1.is) at h.2 in cc)

pub survives_quiet : (n : TableName) (old new : State)
    → Survives old new (CommitsShowing (select_text (form_of n)) [] old) → Survives old new (λ _. ⊥)
survives_quiet n old new kept = survives_weaker old new _ _ (λ clean db. commits_none n old db) kept

pub begun_quiet : {S : Type 0} (g : Ghosts S) (n : TableName) (old new : Held S)
    → HasBegun g (select_text (form_of n)) [] old new
    → HasGiven g (select_text (form_of n)) [] new [] × IsUnchanged (state g old) (state g new)
begun_quiet g n old new (inl h) = h
begun_quiet g n old new (inr h) = absurd (never_returns n old.schema h.0)

map_same : {X Y : Type 0} (f g : X → Y) → ((x : X) → f x ≡ g x) → (xs : List X) → map f xs ≡ map g xs
map_same f g same [] = refl
map_same f g same (x ∷ xs) = rw (same x, map_same f g same xs)

pub all_pushed : {X : Type 0} (P : X → Type 0) (xs : List X) (x : X) → AllByRecursion P xs → P x
    → AllByRecursion P (xs ++ x ∷ [])
all_pushed P [] x all here = (here, tt)
all_pushed P (y ∷ xs) x all here = (all.0, all_pushed P xs x all.1 here)

-- ---- the rows that are read

low_table : (objects : List Cells) (tables : List Table) → AllZip IsTableRow objects tables → (t : Table)
    → Has tables t → t.tree < 65536
low_table [] [] all t h = absurd h
low_table [] (u ∷ tables) all t h = absurd all
low_table (o ∷ objects) [] all t h = absurd h
low_table (o ∷ objects) (u ∷ tables) all t (inl e) = let it = all.0.described.low in
    omega (arith, it, ap (λ (x : Table). x.tree) e)
low_table (o ∷ objects) (u ∷ tables) all t (inr h) = low_table objects tables all.1 t h

-- a row with its rowid before what it shows
abbrev pub told : TableForm → Cells → Cells
told form r = column r 0 ∷ shown form r

told_is : (n : TableName) (r : Cells) → eval_all (select_terms (form_of n)) ([] ∷ r ∷ []) ≡ told (form_of n) r
told_is n r =
    each (λ n. eval_all (select_terms (form_of n)) ([] ∷ r ∷ []) ≡ told (form_of n) r) (assumption refl) n

module _ (n : TableName) (s : State) (has : HasTable s.now.schema (form_of n)) (sound : IsDatabase s.now) where
  abbrev text : List ℕ
  text = select_text (form_of n)

  low : nat_lt has.tree (2 ^ 31) ≡ true
  low =
      let it = low_table (filter is_table_row (s.now.trees catalog_tree)) s.now.schema.tables
      sound.lists.listed.tables (table_of (form_of n) has.tree)
      (has_got s.now.schema.tables has.at (table_of (form_of n) has.tree) has.there) in
      lt-ltb has.tree (2 ^ 31) (omega (arith, it))

  pub reads_meant : (heads : List (List ℕ)) × Means s.now.schema text
      (Select (record { lets = []; body = over has.tree [] (select_terms (form_of n)) by_rowid }) heads)
  reads_meant = select_is n s.now.schema has low

  pub shown_rows : (new : State) (rows : List Cells) → Shown text [] s new rows
      → IsPermutation (map (told (form_of n)) (s.now.trees has.tree)) rows
  unfolding Shown
  shown_rows new rows h =
      let means = reads_meant.1 in
      let facts = means.means h.0 (sym means.stored ∙ h.1.is) in
      let it = rw (facts.1, facts.2) at h.2 in
      let db : it.0 ≡ s.now = subst (λ b. IsSourceOf b s.now it.0) means.unlisted it.1 in
      let read : Reads (Select (record {
        lets = [];
        body =
            over has.tree [] (select_terms (form_of n)) by_rowid;
      }) reads_meant.0) s.now [] rows =
      subst₂ (λ k d. Reads k d [] rows) facts.0 db it.2 in
      let all = answered has.tree [] (select_terms (form_of n)) by_rowid s.now.trees []
      (overlays s.now.trees has.tree) rows read.answer in
      let kept = filter_all _ (s.now.trees has.tree) (all_of (λ r. true ≡ true) (λ r. refl) (s.now.trees has.tree)) in
      let same : map (λ r. eval_all (select_terms (form_of n)) ([] ∷ r ∷ [])) (s.now.trees has.tree) ≡ map
      (told (form_of n)) (s.now.trees has.tree) = map_same _ _ (told_is n) (s.now.trees has.tree) in
      subst (λ xs. IsPermutation xs rows) same (subst
      (λ xs. IsPermutation (map (λ r. eval_all (select_terms (form_of n)) ([] ∷ r ∷ [])) xs) rows) kept all)

  -- the first rows are those of a whole answer
  pub begun_rows : (new : State) (rows : List Cells) → Begins text [] s rows → IsUnchanged s new → (tail : List Cells)
      × IsPermutation (map (told (form_of n)) (s.now.trees has.tree)) (rows ++ tail)
  begun_rows new rows begins same =
      let means = reads_meant.1 in
      let whole = begins_shown text [] s new rows begins same
      (λ c db it from. subst (λ k. EndsIn k db (timed [] c.formats it.now))
      (sym (means.means c (sym means.stored ∙ it.is)).0) tt) in
      (whole.0, shown_rows new (rows ++ whole.0) whole.1)

-- ---- rowids that rise

module _ {X : Type 0} (R : X → X → Type 0) (back : (a b : X) → R a b → R b a) where
  abbrev Keeps : List X → List X → Type 0
  Keeps xs ys = (IsAscending R xs → IsAscending R ys) × ((x : X) → AllByRecursion (R x) xs → AllByRecursion (R x) ys)

  pairs_permuted : (xs ys : List X) → IsPermutation xs ys → IsAscending R xs → IsAscending R ys
  pairs_permuted xs ys same = (along_permutation Keeps (λ xs. (λ h. h, λ _ h. h))
      (λ x xs ys k. (λ h. (k.1 x h.0, k.0 h.1), λ z h. (h.0, k.1 z h.1)))
      (λ x y xs. (λ h. ((back x y h.0.0, h.1.0), (h.0.1, h.1.1)), λ z h. (h.1.0, (h.0, h.1.1))))
      (λ xs ys zs k l. (λ h. l.0 (k.0 h), λ z h. l.1 z (k.1 z h))) xs ys same).0

  pushed : (xs : List X) (x : X) → IsAscending R xs → AllByRecursion (λ y. R y x) xs → IsAscending R (xs ++ x ∷ [])
  pushed [] x up below = (tt, tt)
  pushed (y ∷ xs) x up below = (all_pushed (R y) xs x up.0 below.0, pushed xs x up.1 below.1)

below : (a b c : ℤ) → a <ℤ b → b <ℤ c → a <ℤ c
below a b c p q = rw (int_cmp_total.trans a b c (sym (int_cmp_is a b Less p)) (sym (int_cmp_is b c Less q))) at
    (int_ranks a c)

-- each rowid is a number up to the last
abbrev pub IsUpTo : Option ℤ → Cells → Type 0
IsUpTo None r = ⊥
IsUpTo (Some m) r = (n : ℤ) × (rowid r ≡ Int n) × ((n ≡ m) ⊎ (n <ℤ m))

pub record Rise (last : Option ℤ) (rows : List Cells) : Type 0 where
  pub ints : AllByRecursion (λ r. is_int (rowid r) ≡ true) rows
  pub apart : IsAscending AreApart rows
  pub up_to : AllByRecursion (IsUpTo last) rows

pub rise_none : Rise None []
rise_none = record { ints = tt; apart = tt; up_to = tt }

abbrev pub IsAbove : Option ℤ → ℤ → Type 0
IsAbove last id = IfSome last (λ m. m <ℤ id)

less_than : (last : Option ℤ) (id : ℤ) (r : Cells) → IsAbove last id → IsUpTo last r → (n : ℤ) × (rowid r ≡ Int n)
    × (n <ℤ id)
less_than None id r above up = absurd up
less_than (Some m) id r above up =
    (up.0, up.1, elim up.2 [ inl same ↦ subst (λ k. k <ℤ id) (sym same) above | inr less ↦ below up.0 m id less above ])

pub rise_more : (last : Option ℤ) (id : ℤ) (rows : List Cells) (row : Cells) → rowid row ≡ Int id → IsAbove last id
    → Rise last rows → Rise (Some id) (rows ++ row ∷ [])
rise_more last id rows row is above was = record {
  ints = all_pushed _ rows row was.ints (ap is_int is);
  apart = pushed AreApart apart_back rows row was.apart (all_weaker (IsUpTo last) (λ r. AreApart r row) (λ r up.
      let it = less_than last id r above up in
      subst₂ (λ a b. is_eq (value_cmp a b) ≡ false) (sym it.1) (sym is) (ap is_eq (value_cmp-Int it.0 id)
      ∙ ap is_eq (sym (int_cmp_is it.0 id Less it.2)))) rows was.up_to);
  up_to = all_pushed _ rows row (all_weaker (IsUpTo last) (IsUpTo (Some id)) (λ r up. let it =
      less_than last id r above up in (it.0, it.1, inr it.2)) rows was.up_to) (id, is, inl refl);
}

-- so those of the tree are numbered
pub numbered_by : (form : TableForm) (last : Option ℤ) (tree rows : List Cells)
    → IsPermutation (map (told form) tree) rows
    → Rise last rows → AreNumbered tree
numbered_by form last tree rows same rise =
    let back = IsPermutation-sym (map (told form) tree) rows same in
    record {
      ints = all_from_map (λ (r : Cells). is_int (rowid r) ≡ true) (told form) tree
          (all-permutation (λ (r : Cells). is_int (rowid r) ≡ true) rows (map (told form) tree) back rise.ints);
      apart = ascending_from_map AreApart (told form) tree
          (pairs_permuted AreApart apart_back rows (map (told form) tree) back rise.apart);
    }

int_kind : (v : Value) → is_int v ≡ true → IsKind kind.Integer v
int_kind v h = subst (IsKind kind.Integer) (sym (int_is v h)) tt

all_in_has : (P : Cells → Type 0) (xs : List Cells) (x : Cells) → AllByRecursion P xs → IsIn x xs → P x
all_in_has P [] x all i = absurd i
all_in_has P (y ∷ xs) x all (inl e) = subst P (sym e) all.0
all_in_has P (y ∷ xs) x all (inr i) = all_in_has P xs x all.1 i

-- ---- what a whole read tells, and what a row of another form does

tells_shown : (form : TableForm) (tree : List Cells) → map (drop 1) (map (told form) tree) ≡ map (shown form) tree
tells_shown form tree = map-map (drop 1) (told form) tree

module _ (n : TableName) (old : Database) (sound : IsDatabase old) (has : HasTable old.schema (form_of n))
    (before : State) (same : before.now ≡ old) where
  pub read_shows : (new : State) (given cells : List Cells) (last : Option ℤ)
      → Shown (select_text (form_of n)) [] before new given → Rise last given → map (drop 1) given ≡ cells
      → Shows (form_of n) (old.trees has.tree) cells
  read_shows new given cells last shows rise is =
      let perm = subst (λ (d : Database). (has : HasTable d.schema (form_of n))
      → IsPermutation (map (told (form_of n)) (d.trees has.tree)) given) same
      (λ has. shown_rows n before has (subst IsDatabase (sym same) sound) new given shows) has in
      let items = items_map (drop 1) (map (told (form_of n)) (old.trees has.tree)) given
      (items_permuted (map (told (form_of n)) (old.trees has.tree)) given perm) in
      let both : SameItems (map (shown (form_of n)) (old.trees has.tree)) cells =
      subst₂ SameItems (tells_shown (form_of n) (old.trees has.tree)) is items in
      record { numbered = numbered_by (form_of n) last (old.trees has.tree) given perm rise; same = (both.1, both.0) }

  pub row_typed : (given : List Cells) (row : Cells) → Begins (select_text (form_of n)) [] before (given ++ row ∷ [])
      → IsUnchanged before before
      → (cells : List Cells)
      → ((c : Cells) → IsIn c cells → (id : Value) → IsKind kind.Integer id → AreTyped (kinds_of (form_of n)) (id ∷ c))
      → Shows (form_of n) (old.trees has.tree) cells → AreTyped (kinds_of (form_of n)) row
  row_typed given row begins still all typed shows =
      let whole = subst (λ (d : Database). (has : HasTable d.schema (form_of n)) → (tail : List Cells)
      × IsPermutation (map (told (form_of n)) (d.trees has.tree)) ((given ++ row ∷ []) ++ tail)) same
      (λ has. begun_rows n before has (subst IsDatabase (sym same) sound) before (given ++ row
      ∷ []) begins still) has in
      let there : IsIn row ((given ++ row ∷ []) ++ whole.0) =
      in_front (given ++ row ∷ []) whole.0 row (in_back given (row ∷ []) row (inl refl)) in
      let listed = (items_permuted (map (told (form_of n)) (old.trees has.tree)) ((given ++ row ∷ [])
      ++ whole.0) whole.1).1 row there in
      let from = in_map (told (form_of n)) (old.trees has.tree) row listed in
      let cells = shows.same.1 (shown (form_of n) from.0)
      (map_in (shown (form_of n)) (old.trees has.tree) from.0 from.1.0) in
      let int = all_in_has (λ r. is_int (rowid r) ≡ true) (old.trees has.tree) from.0 shows.numbered.ints from.1.0 in
      subst (AreTyped (kinds_of (form_of n))) (sym from.1.1)
      (typed (shown (form_of n) from.0) cells (column from.0 0) (int_kind (column from.0 0) int))

pub unchanged_self : (s : State) → IsTrue s.is_open → IsUnchanged s s
unchanged_self s serves = (
  record { was_open = serves; is_open = serves; now_is = refl; committed_is = refl; mode = refl },
  record { changes = refl; last_rowid = refl },
  refl,
)
