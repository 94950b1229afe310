-- The tables are made one after another.
use Rattle.std.proofs.Common.{◌≡◌, true, false, IsTrue, inl, inr, ℕ, []}
use Rattle.std.proofs.Common.{refl, sym, ap, subst, ◌∙◌, arith}
use Rattle.std.proofs.lemmas.Bool.{cases_lt}
use Rattle.sqlite.proofs.Callers.{survives_begin}
use Rattle.sqlite.proofs.StateLemmas.{survives_then, survives_weaker}
use Rattle.sqlite.specs.Effect.{Database, IsDatabase}
use Rattle.sqlite.specs.Held.{Held, state}
use Rattle.sqlite.specs.State.{HasCleanDisk, IsLive, Shows as ShowsState, State, Survives}
use Rattle.sqlite.specs.Store.{Ghosts}
use Rattle.sqlite_rules.proofs.ListLemmas.{all_from, all_has}
use Rattle.sqlite_rules.specs.Lists.{Has}
use Rattle.sqlite_schema.specs.declared.schema.Schema.{Schema}
use Rattle.sqlite_schema.specs.declared.schema.Table.{Table}
use Rattle.vet_tables.proofs.Extends.{has_either, still_has, still_rows}
use Rattle.vet_tables.proofs.Making.{in_longer, no_own, still_other}
use Rattle.vet_tables.proofs.TablePlaces.{few}
use Rattle.vet_store.specs.Changes.{Changes}
use Rattle.vet_tables.specs.Cells.{RowsValue, contents_of, no_rows}
use Rattle.vet_tables.specs.Contents.{Shows}
use Rattle.vet_tables.specs.Forms.{code, form_of}
use Rattle.vet_tables.specs.Has.{HasTable}
use Rattle.vet_store.specs.Stands.{Holds, HoldsFirst, Stands}
use Rattle.vet_tables.specs.Read.{Rests}
use Rattle.vet_store.specs.Made.{FillsTables, IsFilled, IsMade}
use Rattle.vet_tables.specs.Makes.{MakesTables}
use Rattle.vet_tables.specs.Extends.{AddsTables, SparesOthers}
use Rattle.vet_tables.specs.Free.{AreFree}
use Rattle.vet_tables.specs.declared.table_name.TableName.{TableName}
use Rattle.vet_tables.specs.declared.table_name.TheConstants.{TABLE_COUNT}

-- ---- the tables that were missing, without rows

module _ (a b : State) (first : ℕ) (rows : RowsValue) (made : MakesTables a b first TABLE_COUNT)
    (was : HoldsFirst first a.now rows) where
  -- a table that was there has its rows, and one that was made has none
  made_table : (n : TableName) → (h : HasTable b.now.schema (form_of n))
      × Shows (form_of n) (b.now.trees h.tree) (contents_of rows n)
  made_table n = elim (cases_lt (code n) first) [
    | inl low ↦
        let there = was.first.has n low in (
          still_has a.now b.now (form_of n) made.extends there,
          subst (λ tree. Shows (form_of n) tree (contents_of rows n))
              (sym (still_rows a.now b.now (form_of n) made.extends there)) (was.shows n low),
        )
    | inr high ↦
        let it = made.has was.sound was.first.free n high (few n) in (
          it.0,
          subst (λ cells. Shows (form_of n) (b.now.trees it.0.tree) cells) (sym (was.none n high))
              (subst (λ tree. Shows (form_of n) tree []) (sym it.1)
              (record { numbered = record { ints = tt; apart = tt }; same = (λ x i. i, λ x i. i) })),
        )
  ]

  all_hold : Holds b.now rows
  all_hold = record {
    sound = made.sound was.sound;
    has = λ n. (made_table n).0;
    shows = λ n. (made_table n).1;
  }

-- ---- the tables with the rows that were changed

pub fills : (a b c : State) (first : ℕ) (change : RowsValue → RowsValue) → MakesTables a b first TABLE_COUNT
    → Changes b c change → FillsTables first a c change
fills a b c first change made changes = record {
  was_open = made.was_open;
  is_open = changes.is_open;
  committed = changes.committed ∙ made.committed;
  inside = changes.inside;
  unused = λ n high. made.unused n high (few n);
  fills = λ rows was.
      let holds = all_hold a b first rows made was in
      let spares = changes.spares holds.has in
      let longer = λ (t : Table) (h : Has a.now.schema.tables t).
      in_longer a.now.schema.tables made.extends.tables b.now.schema.tables made.extends.tables_are t h in (
        changes.holds rows holds,
        record {
          tables = λ t h. subst (λ (s : Schema). Has s.tables t) (sym spares.schema) (longer t h);
          indexes = λ i h. subst (λ (s : Schema). Has s.indexes i) (sym spares.schema)
              (in_longer a.now.schema.indexes made.extends.indexes b.now.schema.indexes made.extends.indexes_are i h);
          views = ap (λ (s : Schema). s.views) spares.schema ∙ made.extends.views_are;
          only = λ t h. made.only t (subst (λ (s : Schema). Has s.tables t) spares.schema h);
          owned = λ i h. elim (has_either a.now.schema.indexes made.extends.indexes i
              (subst (λ is. Has is i) made.extends.indexes_are
              (subst (λ (s : Schema). Has s.indexes i) spares.schema h))) [
                | inl was_there ↦ inl was_there
                | inr is_new ↦ inr (made.extends.owned i is_new)
              ];
          rows = λ t h other.
              spares.rows t (longer t h) (still_other a.now b.now made.extends t h other)
              ∙ all_has _ a.now.schema.tables t made.extends.rows h;
        },
      );
}

-- ---- and they are committed

module _ {S : Type 0} (g : Ghosts S) (old mid end : Held S) (first : ℕ) (change : RowsValue → RowsValue)
    (made : HasCleanDisk (state g mid) → IsTrue (state g old).is_open
    → FillsTables first (state g (record old { in_transaction = true })) (state g mid) change) where
  pub filled : HasCleanDisk (state g mid)
      → ShowsState (state g mid) (state g end) (state g mid).now (state g mid).now false
      → (rows : RowsValue) → Rests (state g old) → HoldsFirst first (state g old).now rows
      → Stands (state g end) (change rows) × AddsTables first (state g old).now (state g end).now
  filled clean shows rows rests was =
      let it = (made clean rests.is_open).fills rows was in (
        record {
          rests = record {
            is_open = shows.is_open;
            autocommit = shows.mode;
            settled = shows.now_is
                ∙ sym shows.committed_is;
          };
          holds = subst (λ d. Holds d (change rows)) (sym shows.now_is) it.0;
        },
        subst (AddsTables first (state g old).now) (sym shows.now_is) it.1,
      )

  pub made_after : Survives (state g (record old { in_transaction = true })) (state g mid) (λ _. ⊥)
      → Survives (state g mid) (state g end) (λ db. db ≡ (state g mid).now.trees)
      → Survives (state g old) (state g end) (IsFilled first (state g old) change)
  made_after inside last =
      survives_then (state g old) (state g mid) (state g end) _ _ (IsFilled first (state g old) change)
      (λ _ db none. absurd none)
      (λ clean db is. (
        (state g mid).now,
        is,
        λ rows rests was. (made (omega (arith, last.clean)) rests.is_open).fills rows was,
      ))
      (survives_begin g old (state g mid) _ inside) last

-- ---- a register that is made

-- a database in which all names are free has none of the tables
pub holds_none : (db : Database) → IsDatabase db → AreFree db.schema → HoldsFirst 0 db no_rows
holds_none db sound free = record {
  sound = sound;
  first = record { has = λ n low. absurd (omega (arith, low)); free = free };
  shows = λ n low. absurd (omega (arith, low));
  none = λ n high. refl;
}

-- so each table that it has keeps its rows
pub spares_all : (old new : Database) → AreFree old.schema → AddsTables 0 old new → SparesOthers old new
spares_all old new free adds = record {
  tables = adds.tables;
  indexes = adds.indexes;
  views = λ w h. subst (λ ws. Has ws w) (sym adds.views) h;
  rows = all_from _ old.schema.tables (λ t h. adds.rows t h (no_own old.schema free t));
}

pub survives_made : (old new : State) (change : RowsValue → RowsValue) (rows : RowsValue) → change no_rows ≡ rows
    → IsLive old → Survives old new (IsFilled 0 old change) → Survives old new (IsMade old rows)
survives_made old new change rows same live =
    survives_weaker old new (IsFilled 0 old change) (IsMade old rows)
    (λ clean trees h. (
      h.0,
      h.1,
      λ rests free.
          let it = h.2 no_rows rests (holds_none old.now (live rests.is_open).0 free) in
          (subst (Holds h.0) same it.0, spares_all old.now h.0 free it.1),
    ))
