-- What a statement inside a transaction does to the rows.
use Rattle.std.proofs.Common.{◌≡◌, inl, inr, ℕ, zero, suc, List, [], ◌∷◌, ◌++◌, add-one, take-suc, true, false, IsTrue}
use Rattle.std.proofs.Common.{refl, sym, ap, subst, ◌∙◌, arith, take, length, get_or, ◌<◌, ◌+◌}
use Rattle.std.proofs.lemmas.Bool.{true≢false}
use Rattle.sqlite.proofs.Callers.{survives_begin}
use Rattle.sqlite.proofs.StateLemmas.{survives_then}
use Rattle.sqlite.specs.Effect.{Database}
use Rattle.sqlite.specs.Held.{Held, state}
use Rattle.sqlite.specs.State.{HasCleanDisk, IsRolledBack, KeepsCommit}
use Rattle.sqlite.specs.State.{Shows as ShowsState, State, Survives}
use Rattle.sqlite.specs.Steps.{FailsToCommit}
use Rattle.sqlite.specs.Store.{Ghosts}
use Rattle.sqlite.specs.declared.error.Error.{Error}
use Rattle.sqlite_rules.specs.Lists.{Has}
use Rattle.sqlite_schema.specs.declared.schema.Table.{Table}
use Rattle.vet_base.specs.Items.{IsIn}
use Rattle.vet_rows.specs.RowChanges.{all_changed, changed}
use Rattle.vet_rows.specs.declared.row_change.RowChange.{RowChange}
use Rattle.vet_store.specs.Changes.{Changes}
use Rattle.vet_store.specs.Committed.{IsAfter}
use Rattle.vet_store.specs.Stands.{Holds, Stands}
use Rattle.vet_tables.specs.Cells.{Row, RowsValue, added, dropped, put}
use Rattle.vet_tables.specs.Contents.{IsOther, KeepsOthers}
use Rattle.vet_tables.specs.Has.{HasTables}
use Rattle.vet_tables.specs.Read.{Rests}
use Rattle.vet_tables.specs.declared.table_name.TableName.{TableName}

-- ---- one step after another

pub spares_then : (a b c : Database) → KeepsOthers a b → KeepsOthers b c → KeepsOthers a c
spares_then a b c one two = record {
  schema = two.schema ∙ one.schema;
  rows = λ t there other. subst_rows t (subst (λ s. Has s.tables t) (sym one.schema) there)
      (subst (λ s. IsOther s t) (sym one.schema) other) ∙ one.rows t there other;
}
  where
    subst_rows : (t : Table) → Has b.schema.tables t → IsOther b.schema t → c.trees t.tree ≡ b.trees t.tree
    subst_rows t there other = two.rows t there other

pub changes_then : (a b c : State) (f g : RowsValue → RowsValue) → Changes a b f → Changes b c g
    → Changes a c (λ rows. g (f rows))
changes_then a b c f g one two = record {
  was_open = one.was_open;
  is_open = two.is_open;
  committed = two.committed ∙ one.committed;
  inside = two.inside;
  holds = λ rows was. two.holds (f rows) (one.holds rows was);
  spares = λ has. let first = one.spares has in spares_then a.now b.now c.now first
      (two.spares (subst HasTables (sym first.schema) has));
}

-- a row in place of the one of its key
pub puts : (table : TableName) (row : Row) (a b c : State) → Changes a b (dropped table row)
    → Changes b c (added table row) → Changes a c (put table row)
puts table row a b c one two = let both = changes_then a b c _ _ one two in record {
  was_open = both.was_open;
  is_open = both.is_open;
  committed = both.committed;
  inside = both.inside;
  holds = both.holds;
  spares = both.spares;
}

-- the item at a place is one of the list
pub in_at : {X : Type 0} (xs : List X) (i : ℕ) (x : X) → i < length xs → x ≡ get_or xs i x → IsIn x xs
in_at [] i x low is = absurd (omega (arith, low))
in_at (y ∷ xs) zero x low is = inl is
in_at (y ∷ xs) (suc i) x low is = inr (in_at xs i x (omega (arith, low)) is)

-- changes made in their order
pub changed_later : (first : List RowChange) (change : RowChange) (rows : RowsValue)
    → all_changed (first ++ change ∷ []) rows ≡ changed change (all_changed first rows)
changed_later [] change rows = refl
changed_later (c ∷ first) change rows = changed_later first change (changed c rows)

pub changes_more : (a b c : State) (changes : List RowChange) (change : RowChange) (i : ℕ) → i < length changes
    → Changes a b (all_changed (take i changes)) → Changes b c (changed change)
    → change ≡ get_or changes i change → Changes a c (all_changed (take (i + 1) changes))
changes_more a b c changes change i low one two is =
    let both = changes_then a b c _ _ one two in
    let longer : take (i + 1) changes ≡ take i changes ++ change ∷ [] =
    rw (is, add-one i) (take-suc changes i change low) in
    let same : (rows : RowsValue) → all_changed (take (i + 1) changes) rows ≡ changed change
    (all_changed (take i changes) rows) =
    λ rows. ap (λ all. all_changed all rows) longer ∙ changed_later (take i changes) change rows in
    record {
      was_open = both.was_open;
      is_open = both.is_open;
      committed = both.committed;
      inside = both.inside;
      holds = λ rows was. subst (Holds c.now) (sym (same rows)) (both.holds rows was);
      spares = both.spares;
    }

-- a commit of the changes leaves the rows before or after them
pub crash_after : {S : Type 0} (g : Ghosts S) (old mid end : Held S) (changes : List RowChange)
    → Survives (state g (record old { in_transaction = true })) (state g mid) (λ _. ⊥)
    → (HasCleanDisk (state g mid) → IsTrue (state g old).is_open
    → Changes (state g (record old { in_transaction = true })) (state g mid) (all_changed changes))
    → Survives (state g mid) (state g end) (λ db. db ≡ (state g mid).now.trees)
    → Survives (state g old) (state g end) (IsAfter (state g old) (all_changed changes))
crash_after g old mid end changes inside made last =
    survives_then (state g old) (state g mid) (state g end) _ _ (IsAfter (state g old) (all_changed changes))
    (λ _ db none. absurd none)
    (λ clean db is. (
      (state g mid).now,
      is,
      λ rows stands.
          let changes = made (omega (arith, last.clean)) stands.rests.is_open in
          (changes.holds rows stands.holds, changes.spares stands.holds.has),
    ))
    (survives_begin g old (state g mid) _ inside) last

-- a commit that was made
pub committed : {S : Type 0} (g : Ghosts S) (old mid end : Held S) (changes : List RowChange)
    → (HasCleanDisk (state g mid) → IsTrue (state g old).is_open
    → Changes (state g (record old { in_transaction = true })) (state g mid) (all_changed changes))
    → HasCleanDisk (state g mid) → ShowsState (state g mid) (state g end) (state g mid).now (state g mid).now false
    → (rows : RowsValue) → Stands (state g old) rows → Stands (state g end) (all_changed changes rows)
committed g old mid end changes made clean shows rows stands = record {
  rests = record { is_open = shows.is_open; autocommit = shows.mode; settled = shows.now_is ∙ sym shows.committed_is };
  holds = subst (λ d. Holds d (all_changed changes rows)) (sym shows.now_is)
      ((made clean stands.rests.is_open).holds rows stands.holds);
}

-- a transaction that was undone
pub undone : {S : Type 0} (g : Ghosts S) (old mid end : Held S)
    → KeepsCommit (state g (record old { in_transaction = true })) (state g mid)
    → IsRolledBack (state g mid) (state g end)
    → IsTrue (state g end).is_open → Rests (state g old) → Rests (state g end) × ((state g end).now ≡ (state g old).now)
undone g old mid end kept back serves rests =
    let last = back.undone serves in (
      record { is_open = serves; autocommit = back.autocommit; settled = last.0 ∙ sym last.1 },
      last.0 ∙ kept.committed (back.was_open serves) ∙ sym rests.settled,
    )

pub stands_still : (old new : State) → (Rests old → Rests new × (new.now ≡ old.now)) → (rows : RowsValue)
    → Stands old rows → Stands new rows
stands_still old new still rows stands =
    let it = still stands.rests in record { rests = it.0; holds = subst (λ d. Holds d rows) (sym it.1) stands.holds }

-- a commit that failed
pub uncommitted : {S : Type 0} (g : Ghosts S) (old mid end : Held S) (e : Error)
    → KeepsCommit (state g (record old { in_transaction = true })) (state g mid)
    → (IsTrue (state g old).is_open → IsTrue (state g mid).in_transaction) → FailsToCommit (state g mid) (state g end) e
    → IsTrue (state g end).is_open → Rests (state g old) → Rests (state g end) × ((state g end).now ≡ (state g old).now)
uncommitted g old mid end e kept inside (inl fails) serves rests = undone g old mid end kept fails.3 serves rests
uncommitted g old mid end e kept inside (inr late) serves rests =
    absurd (true≢false (sym (inside rests.is_open) ∙ late.1))

-- ---- the tables that are none of the register's

pub others_same : (old new : Database) → new ≡ old → KeepsOthers old new
others_same old new same = record {
  schema = ap (λ (d : Database). d.schema) same;
  rows = λ t there other. ap (λ (d : Database). d.trees t.tree) same;
}

pub others_committed : {S : Type 0} (g : Ghosts S) (old mid end : Held S) (changes : List RowChange)
    → (HasCleanDisk (state g mid) → IsTrue (state g old).is_open
    → Changes (state g (record old { in_transaction = true })) (state g mid) (all_changed changes))
    → HasCleanDisk (state g mid) → ShowsState (state g mid) (state g end) (state g mid).now (state g mid).now false
    → (rows : RowsValue) → Stands (state g old) rows → KeepsOthers (state g old).now (state g end).now
others_committed g old mid end changes made clean shows rows stands =
    subst (λ d. KeepsOthers (state g old).now d) (sym shows.now_is)
    ((made clean stands.rests.is_open).spares stands.holds.has)
