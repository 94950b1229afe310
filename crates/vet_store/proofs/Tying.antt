-- The tables stay tied to the register.
use Rattle.std.proofs.Common.{◌≡◌, ◌⊎◌, ◌+◌, ℤ, Bool, false, IsTrue, List, [], ◌∷◌, map, pos, sym, ap, subst, ◌∙◌, inl}
use Rattle.std.proofs.Common.{inr, arith, refl, ℕ}
use Rattle.sqlite_trees.specs.Tree.{Trees}
use Rattle.sqlite.specs.Effect.{Database}
use Rattle.sqlite.specs.State.{HasCleanDisk, IsUnchanged, Survives}
use Rattle.sqlite.specs.State as sqlite
use Rattle.sqlite.proofs.StateLemmas.{survives_weaker}
use Rattle.vet_base.specs.Items.{IsIn, SameItems}
use Rattle.vet_base.proofs.ItemLemmas.{in_map, map_in}
use Rattle.vet_register.specs.declared.command.Command.{Command}
use Rattle.vet_register.specs.Machine.{next}
use Rattle.vet_register.specs.State.{State}
use Rattle.vet_rows.specs.RowChanges.{all_changed}
use Rattle.vet_rows.specs.RowsOf.{meta_row, rows_of}
use Rattle.vet_rows.specs.declared.row_change.RowChange.{RowChange}
use Rattle.vet_store.proofs.Steps.{others_same, spares_then}
use Rattle.vet_store.specs.Beside.{OthersStay}
use Rattle.vet_store.specs.Committed.{AreTreesBeside, AreTreesOf, IsAfter}
use Rattle.vet_store.specs.Stands.{Holds, HoldsFirst, Stands}
use Rattle.vet_store.specs.Tied.{IsTied, IsWritten, Leaves}
use Rattle.vet_tables.specs.Cells.{Row, RowsValue, SameRows, values_of}
use Rattle.vet_tables.specs.Contents.{KeepsOthers}
use Rattle.vet_tables.specs.declared.cell.Cell.TheVariants.{Int}
use Rattle.vet_tables.specs.declared.table_name.TableName.TheVariants.{Meta}

-- ---- the same rows in whatever order

same_map : {X Y : Type 0} (f : X → Y) (xs ys : List X) → SameItems xs ys → SameItems (map f xs) (map f ys)
same_map f xs ys same = (
  λ y i. (let m = in_map f xs y i in subst (λ v. IsIn v (map f ys)) (sym m.1.1) (map_in f ys m.0 (same.0 m.0 m.1.0))),
  λ y i. (let m = in_map f ys y i in subst (λ v. IsIn v (map f xs)) (sym m.1.1) (map_in f xs m.0 (same.1 m.0 m.1.0))),
)

pub holds_also : (db : Database) (a b : RowsValue) → SameRows a b → Holds db a → Holds db b
holds_also db a b same h = record {
  sound = h.sound;
  has = h.has;
  shows = λ name. (let cells = same_map values_of (a name) (b name) (same name) in record {
    numbered = (h.shows name).numbered;
    same = (
      λ x i. (h.shows name).same.0 x (cells.1 x i),
      λ x i. cells.0 x ((h.shows name).same.1 x i),
    );
  });
}

none_also : (xs ys : List Row) → SameItems xs ys → map values_of xs ≡ [] → map values_of ys ≡ []
none_also xs [] same none = refl
none_also [] (y ∷ ys) same none = absurd (same.1 y (inl refl))
none_also (x ∷ xs) (y ∷ ys) same none = absurd (cc none)

-- the same holds for the rows in the first tables, up to a count
pub holds_first_also : (count : ℕ) (db : Database) (a b : RowsValue) → SameRows a b → HoldsFirst count db a
    → HoldsFirst count db b
holds_first_also count db a b same h = record {
  sound = h.sound;
  first = h.first;
  shows = λ name low. (let cells = same_map values_of (a name) (b name) (same name) in record {
    numbered = (h.shows name low).numbered;
    same = (
      λ x i. (h.shows name low).same.0 x (cells.1 x i),
      λ x i. cells.0 x ((h.shows name low).same.1 x i),
    );
  });
  none = λ name high. none_also (a name) (b name) (same name) (h.none name high);
}

pub stands_also : (c : sqlite.State) (a b : RowsValue) → SameRows a b → Stands c a → Stands c b
stands_also c a b same h = record { rests = h.rests; holds = holds_also c.now a b same h.holds }

-- ---- what a crash leaves

-- while a connection serves, a crash leaves what stands there
pub leaves_standing : (c : sqlite.State) (rows : RowsValue)
    → ((trees : Trees) → c.may_leave trees → trees ≡ c.committed.trees) → Stands c rows → Leaves c rows
leaves_standing c rows settled h trees leaves =
    (c.now, settled trees leaves ∙ ap (λ (d : Database). d.trees) (sym h.rests.settled), h.holds)

-- where a crash leaves only what it could before, it leaves the same rows
pub leaves_still : (old new : sqlite.State) (rows : RowsValue) → Survives old new (λ _. ⊥) → HasCleanDisk new
    → Leaves old rows → Leaves new rows
leaves_still old new rows s clean h trees leaves = by (s.crash clean trees leaves)
  where
    by : old.may_leave trees ⊎ ⊥ → AreTreesOf rows trees
    by (inl before) = h trees before
    by (inr none) = absurd none

pub still_clean : (old new : sqlite.State) (P : Trees → Type 0) → Survives old new P → HasCleanDisk new
    → HasCleanDisk old
still_clean old new P s clean = omega (arith, s.clean)

-- what the changes make of the rows is the next rows, in whatever order
pub written_next : (c : sqlite.State) (change : RowsValue → RowsValue) (rows next : RowsValue)
    → SameRows (change rows) next → (trees : Trees) → IsAfter c change trees → IsWritten c rows next trees
written_next c change rows next same trees h =
    (h.0, h.1, λ stands. let after = h.2 rows stands in (holds_also h.0 (change rows) next same after.0, after.1))

-- the step that a row of `meta` has
abbrev step_in : Row → ℤ
step_in (one ∷ version ∷ Int step ∷ more) = step
step_in _ = pos 0

-- changes that make the next rows are not none, since the step is another
pub changes_next : (s : State) (c : Command) (changes : List RowChange)
    → SameRows (all_changed changes (rows_of s)) (rows_of (next s c)) → changes ≡ [] → ⊥
changes_next s c changes same none =
    let rows = subst (λ cs. SameRows (all_changed cs (rows_of s)) (rows_of (next s c))) none same in
    by ((rows Meta).0 (meta_row s) (inl refl))
  where
    by : IsIn (meta_row s) (meta_row (next s c) ∷ []) → ⊥
    by (inl e) =
        let steps : pos s.step ≡ pos (s.step + 1) = ap step_in e in
        let step : s.step ≡ s.step + 1 = cc in
        omega (arith, step)
    by (inr none) = none

-- where there are changes, a commit that fails was reached on a connection that was open
pub reaches_commit : (changes : List RowChange) (Before P : Type 0) → (Before → ⊥) → (changes ≡ [] → ⊥)
    → Before ⊎ ((changes ≡ []) ⊎ P) → P
reaches_commit changes Before P not some (inl before) = absurd (not before)
reaches_commit changes Before P not some (inr (inl none)) = absurd (some none)
reaches_commit changes Before P not some (inr (inr serves)) = serves

-- a crash leaves what it could before, or the rows that were written, where those before them stood
pub survives_written : (old new : sqlite.State) (shut : Bool) (rows next : RowsValue)
    → IsTied old shut rows → shut ≡ false → IsTrue old.is_open
    → Survives old new (IsWritten old rows next) → Survives old new (AreTreesBeside old.now next)
survives_written old new shut rows next tied unshut serves s =
    survives_weaker old new (IsWritten old rows next) (AreTreesBeside old.now next)
    (λ clean trees h. let after = h.2 (tied.stands (still_clean old new _ s clean) serves) in
    (h.0, h.1, after.0, after.1)) s

-- ---- the store is tied

-- the rows on a connection are still there if the connection is as it was
pub stands_unchanged : (old new : sqlite.State) (rows : RowsValue) → new.in_transaction ≡ false
    → (IsTrue old.is_open → old.now ≡ old.committed) → IsUnchanged old new → Holds old.now rows → Stands new rows
stands_unchanged old new rows autocommit settled same holds = record {
  rests = record {
    is_open = same.0.is_open;
    autocommit = autocommit;
    settled = same.0.now_is ∙ settled same.0.was_open ∙ sym same.0.committed_is;
  };
  holds = subst (λ db. Holds db rows) (sym same.0.now_is) holds;
}

-- a connection is tied to the rows that its tables have
pub tied_standing : (c : sqlite.State) (rows : RowsValue) → c.in_transaction ≡ false → (HasCleanDisk c → Stands c rows)
    → ((trees : Trees) → IsTrue c.is_open → c.may_leave trees → trees ≡ c.committed.trees) → IsTied c false rows
tied_standing c rows autocommit stand settled = record {
  autocommit = autocommit;
  stands = λ clean _. stand clean;
  leaves = λ clean _. (let now = stand clean in
      leaves_standing c rows (λ trees may. settled trees now.rests.is_open may) now);
}

-- ---- the store stays tied

-- where changes were refused, the tables have the rows as before
pub tied_refused : (old new : sqlite.State) (was shut : Bool) (rows : RowsValue) (P : Trees → Type 0)
    → IsTied old was rows → was ≡ false
    → new.in_transaction ≡ false
    → (HasCleanDisk new → IsTrue new.is_open → Stands old rows → Stands new rows)
    → (HasCleanDisk new → IsTrue new.is_open → IsTrue old.is_open)
    → Survives old new P
    → (shut ≡ false → Survives old new (λ _. ⊥))
    → IsTied new shut rows
tied_refused old new was shut rows P tied unshut autocommit kept was_open s before = record {
  autocommit = autocommit;
  stands = λ clean serves. kept clean serves (tied.stands (still_clean old new P s clean) (was_open clean serves));
  leaves = λ clean open_still. (let s = before open_still in leaves_still old new rows s clean
      (tied.leaves (still_clean old new _ s clean) unshut));
}

-- where they were committed, the tables have the next rows
pub tied_written : (old new : sqlite.State) (was shut : Bool) (rows next : RowsValue) (P : Trees → Type 0)
    → IsTied old was rows → was ≡ false
    → new.in_transaction ≡ false
    → (HasCleanDisk new → Stands old rows → Stands new next)
    → (HasCleanDisk new → IsTrue old.is_open)
    → Survives old new P
    → ((trees : Trees) → IsTrue new.is_open → new.may_leave trees → trees ≡ new.committed.trees)
    → IsTied new shut next
tied_written old new was shut rows next P tied unshut autocommit written was_open s settled = record {
  autocommit = autocommit;
  stands = λ clean _. stand clean;
  leaves = λ clean _. (let now = stand clean in
      leaves_standing new next (λ trees leaves. settled trees now.rests.is_open leaves) now);
}
  where
    stand : HasCleanDisk new → Stands new next
    stand clean = written clean (tied.stands (still_clean old new P s clean) (was_open clean))

-- ---- the tables that are none of the register's

pub others_as_were : (c : sqlite.State) → OthersStay c c
others_as_were c clean serves = (clean, (serves, others_same c.now c.now refl))

pub others_then : (a b c : sqlite.State) → OthersStay a b → OthersStay b c → OthersStay a c
others_then a b c one two clean serves =
    let later = two clean serves in
    let earlier = one later.0 later.1.0 in (
      earlier.0,
      (earlier.1.0, spares_then a.now b.now c.now earlier.1.1 later.1.1),
    )

-- after a command, on a store whose rows stood
pub others_stay : (old new : sqlite.State) (was : Bool) (rows : RowsValue) (P : Trees → Type 0)
    → IsTied old was rows
    → (HasCleanDisk new → IsTrue new.is_open → IsTrue old.is_open)
    → Survives old new P
    → (HasCleanDisk new → IsTrue new.is_open → Stands old rows → KeepsOthers old.now new.now)
    → OthersStay old new
others_stay old new was rows P tied was_open survives others clean serves =
    let early = still_clean old new P survives clean in
    let served = was_open clean serves in
    (early, (served, others clean serves (tied.stands early served)))
