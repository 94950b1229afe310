-- What the next open finds: the same trees are the same database.
use Rattle.std.proofs.Common.{◌≡◌, ℕ, IsTrue, arith, inl, inr, refl, sym, ap, ap₂, subst, ◌∙◌}
use Rattle.std.specs.List.{All}
use Rattle.std.proofs.lemmas.List.Elements.{All-nil}
use Rattle.sqlite.proofs.Callers.{finds_again}
use Rattle.sqlite.specs.Closing.{IsCopied}
use Rattle.sqlite.specs.Effect.{Database, IsDatabase}
use Rattle.sqlite.specs.Files.{Finds, IsOpened, file_state}
use Rattle.sqlite.specs.Held.{Held, state}
use Rattle.sqlite.specs.State.{HasCleanDisk, Survives}
use Rattle.sqlite_catalog.proofs.ReadLemmas.{lists_once}
use Rattle.sqlite_catalog.specs.Listing.{Lists}
use Rattle.sqlite_disk.specs.declared.Disk.{Ghosts as DiskGhosts}
use Rattle.sqlite_disk.specs.declared.Files.{Files}
use Rattle.sqlite_schema.specs.declared.schema.Schema.{Schema}
use Rattle.sqlite_store.specs.declared.store.FileStore.{FileStore}
use Rattle.sqlite_trees.specs.Objects.{catalog_tree}
use Rattle.sqlite_trees.specs.Tree.{Trees}
use Rattle.sqlite_trees.specs.declared.store.Store.{Ghosts}
use Rattle.vet_base.proofs.BuiltIn.{first_table}
use Rattle.vet_base.specs.declared.limits.TheConstants.{MOST_MOVES}
use Rattle.vet_demand.specs.DemandOf.{NothingIsDemanded}
use Rattle.vet_item_rows.specs.Values.{IsCriterion}
use Rattle.vet_register.proofs.Beginnings.{start_is_sound}
use Rattle.vet_register.specs.Sound.{IsSound}
use Rattle.vet_register.specs.State.{State, start}
use Rattle.vet_rows.specs.HeldState.{IsHeldState}
use Rattle.vet_rows.specs.RowsOf.{rows_of}
use Rattle.vet_store.proofs.OneRows.{one_rows}
use Rattle.vet_store.proofs.StartRows.{none_further}
use Rattle.vet_store.proofs.Versions.{holds_second, in_second}
use Rattle.vet_store.specs.Committed.{AreTreesOf}
use Rattle.vet_store.specs.CrashLaws.{CreateLeaves, HasOnly, IsState, OpenLeaves, RunLeaves, TiedLeaves}
use Rattle.vet_store.specs.Opened.{IsStored}
use Rattle.vet_store.specs.Stands.{Holds}
use Rattle.vet_store.specs.TakenOver.{TakesOver}
use Rattle.vet_store.specs.Tied.{IsTied}
use Rattle.vet_tables.proofs.Versions.{not_free, some_tables}
use Rattle.vet_tables.specs.Cells.{RowsValue}
use Rattle.vet_tables.specs.Extends.{SparesOthers}
use Rattle.vet_tables.specs.Free.{AreFree}
use Rattle.vet_tables.specs.declared.table_name.TableName.TheVariants.{Meta}
use Rattle.vet_tables.specs.declared.version.TablesVersion.TheVariants.{First, Second}

-- ---- one database for the same trees

-- since they list its schema
pub same_database : (a b : Database) → a.trees ≡ b.trees → IsDatabase a → IsDatabase b → a ≡ b
same_database a b trees p q =
    let schema : a.schema ≡ b.schema = lists_once (b.trees catalog_tree) a.schema b.schema
    (subst (λ (t : Trees). Lists (t catalog_tree) a.schema) trees p.lists) q.lists in
    ap₂ (λ (s : Schema) (t : Trees). record { schema = s; trees = t }) schema trees

-- ---- what is stored

stored : (db : Database) (s : State) → IsState s → Holds db (rows_of s) → IsStored db s
stored db s is holds = record {
  sound = is.sound;
  held = is.held;
  version = Second;
  holds = holds_second db (rows_of s) holds;
}

-- so it has no state with other rows
stored_only : (db : Database) (s : State) → IsState s → Holds db (rows_of s) → HasOnly db s
stored_only db s is holds = record {
  stored = stored db s is holds;
  only = λ t there. one_rows db (rows_of s) (rows_of t) holds (in_second db (rows_of s) holds t there);
}

-- a database with these trees
left_holds : (db : Database) (rows : RowsValue) → IsDatabase db → AreTreesOf rows db.trees → Holds db rows
left_holds db rows sound h =
    let same = same_database db h.0 h.1 sound h.2.sound in
    subst (λ d. Holds d rows) (sym same) h.2

left_of : (db : Database) (s : State) → IsDatabase db → IsState s → AreTreesOf (rows_of s) db.trees → IsStored db s
left_of db s sound is h = stored db s is (left_holds db (rows_of s) sound h)

-- where the names are free there are no tables
free_has_none : (db : Database) → AreFree db.schema → (s : State) → IsStored db s → ⊥
free_has_none db free s is =
    not_free db.schema _ (free Meta (omega arith)) (is.holds.first.has Meta (some_tables is.version))

start_is_held : (limit : ℕ) → IsHeldState (start limit)
start_is_held limit = record {
  facts = record {
    criteria = subst (λ criteria. All IsCriterion criteria) (sym none_further) (All-nil _);
    entries = All-nil _;
    peers = All-nil _;
    publishers = All-nil _;
    today = tt;
  };
  policies = All-nil _;
  projects = All-nil _;
  settings = record { vet_version = tt; default_criteria = tt };
  members = All-nil _;
  reviews = All-nil _;
  moves = All-nil _;
}

-- ---- after a crash

module _ {S : Type 0} (g : Ghosts S) where
  pub create_leaves : NothingIsDemanded → CreateLeaves g
  create_leaves law old new limit db limits live rests free shown survives clean is =
      elim (survives.crash clean db.trees is.left) [
        | inl before ↦
            (let same = same_database db (state g old).now (shown db.trees before) is.sound live in
            let frees : AreFree db.schema = subst (λ (d : Database). AreFree d.schema) (sym same) free in
            inl (record { none = free_has_none db frees; free = frees; same = same }))
        | inr made ↦
            (let it = made.2 rests free in
            let same = same_database db made.0 made.1 is.sound it.0.sound in
            inr (record {
              stored = left_of db (start limit) is.sound
                  (record { sound = start_is_sound law limit first_table limits; held = start_is_held limit })
                  (made.0, made.1, it.0);
              others = subst (SparesOthers (state g old).now) (sym same) it.1;
            }))
      ]

  pub open_leaves : OpenLeaves g
  open_leaves old new db live shown survives clean is = elim (survives.crash clean db.trees is.left) [
    | inl before ↦ inl (same_database db (state g old).now (shown db.trees before) is.sound live)
    | inr taken ↦
        (let same = same_database db taken.db taken.trees_are is.sound taken.over.has.sound in
        let s = taken.state in
        let over : TakesOver (state g old).now db s =
        subst (λ (d : Database). TakesOver (state g old).now d s) (sym same) taken.over in
        inr (record {
          state = s;
          was = record { sound = taken.sound; held = taken.held; version = First; holds = over.was };
          has = stored_only db s (record { sound = taken.sound; held = taken.held }) over.has;
          over = over;
        }))
  ]

  pub run_leaves : RunLeaves g
  run_leaves new s command db before after leaves is = elim (leaves db.trees is.left) [
    | inl h ↦ inl (left_of db s is.sound before h)
    | inr h ↦ inr (left_of db _ is.sound after h)
  ]

  -- while a connection serves, a crash leaves the last commit
  pub tied_leaves : ((store : S) (trees : Trees) → IsTrue (g.view store).is_open → g.recovers store trees
      → trees ≡ (g.view store).committed) → TiedLeaves g
  tied_leaves settled c s db is tied clean left =
      let here = left_holds db (rows_of s) left.sound (tied.leaves clean refl db.trees left.left) in (
        stored_only db s is here,
        λ serves.
            let stands = tied.stands clean serves in
            same_database db (state g c).now
            (settled c.store db.trees serves left.left ∙ ap (λ (d : Database). d.trees) (sym stands.rests.settled))
            left.sound stands.holds.sound,
      )

-- ---- files that are closed and opened again

pub stored_again : {D : Type 0} {g : DiskGhosts D} (old again : Held (FileStore D g)) (files : Files D) (shut : _)
    (s : State) → IsTied (file_state old) shut (rows_of s) → IsSound s → IsHeldState s
    → IsCopied old files → Finds files again → IsOpened again
    → IsStored (file_state again).now s
stored_again old again files shut s tied sound held closed found opened =
    let stands = tied.stands closed.was_clean closed.was_open in
    let live = opened.1 opened.0.is_open in
    let same = same_database (file_state again).now (file_state old).now
    (ap (λ (d : Database). d.trees) opened.0.clean ∙ finds_again old again files (λ _. closed) found
    ∙ ap (λ (d : Database). d.trees) (sym stands.rests.settled)) live.0 stands.holds.sound in
    stored (file_state again).now s (record { sound = sound; held = held })
    (subst (λ d. Holds d (rows_of s)) (sym same) stands.holds)
