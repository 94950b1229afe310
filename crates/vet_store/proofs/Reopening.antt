-- What was closed is what is opened.
use Rattle.std.proofs.Common.{◌≡◌, ◌∙◌, Bool, IsTrue, false, inl, inr, ap, subst, sym}
use Rattle.sqlite.proofs.Callers.{finds_again}
use Rattle.sqlite.proofs.StateLemmas.{survives_weaker}
use Rattle.sqlite.specs.Closing.{IsCopied}
use Rattle.sqlite.specs.Effect.{Database}
use Rattle.sqlite.specs.Files.{Finds, IsOpened as OpensFiles, file_state}
use Rattle.sqlite.specs.Held.{Held}
use Rattle.sqlite.specs.State.{HasCleanDisk, IsUnchanged, Opens, Survives}
use Rattle.sqlite.specs.State as sqlite
use Rattle.sqlite_disk.specs.declared.Disk.{Ghosts}
use Rattle.sqlite_disk.specs.declared.Files.{Files}
use Rattle.sqlite_store.specs.declared.store.FileStore.{FileStore}
use Rattle.sqlite_trees.specs.Tree.{Trees}
use Rattle.vet_register.specs.Sound.{IsSound}
use Rattle.vet_register.specs.State.{State}
use Rattle.vet_rows.specs.HeldState.{IsHeldState}
use Rattle.vet_rows.specs.RowsOf.{rows_by, rows_of}
use Rattle.vet_store.proofs.Found.{same_database}
use Rattle.vet_store.proofs.TakingOver.{only_unchanged}
use Rattle.vet_store.proofs.Tying.{still_clean, tied_refused}
use Rattle.vet_store.proofs.Versions.{holds_second, second_or_first}
use Rattle.vet_store.specs.Made.{IsAsBefore}
use Rattle.vet_store.specs.Opened.{IsStored}
use Rattle.vet_store.specs.Reopened.{LeavesAgain, LosesNothing, ShowsAgain}
use Rattle.vet_store.specs.Stands.{Holds, Stands}
use Rattle.vet_store.specs.TakenOver.{IsOpened, IsTakenOver}
use Rattle.vet_store.specs.Tied.{IsTied}
use Rattle.vet_tables.specs.Cells.{RowsValue}
use Rattle.vet_tables.specs.declared.version.TablesVersion.TheVariants.{First, Second}

-- ---- on one connection

-- the state to which the tables are tied is stored in them, where the connection served and the disk was clean after it
pub still_stored : (old new : sqlite.State) (shut : Bool) (s : State) → IsTied old shut (rows_of s) → shut ≡ false
    → IsSound s → IsHeldState s → Survives old new (λ _. ⊥) → HasCleanDisk new → IsTrue old.is_open
    → IsStored old.now s
still_stored old new shut s tied unshut sound held survives clean serves = record {
  sound = sound;
  held = held;
  version = Second;
  holds = holds_second old.now (rows_of s)
      (tied.stands (still_clean old new (λ _. ⊥) survives clean) serves).holds;
}

-- a connection that opens tied tables is as it was, since they are those of the second version
pub still_unchanged : (old new : sqlite.State) (shut : Bool) (rows : RowsValue) (s : State) → IsTied old shut rows
    → Survives old new (λ _. ⊥) → HasCleanDisk new → IsOpened old new s → IsUnchanged old new
still_unchanged old new shut rows s tied survives clean =
    only_unchanged old new rows s
    (λ serves. (tied.stands (still_clean old new (λ _. ⊥) survives clean) serves).holds)

-- a connection that is given back as it was still has that state
pub still_tied : (old new : sqlite.State) (shut : Bool) (s : State) → IsTied old shut (rows_of s) → shut ≡ false
    → IsSound s → IsHeldState s → new.in_transaction ≡ false
    → (HasCleanDisk new → IsTrue new.is_open → IsTrue old.is_open)
    → (HasCleanDisk new → IsTrue new.is_open → IsAsBefore old new)
    → Survives old new (λ _. ⊥) → LosesNothing new s
still_tied old new shut s tied unshut sound held outside was_open as_before survives = record {
  sound = sound;
  held = held;
  tied = tied_refused old new shut false (rows_of s) (λ _. ⊥) tied unshut outside
      (λ clean serves stands. (let same = as_before clean serves in
      record { rests = same.0; holds = subst (λ db. Holds db (rows_of s)) (sym same.1) stands.holds })) was_open
      survives (λ _. survives);
}

-- ---- through files

-- what closing the files of a store, and opening them again, returns on a clean disk
pub record IsBack (old again : sqlite.State) (rows : RowsValue) : Type 0 where
  pub was_clean : HasCleanDisk old
  pub stands : Stands old rows
  pub opened : Opens again
  pub shown : again.now ≡ old.now

pub is_back : {D : Type 0} {g : Ghosts D} (conn old again : Held (FileStore D g)) (files : Files D) (shut : Bool)
    (rows : RowsValue) (new : sqlite.State) → conn ≡ old → IsTied (file_state conn) shut rows
    → (Finds files again → IsCopied conn files)
    → (HasCleanDisk (file_state again) → Finds files again)
    → (HasCleanDisk (file_state again) → OpensFiles again)
    → Survives (file_state again) new (IsTakenOver (file_state again)) → HasCleanDisk new
    → IsBack (file_state old) (file_state again) rows
is_back {D} {g} conn old again files shut rows new same tied copied finds opens survives clean =
    let early = still_clean (file_state again) new (IsTakenOver (file_state again)) survives clean in
    let found = finds early in
    let opened = opens early in
    let closed : IsCopied old files = subst (λ (h : Held (FileStore D g)). IsCopied h files) same (copied found) in
    let stays : IsTied (file_state old) shut rows =
    subst (λ (h : Held (FileStore D g)). IsTied (file_state h) shut rows) same tied in
    let stands = stays.stands closed.was_clean closed.was_open in
    record {
      was_clean = closed.was_clean;
      stands = stands;
      opened = opened.0;
      shown = same_database (file_state again).now (file_state old).now
          (ap (λ (d : Database). d.trees) opened.0.clean ∙ finds_again old again files (λ _. closed) found
          ∙ ap (λ (d : Database). d.trees) (sym stands.rests.settled)) (opened.1 opened.0.is_open).0 stands.holds.sound;
    }

-- the files have the tables of the second version, so they are not taken over
back_holds : (old again : sqlite.State) (rows : RowsValue) → IsBack old again rows → Holds again.now rows
back_holds old again rows back = subst (λ db. Holds db rows) (sym back.shown) back.stands.holds

pub none_taken_back : (old again new : sqlite.State) (rows : RowsValue) → (HasCleanDisk new → IsBack old again rows)
    → Survives again new (IsTakenOver again) → Survives again new (λ _. ⊥)
none_taken_back old again new rows back =
    survives_weaker again new (IsTakenOver again) (λ _. ⊥)
    (λ clean trees h. second_or_first again.now rows (rows_by First h.state) (back_holds old again rows (back clean))
    h.over.was)

pub back_unchanged : (old again new : sqlite.State) (rows : RowsValue) (s : State) → IsBack old again rows
    → IsOpened again new s → IsUnchanged again new
back_unchanged old again new rows s back =
    only_unchanged again new rows s (λ serves. back_holds old again rows back)

-- the connection of an opened register rests, and shows what the one from the files showed
pub rests_opened : (again new : sqlite.State) → Opens again → IsUnchanged again new → IsAsBefore again new
rests_opened again new opened same = (
  record {
    is_open = same.0.is_open;
    autocommit = same.0.mode ∙ opened.autocommit;
    settled = same.0.now_is ∙ opened.clean ∙ sym same.0.committed_is;
  },
  same.0.now_is,
)

pub shows_again : (old again new : sqlite.State) (rows : RowsValue) → IsBack old again rows → IsAsBefore again new
    → ShowsAgain old new
shows_again old again new rows back same = record {
  was_clean = back.was_clean;
  was_open = back.stands.rests.is_open;
  as_before = (same.0, same.1 ∙ back.shown);
}

-- a connection leaves the last commit while it is open, so this is left of one that serves
pub leaves_shown : (old new : sqlite.State)
    → ((trees : Trees) → IsTrue new.is_open → new.may_leave trees → trees ≡ new.committed.trees)
    → (HasCleanDisk new → ShowsAgain old new) → LeavesAgain old new
leaves_shown old new settled shows clean trees may =
    let same = (shows clean).as_before in
    settled trees same.0.is_open may ∙ ap (λ (d : Database). d.trees) (sym same.0.settled ∙ same.1)

-- the same holds for a connection after which a crash leaves no more
pub leaves_again : (old again new : sqlite.State) (rows : RowsValue)
    → ((trees : Trees) → IsTrue again.is_open → again.may_leave trees → trees ≡ again.committed.trees)
    → Survives again new (λ _. ⊥) → (HasCleanDisk new → IsBack old again rows) → LeavesAgain old new
leaves_again old again new rows settled survives back clean trees may = elim (survives.crash clean trees may) [
  | inl before ↦
      (let it = back clean in
      settled trees it.opened.is_open before ∙ ap (λ (d : Database). d.trees) (sym it.opened.clean ∙ it.shown))
  | inr none ↦ absurd none
]

-- the state is still in the tables of a connection whose register was not read
pub remains_tied : (old again new : sqlite.State) (s : State) → IsSound s → IsHeldState s → new.in_transaction ≡ false
    → (HasCleanDisk new → IsTrue new.is_open → IsAsBefore again new)
    → ((trees : Trees) → IsTrue again.is_open → again.may_leave trees → trees ≡ again.committed.trees)
    → Survives again new (λ _. ⊥) → (HasCleanDisk new → IsBack old again (rows_of s)) → LosesNothing new s
remains_tied old again new s sound held outside as_before settled survives back = record {
  sound = sound;
  held = held;
  tied = record {
    autocommit = outside;
    stands = λ clean serves. (let it = back clean in
        let same = as_before clean serves in
        record {
          rests = same.0;
          holds = subst (λ db. Holds db (rows_of s)) (sym (same.1 ∙ it.shown)) it.stands.holds;
        });
    leaves = λ clean _ trees may. (
      old.now,
      leaves_again old again new (rows_of s) settled survives back clean trees may,
      (back clean).stands.holds,
    );
  };
}
