-- Tables of the first version are read, and then become those of the second.
use Rattle.std.proofs.Common.{◌≡◌, ◌∙◌, IsTrue, false, inl, inr, subst, sym}
use Rattle.sqlite.proofs.Callers.{unchanged_then}
use Rattle.sqlite.proofs.StateLemmas.{survives_then, survives_weaker}
use Rattle.sqlite.specs.Effect.{Database}
use Rattle.sqlite.specs.State.{HasCleanDisk, IsUnchanged, Survives}
use Rattle.sqlite.specs.State as sqlite
use Rattle.vet_register.specs.Sound.{IsSound}
use Rattle.vet_register.specs.State.{State}
use Rattle.vet_rows.specs.HeldState.{IsHeldState}
use Rattle.vet_rows.specs.RowsOf.{rows_by, rows_of}
use Rattle.vet_store.proofs.Tying.{still_clean}
use Rattle.vet_store.proofs.Versions.{second_or_first}
use Rattle.vet_store.specs.Made.{IsAsBefore, IsFilled}
use Rattle.vet_store.specs.Stands.{Holds, HoldsIn, Stands}
use Rattle.vet_store.specs.TakenOver.{IsOpened, IsTakenOver, MayTakeOver, TakesOver, TookOver}
use Rattle.vet_store.specs.Tied.{IsTied}
use Rattle.vet_tables.specs.Cells.{RowsValue}
use Rattle.vet_tables.specs.Extends.{AddsTables}
use Rattle.vet_tables.specs.Read.{Rests}
use Rattle.vet_tables.specs.declared.table_name.TheConstants.{FIRST_TABLE_COUNT}
use Rattle.vet_tables.specs.declared.version.TablesVersion.{TablesVersion}
use Rattle.vet_tables.specs.declared.version.TablesVersion.TheVariants.{First}

-- ---- the transaction

module _ (old new : sqlite.State) (s : State) (change : RowsValue → RowsValue)
    (same : change (rows_by First s) ≡ rows_of s) where
  pub took_over : Rests old → HoldsIn First old.now (rows_by First s)
      → Stands new (change (rows_by First s)) × AddsTables FIRST_TABLE_COUNT old.now new.now
      → Stands new (rows_of s) × TookOver old new s
  took_over rests was made =
      let stands = subst (Stands new) same made.0 in (
        stands,
        record {
          was_open = rests.is_open;
          rests = stands.rests;
          over = record { was = was; has = stands.holds; others = made.1 };
        },
      )

  pub may_take_over : Survives old new (IsFilled FIRST_TABLE_COUNT old change) → Survives old new (MayTakeOver old s)
  may_take_over =
      survives_weaker old new (IsFilled FIRST_TABLE_COUNT old change) (MayTakeOver old s)
      (λ clean trees h. (
        h.0,
        (
          h.1,
          λ rests was.
              let it = h.2 (rows_by First s) rests was in
              record { was = was; has = subst (Holds h.0) same it.0; others = it.1 },
        ),
      ))

-- ---- after the tables were read

module _ (old mid new : sqlite.State) (version : TablesVersion) (s : State) (outside : old.in_transaction ≡ false)
    (settled : IsTrue old.is_open → old.now ≡ old.committed)
    (read : HasCleanDisk mid → IsUnchanged old mid × HoldsIn version old.now (rows_by version s)) where
  rests_mid : HasCleanDisk mid → Rests mid
  rests_mid clean =
      let same = (read clean).0 in
      record {
        is_open = same.0.is_open;
        autocommit = same.0.mode ∙ outside;
        settled = same.0.now_is ∙ settled same.0.was_open ∙ sym same.0.committed_is;
      }

  holds_mid : HasCleanDisk mid → HoldsIn version mid.now (rows_by version s)
  holds_mid clean =
      let it = read clean in subst (λ db. HoldsIn version db (rows_by version s)) (sym it.0.0.now_is) it.1

  -- what was opened there was opened
  pub opened_then : HasCleanDisk mid
      → (Rests mid → HoldsIn version mid.now (rows_by version s) → Stands new (rows_of s) × IsOpened mid new s)
      → Stands new (rows_of s) × IsOpened old new s
  opened_then clean made = let it = made (rests_mid clean) (holds_mid clean) in (it.0, by it.1)
    where
      by : IsOpened mid new s → IsOpened old new s
      by (inl same) = inl (unchanged_then old mid new (read clean).0 same)
      by (inr took) =
          let first = (read clean).0.0 in
          inr (record {
            was_open = first.was_open;
            rests = took.rests;
            over = subst (λ (db : Database). TakesOver db new.now s) first.now_is took.over;
          })

  -- and after a refusal all is as before
  pub as_before_then : HasCleanDisk mid → (Rests mid → IsAsBefore mid new) → IsAsBefore old new
  as_before_then clean refused =
      let it = refused (rests_mid clean) in (it.0, it.1 ∙ (read clean).0.0.now_is)

  pub leaves_then : IsSound s → IsHeldState s → Survives old mid (λ _. ⊥)
      → Survives mid new (λ trees. (version ≡ First) × MayTakeOver mid s trees)
      → Survives old new (IsTakenOver old)
  leaves_then sound held one two =
      survives_then old mid new (λ _. ⊥) (λ trees. (version ≡ First) × MayTakeOver mid s trees) (IsTakenOver old)
      (λ _ db none. absurd none)
      (λ clean trees h.
      let early = still_clean mid new (λ trees. (version ≡ First) × MayTakeOver mid s trees) two clean in
      let first = (read early).0.0 in
      let was = subst (λ v. HoldsIn v mid.now (rows_by v s)) h.0 (holds_mid early) in
      let over = h.1.1.1 (rests_mid early) was in
      record {
        was_open = first.was_open;
        db = h.1.0;
        trees_are = h.1.1.0;
        state = s;
        sound = sound;
        held = held;
        over = subst (λ (db : Database). TakesOver db h.1.0 s) first.now_is over;
      })
      one two

-- ---- tables of the second version are not taken over

-- on a connection that is tied to a register
pub none_taken_over : (old new : sqlite.State) (shut : _) (rows : RowsValue) → IsTied old shut rows
    → Survives old new (IsTakenOver old) → Survives old new (λ _. ⊥)
none_taken_over old new shut rows tied survives =
    survives_weaker old new (IsTakenOver old) (λ _. ⊥)
    (λ clean trees h.
    let stands = tied.stands (still_clean old new (IsTakenOver old) survives clean) h.was_open in
    second_or_first old.now rows (rows_by First h.state) stands.holds h.over.was)
    survives

-- and on a connection whose tables have these rows
pub only_unchanged : (old new : sqlite.State) (rows : RowsValue) (s : State) → (IsTrue old.is_open → Holds old.now rows)
    → IsOpened old new s → IsUnchanged old new
only_unchanged old new rows s holds (inl same) = same
only_unchanged old new rows s holds (inr took) =
    absurd (second_or_first old.now rows (rows_by First s) (holds took.was_open) took.over.was)
