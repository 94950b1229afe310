-- What is read of tables is the state of which they have the rows.
use Rattle.std.proofs.Common.{◌≡◌, Bool, Err, IfOk, None, Ok, Option, Result, Some, ap, false, refl, sym}
use Rattle.std.proofs.Common.{cond, subst, true}
use Rattle.std.specs.Prelude.{MatchResult}
use Rattle.sqlite.specs.Effect.{Database}
use Rattle.vet_base.specs.Gives.{Told, found_or}
use Rattle.vet_base.specs.declared.refusal.Refusal.{Refusal}
use Rattle.vet_base.specs.declared.refusal.Refusal.TheVariants.{NoMemory, NotARegister}
use Rattle.vet_register.specs.Sound.{IsSound}
use Rattle.vet_register.specs.State.{State}
use Rattle.vet_rows.specs.HeldState.{IsHeldState, SameButStanding}
use Rattle.vet_rows.specs.RowsOf.{rows_by}
use Rattle.vet_store.proofs.HeldRows.{rows_readable}
use Rattle.vet_store.proofs.OneRows.{one_first_rows}
use Rattle.vet_store.proofs.Versions.{in_version}
use Rattle.vet_store.specs.Opened.{IsStored, IsToldBy}
use Rattle.vet_store.specs.Stands.{HoldsIn}
use Rattle.vet_store.specs.Readable.{AreReadable}
use Rattle.vet_tables.specs.Cells.{RowsValue, SameRows}
use Rattle.vet_tables.specs.Versions.{HasVersion, table_count}
use Rattle.vet_tables.specs.declared.version.TablesVersion.{TablesVersion}

but_standing : (a b : RowsValue) → SameRows a b → SameButStanding a b
but_standing a b h name apart = h name

-- what reads back each state of these rows, reads the one that they tell
pub read_is : (version : TablesVersion) (rows : RowsValue) (answer : Told State)
    → ((v : TablesVersion) (s : State) → IsSound s → IsHeldState s → SameButStanding rows (rows_by v s)
    → MatchResult answer (λ found. found ≡ s) (λ e. e ≡ NoMemory))
    → (t : State) → IsToldBy version rows t → MatchResult answer (λ found. found ≡ t) (λ e. e ≡ NoMemory)
read_is version rows answer back t h =
    back version t h.sound h.held (but_standing rows (rows_by version t) h.same)

-- a state that is stored is told by the rows that stand in the tables
pub told_stored : (version : TablesVersion) (db : Database) (rows : RowsValue) → HoldsIn version db rows → (t : State)
    → IsStored db t → IsToldBy version rows t
told_stored version db rows holds t h = record {
  sound = h.sound;
  held = h.held;
  same = one_first_rows (table_count version) db rows (rows_by version t) holds
      (in_version version db holds.first t h);
}

-- where no readable rows stand there, no state is stored
pub none_stored : (version : TablesVersion) (db : Database) → HasVersion version db.schema
    → ((rows : RowsValue) → AreReadable rows → HoldsIn version db rows → ⊥) → (t : State) → IsStored db t → ⊥
none_stored version db has none t h =
    none (rows_by version t) (rows_readable t h.sound h.held version) (in_version version db has t h)

-- what holds of an answer, where a stronger thing does
pub if_answered : {A E : Type 0} (answer : Result A E) (P Q : A → Type 0) → ((x : A) → P x → Q x) → IfOk answer P
    → IfOk answer Q
if_answered (Ok x) P Q then h = then x h
if_answered (Err e) P Q then h = tt

-- what is answered of a register, by whether its rows are those that were read
pub by_same_rows : {A : Type 0} (same : Bool) (x : A) (answer : Told A)
    → answer ≡ cond same (Ok x) (Err NotARegister) → (P : Told A → Type 0) → (same ≡ true → P (Ok x))
    → P (Err NotARegister) → P answer
by_same_rows true x answer is P holds none = subst P (sym is) (holds refl)
by_same_rows false x answer is P holds none = subst P (sym is) none

-- what was found, by what is told of it
pub none_found : {A : Type 0} (found : Option A) (e : Refusal) → found_or NotARegister found ≡ Err e → found ≡ None
none_found None e told = refl
none_found (Some x) e told = cc told

pub some_found : {A : Type 0} (found : Option A) (x : A) → found_or NotARegister found ≡ Ok x → found ≡ Some x
some_found None x told = cc told
some_found (Some y) x told = ap Some (cc told)
