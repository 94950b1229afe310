-- The tables are read one after another.
use Rattle.std.proofs.Common.{◌≡◌, ◌<◌, ◌≤◌, ◌+◌, ◌++◌, ◌∷◌, [], ℕ, zero, suc, List, arith, length, map, refl}
use Rattle.std.proofs.Common.{slice_index_or, ap, subst, sym}
use Rattle.std.proofs.lemmas.List.{get_or_append_left, get_or_push}
use Rattle.sqlite.proofs.Callers.{unchanged_then}
use Rattle.sqlite.specs.Effect.{Database, IsDatabase}
use Rattle.sqlite.specs.Held.{Held, state}
use Rattle.sqlite.specs.State.{IsUnchanged, State}
use Rattle.sqlite.specs.Store.{Ghosts}
use Rattle.sqlite_schema.specs.declared.schema.Kind.TheVariants as kind
use Rattle.sqlite_value.specs.Order.{Row as Values}
use Rattle.sqlite_value.specs.declared.value.Value.{Value}
use Rattle.vet_base.proofs.ItemLemmas.{in_map}
use Rattle.vet_base.specs.Items.{IsIn}
use Rattle.vet_store.proofs.TypedCells.{cells_typed}
use Rattle.vet_store.specs.Read.{IsUnread}
use Rattle.vet_store.specs.Readable.{AreReadable}
use Rattle.vet_store.specs.Stands.{HoldsFirst}
use Rattle.vet_tables.proofs.TablePlaces.{up_to}
use Rattle.vet_tables.specs.Cells.{Row, RowsValue, contents_of, values_of}
use Rattle.vet_tables.specs.Forms.{code, form_of}
use Rattle.vet_tables.specs.Read.{AreRead, KeepsRest}
use Rattle.vet_tables.specs.Typed.{AreTyped, IsKind, kinds_of}
use Rattle.vet_tables.specs.Versions.{HasFirst}
use Rattle.vet_tables.specs.declared.table_name.TableName.{TableName}

-- where no rows stand in one table, none stand in all
pub none_stands : (count : ℕ) (db : Database) (n : TableName) → code n < count → IsUnread db n → (rows : RowsValue)
    → AreReadable rows → HoldsFirst count db rows → ⊥
none_stands count db n low none rows readable holds = none (holds.first.has n low) rows readable (holds.shows n low)

pub all_stand : (count : ℕ) (db : Database) (rows : RowsValue) → IsDatabase db → HasFirst count db.schema
    → ((n : TableName) → code n < count → AreRead db n (contents_of rows n))
    → ((n : TableName) → count ≤ code n → contents_of rows n ≡ []) → HoldsFirst count db rows
all_stand count db rows sound first read none = record {
  sound = sound;
  first = first;
  shows = λ n low. read n low (first.has n low);
  none = none;
}

-- there is no item after the end of a list
pub behind_end : {X : Type 0} (xs : List X) (i : ℕ) (none : X) → length xs ≤ i → slice_index_or xs i none ≡ none
behind_end [] i none far = refl
behind_end (x ∷ xs) zero none far = absurd (omega (arith, far))
behind_end (x ∷ xs) (suc i) none far = behind_end xs i none (omega (arith, far))

-- ---- the tables so far, and one more

-- the list of a table is that at its place
abbrev pub IsReadAt : Database → List (List Row) → TableName → Type 0
IsReadAt db lists n = AreRead db n (map values_of (slice_index_or lists (code n) []))

pub read_more : (db : Database) (lists : List (List Row)) (next : List Row) (table : TableName)
    → code table ≡ length lists → ((n : TableName) → code n < length lists → IsReadAt db lists n)
    → AreRead db table (map values_of next) → (n : TableName) → code n < length lists + 1
    → IsReadAt db (lists ++ next ∷ []) n
read_more db lists next table place before here =
    up_to (IsReadAt db (lists ++ next ∷ [])) (length lists) table place
    (λ n low. subst (λ rows. AreRead db n (map values_of rows))
    (sym (get_or_append_left lists (next ∷ []) [] (code n) low)) (before n low))
    (subst (λ rows. AreRead db table (map values_of rows)) (sym (get_or_push lists next [] (code table) (sym place)))
    here)

-- ---- the connection so far, and after one more read

pub still_unchanged : {S : Type 0} (g : Ghosts S) (old before new : Held S) (at : ℕ) → (at ≡ 0 → before ≡ old)
    → (0 < at → IsUnchanged (state g old) (state g before)) → IsUnchanged (state g before) (state g new)
    → IsUnchanged (state g old) (state g new)
still_unchanged g old before new zero first later step =
    subst (λ h. IsUnchanged (state g h) (state g new)) (first refl) step
still_unchanged g old before new (suc at) first later step =
    unchanged_then (state g old) (state g before) (state g new) (later (omega arith)) step

-- what the connection shows so far is what it showed
pub still_shows : {S : Type 0} (g : Ghosts S) (old before : Held S) (at : ℕ) → (at ≡ 0 → before ≡ old)
    → (0 < at → IsUnchanged (state g old) (state g before)) → (state g before).now ≡ (state g old).now
still_shows g old before zero first later = ap (λ h. (state g h).now) (first refl)
still_shows g old before (suc at) first later = (later (omega arith)).0.now_is

pub keeps_self : (s : State) → KeepsRest s s
keeps_self s = record { was_open = λ serves. serves; rests = λ serves was. was; same = λ serves was. refl }

-- ---- what was read has the types of the columns

pub rows_typed : (n : TableName) (rows : RowsValue) → AreReadable rows → (v : Values) → IsIn v (contents_of rows n)
    → (id : Value) → IsKind kind.Integer id → AreTyped (kinds_of (form_of n)) (id ∷ v)
rows_typed n rows readable v i id int =
    let row = in_map values_of (rows n) v i in
    subst (λ values. AreTyped (kinds_of (form_of n)) (id ∷ values)) (sym row.1.1)
    (cells_typed n row.0 id int (readable n row.0 row.1.0))
