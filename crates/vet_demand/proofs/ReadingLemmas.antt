-- How a reader of records goes on.
use Rattle.std.proofs.Common.{List, ℕ, zero, suc, ◌≡◌, ◌⊎◌, ◌∙◌, ◌+◌, ◌-◌, ◌<◌, ◌≤◌, sym, refl, ap, true, false, ◌∷◌}
use Rattle.std.proofs.Common.{[], Bool, Some, inl, inr, length, nat_eq, arith}
use Rattle.std.specs.Prelude.{◌==◌, ◌&&◌, Result, Ok, Err, IsErrAnd}
use Rattle.std.specs.List.{starts_with}
use Rattle.std.proofs.lemmas.Bool.{false≢true}
use Rattle.std.proofs.lemmas.Bool.Decides.{nat_tests}
use Rattle.csv.specs.Machine.{Read, next_record}
use Rattle.csv.specs.Reading.{ExplainsRead, ReadRecord, Reached, Ready, default_config, is_bom, is_flexible}
use Rattle.csv.specs.Reading.{reader_trim, records_from, strip_bom, took_first}
use Rattle.csv.specs.declared.error.ErrorKind.{ErrorKind}
use Rattle.csv.specs.declared.error.ErrorKind.TheVariants as kind
use Rattle.csv.specs.declared.reader.Trim.TheVariants as trim
use Rattle.csv.proofs.ReadFacts.{rows-end, rows-more}
use Rattle.vet_base.specs.Gives.{Gives, Told}
use Rattle.vet_base.specs.declared.refusal.Refusal.{Refusal}
use Rattle.vet_base.specs.declared.refusal.Refusal.TheVariants.{CsvRefused, NoMemory}
use Rattle.vet_demand.specs.DependencyRecord.{is_header}
use Rattle.vet_demand.specs.DependencyTable.{StatedValue, fields_told, nothing_stated, records_told, table_told}
use Rattle.vet_demand.specs.RecordsLeft.{BytesReader, FirstIs, RecordsLeft, bytes_ahead, refusal_for}

-- ---- records

-- a record was read: it was the first of those left
pub first_read : (old new : BytesReader) (fields : List (List ℕ)) → ReadRecord bytes_ahead old new true fields
    → took_first new ≡ true
    → is_flexible new ≡ is_flexible old → (most : ℕ) (rows : List (List (List ℕ))) → RecordsLeft old (suc most) rows
    → FirstIs true fields new most rows
unfolding Reached records_from
first_read old new fields read first flexible most rows (state, left, was, is) =
    let one = rows-more bytes_ahead old new fields default_config old.state left left [] was.plain was.ahead
    (refl, refl) read in
    let reached : (p : Read) × (next_record default_config old.state [] [] left ≡ Some p) × (fields ≡ p.0)
    × ((p.1 ≡ new.state) × (p.2 ≡ one.0)) = one.2 in
    let (p, next, same, (now, after)) = reached in (
      records_from default_config most p.1 p.2,
      sym is ∙ rw (← was.now, next) (ap (λ (fs : List (List ℕ)). fs ∷ records_from default_config most p.1 p.2)
          (sym same)),
      (
        p.1,
        p.2,
        record {
          untrimmed = read.3 ∙ was.untrimmed;
          ready = inl first;
          plain = read.2 ∙ was.plain;
          flexible = flexible ∙ was.flexible;
          ahead = one.1 ∙ ap (λ (xs : List ℕ). Some xs) (sym after);
          now = sym now;
        },
        refl,
      ),
    )

-- no record was read: none was left
pub none_read : (old new : BytesReader) (fields : List (List ℕ)) → ReadRecord bytes_ahead old new false fields
    → (most : ℕ) (rows : List (List (List ℕ))) → RecordsLeft old (suc most) rows → rows ≡ []
unfolding records_from
none_read old new fields read most rows (state, left, was, is) =
    let end = rows-end bytes_ahead old new fields default_config left was.plain was.ahead read in
    sym is ∙ rw (← was.now, end) refl

-- no record is left of none
pub none_left : (reader : BytesReader) (rows : List (List (List ℕ))) → RecordsLeft reader 0 rows → rows ≡ []
unfolding records_from
none_left reader rows (state, left, was, is) = sym is

-- an error is that memory ran out, or one that bytes in memory don't give
pub read_refused : (number : ℕ) (old new : BytesReader) (k : ErrorKind) → is_flexible old ≡ true
    → ExplainsRead bytes_ahead old new false k
    → refusal_for number k ≡ NoMemory
read_refused number old new (kind.Io e) flexible h = refl
read_refused number old new kind.OutOfMemory flexible h = refl
read_refused number old new (kind.UnequalLengths pos expected len) flexible h = cc (sym flexible ∙ h.0)
read_refused number old new (kind.Utf8 pos err) flexible h = cc h.0
read_refused number old new (kind.Serialize text) flexible h = absurd h
read_refused number old new (kind.Deserialize pos err) flexible h = absurd h

-- what a read found, if it was of a reader with records left
pub row_read : (old new : BytesReader) (found : Bool) (fields : List (List ℕ))
    → (reader_trim old ≡ trim.None → Ready old → ReadRecord bytes_ahead old new found fields)
    → (reader_trim old ≡ trim.None → took_first new ≡ true)
    → is_flexible new ≡ is_flexible old → (most : ℕ) (rows : List (List (List ℕ))) → RecordsLeft old (suc most) rows
    → FirstIs found fields new most rows
row_read old new true fields read first flexible most rows left =
    let was = left.2 in
    first_read old new fields (read was.untrimmed was.ready) (first was.untrimmed) flexible most rows left
row_read old new false fields read first flexible most rows left =
    let was = left.2 in
    none_read old new fields (read was.untrimmed was.ready) most rows left

-- ---- a byte order mark

and_none : (b : Bool) → (b && false) ≡ false
and_none true = refl
and_none false = refl

pub text_marked : (bs : List ℕ) → starts_with nat_eq bs (0xEF ∷ 0xBB ∷ 0xBF ∷ []) ≡ true
    → length bs - 3 ≡ length (strip_bom bs)
unfolding strip_bom
text_marked [] h = cc h
text_marked (a ∷ []) h = absurd (false≢true (sym (and_none (0xEF == a)) ∙ h))
text_marked (a ∷ b ∷ []) h =
    absurd (false≢true (sym (ap (λ t. (0xEF == a) && t) (and_none (0xBB == b)) ∙ and_none (0xEF == a)) ∙ h))
text_marked (a ∷ b ∷ c ∷ rest) h =
    let mark : is_bom a b c ≡ true = grind (arith, nat_tests) in
    rw mark (omega arith)

pub text_unmarked : (bs : List ℕ) → starts_with nat_eq bs (0xEF ∷ 0xBB ∷ 0xBF ∷ []) ≡ false
    → length bs ≡ length (strip_bom bs)
unfolding strip_bom
text_unmarked [] h = refl
text_unmarked (a ∷ []) h = refl
text_unmarked (a ∷ b ∷ []) h = refl
text_unmarked (a ∷ b ∷ c ∷ rest) h =
    let mark : is_bom a b c ≡ false = grind (arith, nat_tests, h) in
    rw mark refl

-- ---- the records after the header

-- what is told of all records is told of those that are left, after what is stated so far
abbrev pub RowsSoFar : BytesReader → ℕ → StatedValue → ℕ → BytesReader → StatedValue → Type 0
RowsSoFar first most begun turn reader stated =
    (rows : List (List (List ℕ))) → RecordsLeft first most rows
    → (left : ℕ) × (rest : List (List (List ℕ))) × (left + turn ≡ most) × RecordsLeft reader left rest
    × (records_told 2 begun rows ≡ records_told (turn + 2) stated rest)

pub RowsSoFar-none : (first : BytesReader) (most : ℕ) (begun : StatedValue) → RowsSoFar first most begun 0 first begun
RowsSoFar-none first most begun rows left = (most, rows, omega arith, left, refl)

-- what a turn of the loop finds
abbrev pub Finds : BytesReader → BytesReader → Bool → List (List ℕ) → Type 0
Finds reader after found fields = (most : ℕ) (rows : List (List (List ℕ))) → RecordsLeft reader (suc most) rows
    → FirstIs found fields after most rows

-- another record is left, or none
turn_found : (first : BytesReader) (most : ℕ) (begun : StatedValue) (turn : ℕ) (reader after : BytesReader)
    (stated : StatedValue) (found : Bool) (fields : List (List ℕ))
    → RowsSoFar first most begun turn reader stated → Finds reader after found fields → turn < most
    → (rows : List (List (List ℕ))) → RecordsLeft first most rows
    → (left : ℕ) × (rest : List (List (List ℕ))) × (suc left + turn ≡ most) × FirstIs found fields after left rest
    × (records_told 2 begun rows ≡ records_told (turn + 2) stated rest)
turn_found first most begun turn reader after stated found fields so_far finds more rows left = step (so_far rows left)
  where
    step : (left : ℕ) × (rest : List (List (List ℕ))) × (left + turn ≡ most) × RecordsLeft reader left rest
        × (records_told 2 begun rows ≡ records_told (turn + 2) stated rest)
        → (left : ℕ) × (rest : List (List (List ℕ))) × (suc left + turn ≡ most) × FirstIs found fields after left rest
        × (records_told 2 begun rows ≡ records_told (turn + 2) stated rest)
    step (zero, rest, sum, held, told) = absurd (omega (arith, sum, more))
    step (suc n, rest, sum, held, told) = (n, rest, sum, finds n rest held, told)

pub RowsSoFar-next : (first : BytesReader) (most : ℕ) (begun : StatedValue) (turn : ℕ) (reader after : BytesReader)
    (stated longer : StatedValue) (fields : List (List ℕ))
    → RowsSoFar first most begun turn reader stated → Finds reader after true fields → turn < most
    → fields_told (turn + 2) stated fields ≡ Ok longer
    → RowsSoFar first most begun (turn + 1) after longer
RowsSoFar-next first most begun turn reader after stated longer fields so_far finds more taken rows left =
    let (n, rest, sum, (others, is, held), told) =
    turn_found first most begun turn reader after stated true fields so_far finds more rows left in
    let number : turn + 2 + 1 ≡ turn + 1 + 2 = omega arith in
    (n, others, omega (arith, sum), held, told ∙ rw (is, taken) (ap (λ k. records_told k longer others) number))

pub told_end : (first : BytesReader) (most : ℕ) (begun : StatedValue) (turn : ℕ) (reader after : BytesReader)
    (stated : StatedValue) (fields : List (List ℕ))
    → RowsSoFar first most begun turn reader stated → Finds reader after false fields → turn < most
    → (rows : List (List (List ℕ))) → RecordsLeft first most rows → records_told 2 begun rows ≡ Ok stated
told_end first most begun turn reader after stated fields so_far finds more rows left =
    let (n, rest, sum, none, told) =
    turn_found first most begun turn reader after stated false fields so_far finds more rows left in
    told ∙ rw none refl

pub told_refused : (first : BytesReader) (most : ℕ) (begun : StatedValue) (turn : ℕ) (reader after : BytesReader)
    (stated : StatedValue) (fields : List (List ℕ)) (e : Refusal)
    → RowsSoFar first most begun turn reader stated → Finds reader after true fields → turn < most
    → (e ≡ NoMemory) ⊎ (fields_told (turn + 2) stated fields ≡ Err e)
    → (rows : List (List (List ℕ))) → RecordsLeft first most rows → (e ≡ NoMemory) ⊎ (records_told 2 begun rows ≡ Err e)
told_refused first most begun turn reader after stated fields e so_far finds more (inl memory) rows left = inl memory
told_refused first most begun turn reader after stated fields e so_far finds more (inr refused) rows left =
    let (n, rest, sum, (others, is, held), told) =
    turn_found first most begun turn reader after stated true fields so_far finds more rows left in
    inr (told ∙ rw (is, refused) refl)

pub told_all : (first : BytesReader) (most : ℕ) (begun : StatedValue) (turn : ℕ) (reader : BytesReader)
    (stated : StatedValue)
    → RowsSoFar first most begun turn reader stated → most ≤ turn
    → (rows : List (List (List ℕ))) → RecordsLeft first most rows → records_told 2 begun rows ≡ Ok stated
told_all first most begun turn reader stated so_far done rows left = step (so_far rows left)
  where
    step : (left : ℕ) × (rest : List (List (List ℕ))) × (left + turn ≡ most) × RecordsLeft reader left rest
        × (records_told 2 begun rows ≡ records_told (turn + 2) stated rest) → records_told 2 begun rows ≡ Ok stated
    step (zero, rest, sum, held, told) = told ∙ rw (none_left reader rest held) refl
    step (suc n, rest, sum, held, told) = absurd (omega (arith, sum, done))

-- a refusal that is handed on is given
pub handed_on : {A T : Type 0} (view : T → A) (told : Told A) (answer : Result T Refusal) (e : Refusal)
    → IsErrAnd answer (λ x. x ≡ e)
    → (e ≡ NoMemory) ⊎ (told ≡ Err e) → Gives view told answer
handed_on view told (Ok v) e h given = absurd h
handed_on view told (Err x) e h given = rw h given

-- ---- the whole table

-- where no record is left, or the first is no header, 27 is told
pub no_header : (reader after : BytesReader) (found : Bool) (fields : List (List ℕ)) (most : ℕ)
    → Finds reader after found fields
    → (found && is_header fields) ≡ false → (rows : List (List (List ℕ))) → RecordsLeft reader (suc most) rows
    → table_told rows ≡ Err (CsvRefused 1)
no_header reader after false fields most finds h rows left = rw (finds most rows left) refl
no_header reader after true fields most finds h rows left =
    let (rest, is, held) = finds most rows left in
    let told : table_told (fields ∷ rest) ≡ Err (CsvRefused 1) = rw h refl in
    ap table_told is ∙ told

-- under the header, what is told of the table is told of the others
pub under_header : (reader after : BytesReader) (fields : List (List ℕ)) (most : ℕ) → Finds reader after true fields
    → is_header fields ≡ true
    → (rows : List (List (List ℕ))) → RecordsLeft reader (suc most) rows
    → (rest : List (List (List ℕ))) × RecordsLeft after most rest
    × (table_told rows ≡ records_told 2 nothing_stated rest)
under_header reader after fields most finds h rows left =
    let (rest, is, held) = finds most rows left in
    let told : table_told (fields ∷ rest) ≡ records_told 2 nothing_stated rest = rw h refl in
    (rest, held, ap table_told is ∙ told)

-- a read that failed while records were left wanted memory
pub memory_wanting : (first : BytesReader) (most : ℕ) (begun : StatedValue) (turn : ℕ) (reader : BytesReader)
    (stated : StatedValue) (e : Refusal)
    → RowsSoFar first most begun turn reader stated
    → ((most : ℕ) (rows : List (List (List ℕ))) → RecordsLeft reader most rows → e ≡ NoMemory)
    → (rows : List (List (List ℕ))) → RecordsLeft first most rows → e ≡ NoMemory
memory_wanting first most begun turn reader stated e so_far failed rows left =
    let (n, rest, sum, held, told) = so_far rows left in
    failed n rest held

pub found_end : (reader after : BytesReader) (found : Bool) (fields : List (List ℕ))
    → Finds reader after found fields → found ≡ false → Finds reader after false fields
found_end reader after found fields finds no_more = rw no_more at finds

pub found_more : (reader after : BytesReader) (found : Bool) (fields : List (List ℕ))
    → Finds reader after found fields → found ≡ true → Finds reader after true fields
found_more reader after found fields finds one = rw one at finds

pub told_alike : {A : Type 0} (told same : Told A) (e : Refusal) → told ≡ same → (e ≡ NoMemory) ⊎ (same ≡ Err e)
    → (e ≡ NoMemory) ⊎ (told ≡ Err e)
told_alike told same e h (inl memory) = inl memory
told_alike told same e h (inr refused) = inr (h ∙ refused)
