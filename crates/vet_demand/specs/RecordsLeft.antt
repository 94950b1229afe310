-- The records that a reader of bytes in memory has left (ours).
use Rattle.std.specs.Borrow.{Bor}
use Rattle.std.specs.Prelude.{ℕ, ◌≡◌, Bool, true, false, List, [], ◌∷◌, Option, Some}
use Rattle.csv.specs.Reading.{Ready, default_config, is_flexible, reader_config, reader_state, reader_trim}
use Rattle.csv.specs.Reading.{records_from, source_of}
use Rattle.csv.specs.declared.error.ErrorKind.{ErrorKind}
use Rattle.csv.specs.declared.error.ErrorKind.TheVariants as kind
use Rattle.csv.specs.declared.parser.State.{State}
use Rattle.csv.specs.declared.reader.Reader.{Reader}
use Rattle.csv.specs.declared.reader.Trim.TheVariants as trim
use Rattle.vet_base.specs.Words.{Bytes, Text}
use Rattle.vet_base.specs.declared.refusal.Refusal.{Refusal}
use Rattle.vet_base.specs.declared.refusal.Refusal.TheVariants.{CsvRefused, NoMemory}

-- a reader of bytes in memory, and the bytes that it has yet to take
abbrev pub BytesReader : Type 0
BytesReader = Reader (Bor Bytes)

abbrev pub bytes_ahead : Bor Bytes → Option Bytes
bytes_ahead s = Some s.now

-- a reader in this state with these bytes left, which gives one record at a time, of any number of fields
pub record IsReading (reader : BytesReader) (state : State) (left : Bytes) : Type 0 where
  pub untrimmed : reader_trim reader ≡ trim.None
  pub ready : Ready reader
  pub plain : reader_config reader ≡ default_config
  pub flexible : is_flexible reader ≡ true
  pub ahead : source_of bytes_ahead reader ≡ Some left
  pub now : reader_state reader ≡ state

-- the records that are left, if there are at most this many
abbrev pub RecordsLeft : BytesReader → ℕ → List (List Text) → Type 0
RecordsLeft reader most rows = (state : State) × (left : Bytes) × IsReading reader state left
    × (records_from default_config most state left ≡ rows)

-- there was no record, or these are the fields of the first, and the others are left
abbrev pub FirstIs : Bool → List Text → BytesReader → ℕ → List (List Text) → Type 0
FirstIs false fields reader most rows = rows ≡ []
FirstIs true fields reader most rows = (rest : List (List Text)) × (rows ≡ fields ∷ rest)
    × RecordsLeft reader most rest

-- the refusal for an error of the reader at the record of this number
abbrev pub refusal_for : ℕ → ErrorKind → Refusal
refusal_for number (kind.Io e) = NoMemory
refusal_for number kind.OutOfMemory = NoMemory
refusal_for number (kind.UnequalLengths pos expected len) = CsvRefused number
refusal_for number (kind.Utf8 pos err) = CsvRefused number
refusal_for number (kind.Serialize text) = CsvRefused number
refusal_for number (kind.Deserialize pos err) = CsvRefused number
