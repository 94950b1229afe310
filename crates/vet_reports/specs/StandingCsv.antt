-- The standing as CSV (RFC 4180, as the writer of the `csv` crate writes it): a header, then a record for each demanded
-- pair.
use Rattle.std.specs.Prelude.{List, [], ◌∷◌, ◌++◌, codes}
use Rattle.std.specs.List.{flat_map}
use Rattle.csv.specs.Writing.{default_writer, row_text}
use Rattle.vet_base.specs.Version.{version_text}
use Rattle.vet_base.specs.Words.{Text}
use Rattle.vet_graph.specs.Class.{class_word}
use Rattle.vet_graph.specs.declared.standing.Stand.{Stand}
use Rattle.vet_register.specs.State.{State, standing}

-- the line of a record: fields with a comma between two of them, one that has a comma or a quote between quotes
abbrev pub record_line : List Text → Text
record_line fields = row_text default_writer fields

abbrev pub header_fields : List Text
header_fields = codes "package" ∷ codes "version" ∷ codes "criterion" ∷ codes "class" ∷ []

-- the fields of a pair in a class
abbrev pub stand_fields : Stand → List Text
stand_fields s = s.pair.«package» ∷ version_text s.pair.version ∷ s.pair.criterion ∷ class_word s.class ∷ []

unfoldable pub stand_record : Stand → Text
stand_record s = record_line (stand_fields s)

-- the header, and below it the records of some pairs
abbrev pub stands_csv : List Stand → Text
stands_csv stands = record_line header_fields ++ flat_map stand_record stands

-- the report, by package, version and criterion
abbrev pub standing_csv : State → Text
standing_csv s = stands_csv (standing s)
