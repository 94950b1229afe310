-- The report of last days (ours): a line for each own exemption that has one, by number.
use Rattle.std.specs.Prelude.{Bool, true, false, List, [], ◌∷◌, ◌++◌, Option, Some, None, codes}
use Rattle.std.specs.Fmt.{decimal}
use Rattle.std.specs.List.{flat_map}
use Rattle.vet_base.specs.Day.{DayValue, day_text}
use Rattle.vet_base.specs.Names.{members}
use Rattle.vet_base.specs.Version.{VersionValue}
use Rattle.vet_base.specs.Words.{Name, Text}
use Rattle.vet_entries.specs.declared.facts.HeldEntry.{HeldEntry}
use Rattle.vet_entries.specs.declared.kind.Kind.{Kind}
use Rattle.vet_entries.specs.declared.kind.Kind.TheVariants.{Exemption}
use Rattle.vet_entries.specs.Kind.{has_lapsed}
use Rattle.vet_register.specs.State.{State}
use Rattle.vet_reports.specs.Columns.{comma_list, left_in, line, right_in, version_columns}

-- the word for whether an exemption has lapsed
abbrev pub lapse_word : Bool → Text
lapse_word true = codes "lapsed"
lapse_word false = codes "held"

-- the line of an exemption of a version with a last day, for these criteria: its number, that day, the package, the
-- version, whether it has lapsed, and the criteria
unfoldable pub line_for : Bool → List Name → HeldEntry → VersionValue → DayValue → Text
line_for lapsed criteria held version last =
    line (right_in 8 (decimal held.number) ∷ day_text last ∷ (version_columns held.entry.«package» version
    ++ (left_in 6 (lapse_word lapsed) ∷ comma_list criteria ∷ [])))

-- the line of an exemption, with its criteria in the order of their bytes; nothing if it has no last day
abbrev pub exemption_line : Bool → HeldEntry → VersionValue → Option DayValue → Text
exemption_line lapsed held version None = []
exemption_line lapsed held version (Some last) = line_for lapsed (members held.entry.criteria) held version last

-- the line of an entry of a kind; nothing if it is not an exemption
abbrev pub line_of_kind : Bool → HeldEntry → Kind → Text
line_of_kind lapsed held (Exemption version suggest last) = exemption_line lapsed held version last
line_of_kind _ _ _ = []

-- the line of an own entry, by the register's day
abbrev pub lapse_line : Option DayValue → HeldEntry → Text
lapse_line day held = line_of_kind (has_lapsed held.entry.kind day) held held.entry.kind

-- the report, by the register's day
abbrev pub lapses_text : State → Text
lapses_text s = flat_map (lapse_line s.held.facts.today) s.held.facts.entries
