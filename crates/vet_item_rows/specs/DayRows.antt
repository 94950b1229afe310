-- The rows of last days and of the register's day (ours). The row of an entry does not have its last day, which has a
-- row in another table (plain_entry, last_rows).
use Rattle.std.specs.Prelude.{◌≡◌, ℕ, pos, ℤ, List, [], ◌∷◌, map, Option, Some, None}
use Rattle.vet_base.specs.Day.{DayValue, day_number}
use Rattle.vet_entries.specs.Facts.{Facts}
use Rattle.vet_entries.specs.Kind.{last_day_of}
use Rattle.vet_entries.specs.declared.facts.HeldEntry.{HeldEntry}
use Rattle.vet_entries.specs.declared.kind.Kind.{Kind}
use Rattle.vet_entries.specs.declared.kind.Kind.TheVariants as kind
use Rattle.vet_item_rows.specs.Gathered.{Gathered}
use Rattle.vet_item_rows.specs.declared.read.gathered.WithKey.{WithKey}
use Rattle.vet_tables.specs.Cells.{Row}
use Rattle.vet_tables.specs.declared.cell.Cell.TheVariants.{Int}

-- a row with a number and a day
abbrev pub dated_row : ℤ → DayValue → Row
dated_row number day = Int number ∷ Int (day_number day) ∷ []

-- ---- the register's day

-- the one row of the register's day, or no row
abbrev pub today_rows : Option DayValue → List Row
today_rows None = []
today_rows (Some day) = dated_row (pos 1) day ∷ []

-- ---- last days

-- a day under the number of an entry
abbrev pub filed_day_row : WithKey ℕ DayValue → Row
filed_day_row filed = dated_row (pos filed.key) filed.item

-- the first of these days, if there is one
abbrev pub first_day : List (WithKey ℕ DayValue) → Option DayValue
first_day [] = None
first_day (filed ∷ more) = Some filed.item

-- a last day under the number of its entry, if there is one
abbrev pub days_at : ℕ → Option DayValue → List (WithKey ℕ DayValue)
days_at number None = []
days_at number (Some day) = (record { key = number; item = day }) ∷ []

abbrev pub last_days : HeldEntry → List (WithKey ℕ DayValue)
last_days held = days_at held.number (last_day_of held.entry.kind)

-- the row of an entry's last day, if it has one
abbrev pub last_rows : HeldEntry → List Row
last_rows held = map filed_day_row (last_days held)

-- ---- entries without their last days

-- an entry has no last day
abbrev pub IsPlain : HeldEntry → Type 0
IsPlain held = last_day_of held.entry.kind ≡ None

-- a kind, an entry and facts without last days; the facts have no register's day either
abbrev pub plain_kind : Kind → Kind
plain_kind (kind.Full v audit) = kind.Full v audit
plain_kind (kind.Delta d audit) = kind.Delta d audit
plain_kind (kind.Violation r audit) = kind.Violation r audit
plain_kind (kind.Wildcard window grant) = kind.Wildcard window grant
plain_kind (kind.Trusted window) = kind.Trusted window
plain_kind (kind.Exemption v suggest last) = kind.Exemption v suggest None

abbrev pub plain_entry : HeldEntry → HeldEntry
plain_entry held = record held { entry = record held.entry { kind = plain_kind held.entry.kind } }

abbrev pub plain_facts : Facts → Facts
plain_facts facts = record facts { entries = map plain_entry facts.entries; today = None }

-- a kind with this last day, if it is an exemption
abbrev pub kind_with_last_day : DayValue → Kind → Kind
kind_with_last_day day (kind.Full v audit) = kind.Full v audit
kind_with_last_day day (kind.Delta d audit) = kind.Delta d audit
kind_with_last_day day (kind.Violation r audit) = kind.Violation r audit
kind_with_last_day day (kind.Wildcard window grant) = kind.Wildcard window grant
kind_with_last_day day (kind.Trusted window) = kind.Trusted window
kind_with_last_day day (kind.Exemption v suggest last) = kind.Exemption v suggest (Some day)

-- a kind, and an entry, with the first of these days as its last day, if there is one
abbrev pub kind_with_first_day : List DayValue → Kind → Kind
kind_with_first_day [] kind = kind
kind_with_first_day (day ∷ more) kind = kind_with_last_day day kind

abbrev pub entry_with_first_day : List DayValue → HeldEntry → HeldEntry
entry_with_first_day days held =
    record held { entry = record held.entry { kind = kind_with_first_day days held.entry.kind } }

-- the entry of a group, with the first of its days as its last day
abbrev pub entry_of_group : Gathered HeldEntry DayValue → HeldEntry
entry_of_group group = entry_with_first_day group.items group.head
