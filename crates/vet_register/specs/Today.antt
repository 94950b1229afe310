-- How a day compares with the register's day (ours). If the register has none, no day is equal to it or before it.
use Rattle.std.specs.Prelude.{Bool, false, Option, Some, None}
use Rattle.std.specs.Ordering.{is_lt}
use Rattle.vet_base.specs.Day.{DayValue, day_cmp, same_day}

-- a day is the register's day
abbrev pub is_today : Option DayValue → DayValue → Bool
is_today None day = false
is_today (Some today) day = same_day today day

-- a day is before the register's day
abbrev pub goes_back : Option DayValue → DayValue → Bool
goes_back None day = false
goes_back (Some today) day = is_lt (day_cmp day today)
