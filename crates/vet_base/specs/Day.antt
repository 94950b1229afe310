-- The texts that are days, and the numbers of days (ours: `YYYY-MM-DD`, of the proleptic Gregorian calendar).
--
-- Days are the same if year, month and day are (same_day).
use Rattle.std.specs.Prelude.{ℕ, ◌+◌, ◌-◌, ◌*◌, ◌/◌, ◌%◌, ◌==◌, ◌&&◌, nat_le, Bool, [], ◌∷◌, ◌++◌, Option, Some, None}
use Rattle.std.specs.Prelude.{length, slice_index, if◌then◌else◌, option_and_then, option_map, ℤ, pos}
use Rattle.std.specs.Char.{is_ascii_digit}
use Rattle.std.specs.Ordering.{on, int_eq, int_cmp}
use Rattle.std.specs.declared.cmp.Ordering.{Ordering}
use Rattle.jiff_core.specs.Calendar.{days_from_civil, days_in_month}
use Rattle.vet_base.specs.declared.limits.TheConstants.{LAST_YEAR}
use Rattle.vet_base.specs.Words.{Text}

-- a year, a month and a day
pub record DayValue : Type 0 where
  pub year : ℕ
  pub month : ℕ
  pub day : ℕ

-- the calendar has it, and it is not past 9999-12-31
abbrev pub is_day : DayValue → Bool
is_day d =
    nat_le d.year LAST_YEAR && nat_le 1 d.month && nat_le d.month 12 && nat_le 1 d.day
    && nat_le d.day (days_in_month (pos d.year) d.month)

-- the number of a day; 1970-01-01 has number 0
abbrev pub day_number : DayValue → ℤ
day_number d = days_from_civil (pos d.year) d.month d.day

-- days are compared by their numbers
abbrev pub day_eq : DayValue → DayValue → Bool
day_eq = on day_number int_eq

abbrev pub day_cmp : DayValue → DayValue → Ordering
day_cmp = on day_number int_cmp

-- two days have the same year, month and day
abbrev pub same_day : DayValue → DayValue → Bool
same_day a b = (a.year == b.year) && ((a.month == b.month) && (a.day == b.day))

-- the number that the two digits at a place write, if they are digits
abbrev pub two_digits : Text → ℕ → Option ℕ
two_digits text i =
    if is_ascii_digit (slice_index text i) && is_ascii_digit (slice_index text (i + 1))
    then Some (10 * (slice_index text i - 48) + (slice_index text (i + 1) - 48)) else None

-- ten bytes, the fifth and the eighth of them `-`
abbrev pub has_dashes : Text → Bool
has_dashes text = (length text == 10) && (slice_index text 4 == 45) && (slice_index text 7 == 45)

-- the number that the four digits at a place write, if they are digits
abbrev pub four_digits : Text → ℕ → Option ℕ
four_digits text i =
    option_and_then (λ high. option_map (λ low. 100 * high + low) (two_digits text (i + 2))) (two_digits text i)

-- the year, the month and the day that `YYYY-MM-DD` writes
abbrev pub written_day : Text → Option DayValue
written_day text =
    if has_dashes text
    then option_and_then (λ y. option_and_then (λ m. option_map (λ d. record { year = y; month = m; day = d })
    (two_digits text 8)) (two_digits text 5)) (four_digits text 0)
    else None

-- the day, if the calendar has it
abbrev pub checked_day : DayValue → Option DayValue
checked_day d = if is_day d then Some d else None

-- the day that a text is read as, if it is one
abbrev pub read_day : Text → Option DayValue
read_day text = option_and_then checked_day (written_day text)

-- the text of two digits, and of four
abbrev pub two_text : ℕ → Text
two_text n = (48 + n / 10) ∷ (48 + n % 10) ∷ []

abbrev pub four_text : ℕ → Text
four_text n = two_text (n / 100) ++ two_text (n % 100)

-- the text of a day
abbrev pub day_text : DayValue → Text
day_text d = four_text d.year ++ (45 ∷ (two_text d.month ++ (45 ∷ two_text d.day)))
