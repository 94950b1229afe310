-- A day's text is read as that day, and a day's number names one day.
use Rattle.std.proofs.Common.{◌≡◌, ℕ, ◌+◌, ◌-◌, ◌*◌, ◌/◌, ◌%◌, ◌^◌, ◌<◌, ◌≤◌, ◌&&◌, true, false, List, [], ◌∷◌}
use Rattle.std.proofs.Common.{slice_index, Some, refl, sym, ap, ◌∙◌, arith, ℤ, pos, neg_ℤ, ◌+ℤ◌, ◌<ℤ◌, ◌≤ℤ◌, inl, inr}
use Rattle.std.proofs.Common.{to_z, of_z, w32, w64, FitsSigned}
use Rattle.std.proofs.lemmas.Bool.{cases_lt, cases_order}
use Rattle.std.proofs.lemmas.Bool.Decides.{nat_tests}
use Rattle.std.proofs.lemmas.Fmt.{decimal_digit, decimal_step}
use Rattle.std.proofs.lemmas.Int.{by_lt_z, to_z-of_z}
use Rattle.std.specs.Char.{is_ascii_digit}
use Rattle.std.specs.Fmt.{char_count, decimal, format_spec, padded_integral}
use Rattle.jiff_core.specs.declared.civil.date.Date.{Date}
use Rattle.jiff_core.specs.Calendar.{day_count, days_in_month, IsBetween, IsCivilDate, IsEpochDay}
use Rattle.jiff_core.specs.Date.{epoch_day}
use Rattle.jiff_core.proofs.CalendarLemmas.{days_from_civil-day_count, day_count-day_of_year, day_count-later_year}
use Rattle.jiff_core.proofs.CalendarLemmas.{day_count-lt_year, day_count_bounds, days_in_month_bounds}
use Rattle.jiff_core.proofs.DateLemmas.{civil, epoch_day_injective, epoch_day_range}
use Rattle.jiff_core.proofs.MarchLemmas.{day_count-early}
use Rattle.jiff_core.proofs.SignedLemmas.{signed_arith}
use Rattle.vet_base.specs.declared.limits.TheConstants.{FIRST_DAY_NUMBER, LAST_DAY_NUMBER}
use Rattle.vet_base.specs.Day.{DayValue, is_day, day_number, two_digits, written_day, read_day, two_text, four_text}
use Rattle.vet_base.specs.Day.{day_text}

-- ---- texts

-- what two digits write
two_digits-at : (text : List ℕ) (i n : ℕ) → slice_index text i ≡ 48 + n / 10 → slice_index text (i + 1) ≡ 48 + n % 10
    → n < 100
    → two_digits text i ≡ Some n
two_digits-at text i n a b h =
    let digits : (is_ascii_digit (48 + n / 10) && is_ascii_digit (48 + n % 10)) ≡ true = grind (arith, nat_tests) in
    let value : 10 * (48 + n / 10 - 48) + (48 + n % 10 - 48) ≡ n = omega arith in
    rw (a, b, digits, value)

-- the text writes the day
written_day-text : (d : DayValue) → d.year < 10000 → d.month < 100 → d.day < 100 → written_day (day_text d) ≡ Some d
written_day-text d hy hm hd =
    let a = two_digits-at (day_text d) 0 (d.year / 100) refl refl (omega arith) in
    let b = two_digits-at (day_text d) 2 (d.year % 100) refl refl (omega arith) in
    let c = two_digits-at (day_text d) 5 d.month refl refl hm in
    let f = two_digits-at (day_text d) 8 d.day refl refl hd in
    let value : 100 * (d.year / 100) + d.year % 100 ≡ d.year = omega arith in
    rw (a, b, c, f, value)

-- no part needs more digits than are written
pub bounds : (d : DayValue) → is_day d ≡ true → (d.year < 10000) × (d.month < 100) × (d.day < 100)
bounds d h =
    let most = days_in_month_bounds (pos d.year) d.month in
    grind (arith, nat_tests)

-- a day's text is read as that day
pub read_day-text : (d : DayValue) → is_day d ≡ true → read_day (day_text d) ≡ Some d
read_day-text d h =
    let (y, m, k) = bounds d h in
    rw (written_day-text d y m k, h) refl

-- ---- what `{:02}` and `{:04}` write

decimal_two : (n : ℕ) → 10 ≤ n → n < 100 → decimal n ≡ two_text n
decimal_two n low high = decimal_step n low (omega arith) ∙ rw (decimal_digit (n / 10) (omega arith)) refl

decimal_three : (n : ℕ) → 100 ≤ n → n < 1000 → decimal n ≡ (48 + n / 100) ∷ two_text (n % 100)
decimal_three n low high =
    let first : n / 10 / 10 ≡ n / 100 = omega arith in
    let second : n / 10 % 10 ≡ n % 100 / 10 = omega arith in
    let third : n % 10 ≡ n % 100 % 10 = omega arith in
    decimal_step n (omega arith) (omega arith)
    ∙ rw (decimal_two (n / 10) (omega arith) (omega arith), first, second, third) refl

decimal_four : (n : ℕ) → 1000 ≤ n → n < 10000 → decimal n ≡ four_text n
decimal_four n low high =
    let first : n / 10 / 100 ≡ n / 100 / 10 = omega arith in
    let second : n / 10 % 100 / 10 ≡ n / 100 % 10 = omega arith in
    let third : n / 10 % 100 % 10 ≡ n % 100 / 10 = omega arith in
    let fourth : n % 10 ≡ n % 100 % 10 = omega arith in
    decimal_step n (omega arith) (omega arith)
    ∙ rw (decimal_three (n / 10) (omega arith) (omega arith), first, second, third, fourth) refl

-- what a number shows in so many places, filled with zeros
abbrev pub in_places : ℕ → ℕ → List ℕ
in_places width n = padded_integral (format_spec 32 0 4 width (2 ^ 64 - 1)) false [] (decimal n)

pub two_places : (n : ℕ) → n < 100 → in_places 2 n ≡ two_text n
unfolding padded_integral char_count
two_places n small = elim (cases_lt n 10) [
  | inl one ↦ let tens : n / 10 ≡ 0 = omega arith in let ones : n % 10 ≡ n = omega arith in
      rw (decimal_digit n one, tens, ones)
  | inr two ↦ rw (decimal_two n two small)
]

four_places-one : (n : ℕ) → n < 10 → in_places 4 n ≡ four_text n
unfolding padded_integral char_count
four_places-one n small =
    let high : n / 100 ≡ 0 = omega arith in
    let low : n % 100 ≡ n = omega arith in
    let tens : n / 10 ≡ 0 = omega arith in
    let ones : n % 10 ≡ n = omega arith in
    rw (decimal_digit n small, high, low, tens, ones)

four_places-two : (n : ℕ) → 10 ≤ n → n < 100 → in_places 4 n ≡ four_text n
unfolding padded_integral char_count
four_places-two n from small =
    let high : n / 100 ≡ 0 = omega arith in
    let low : n % 100 ≡ n = omega arith in
    rw (decimal_two n from small, high, low)

four_places-three : (n : ℕ) → 100 ≤ n → n < 1000 → in_places 4 n ≡ four_text n
unfolding padded_integral char_count
four_places-three n from small =
    let thousands : n / 100 / 10 ≡ 0 = omega arith in
    let hundreds : n / 100 % 10 ≡ n / 100 = omega arith in
    rw (decimal_three n from small, thousands, hundreds)

four_places-four : (n : ℕ) → 1000 ≤ n → n < 10000 → in_places 4 n ≡ four_text n
unfolding padded_integral char_count
four_places-four n from small = rw (decimal_four n from small)

pub four_places : (n : ℕ) → n < 10000 → in_places 4 n ≡ four_text n
four_places n small = elim (cases_lt n 10) [
  | inl below ↦ four_places-one n below
  | inr two ↦ elim (cases_lt n 100) [
    | inl below ↦ four_places-two n two below
    | inr three ↦ elim (cases_lt n 1000) [
      | inl below ↦ four_places-three n three below
      | inr four ↦ four_places-four n four small
    ]
  ]
]

-- ---- numbers

-- each part is in its range
civil_day : (d : DayValue) → is_day d ≡ true → IsCivilDate (pos d.year) d.month d.day
civil_day d h =
    let year : d.year < 10000 = (bounds d h).0 in
    let year_in : IsBetween (neg_ℤ (pos 9999)) (pos 9999) (pos d.year) = omega (arith, signed_arith) in
    let month_in : (1 ≤ d.month) × (d.month ≤ 12) = grind (arith, nat_tests) in
    let day_in : (1 ≤ d.day) × (d.day ≤ days_in_month (pos d.year) d.month) = grind (arith, nat_tests) in
    (year_in, month_in, day_in)

-- the day count of 0000-01-01
day_count-first : day_count (pos 0) 1 1 ≡ 3_652_425
day_count-first = day_count-early (pos 0) 9999 1 1 refl (omega arith) (omega arith) (omega arith)

-- no year from 0 on begins before it
day_count-first-le : (y : ℕ) → day_count (pos 0) 1 1 ≤ day_count (pos y) 1 1
day_count-first-le y = elim (cases_order 0 y) [
  | inl same ↦ rw (← same) (omega arith)
  | inr (inl later) ↦
      omega (arith, day_count-later_year (pos 0) (pos y) (omega (arith, signed_arith)) (omega (arith, signed_arith)))
  | inr (inr none) ↦ absurd (omega arith)
]

-- numbers go from that of 0000-01-01 to that of 9999-12-31
pub day_number_range : (d : DayValue) → is_day d ≡ true → IsBetween FIRST_DAY_NUMBER LAST_DAY_NUMBER (day_number d)
day_number_range d h =
    let (year_in, month_in, day_in) = civil_day d h in
    let from = day_count-first in
    let year = day_count-first-le d.year in
    let in_year = day_count-day_of_year (pos d.year) d.month d.day day_in.0 in
    let range = day_count_bounds (pos d.year) d.month d.day (year_in, month_in, day_in) in
    let count = days_from_civil-day_count (pos d.year) d.month d.day in
    omega (arith, signed_arith)

-- a date that is not before 0000-01-01 is of a year from 0 on
pub year_from_0 : (d : Date) → FIRST_DAY_NUMBER ≤ℤ epoch_day d → pos 0 ≤ℤ d.year
year_from_0 d from =
    by_lt_z d.year (pos 0)
    (λ before. let less = day_count-lt_year d.year d.month d.day (pos 0) 1 1 (civil d) (omega arith) before in
    absurd (omega (arith, signed_arith, day_count-first, days_from_civil-day_count d.year d.month d.day)))
    (λ ge. ge)

-- the date has the day's parts
record IsDateOf (d : DayValue) (e : Date) : Type 0 where
  year : e.year ≡ pos d.year
  month : e.month ≡ d.month
  day : e.day ≡ d.day

-- there is such a date
date_of : (d : DayValue) → is_day d ≡ true → (e : Date) × IsDateOf d e
date_of d h =
    let (year_in, month_in, day_in) = civil_day d h in (
      record {
        year = pos d.year;
        month = d.month;
        day = d.day;
        year_in = year_in;
        month_in = month_in;
        day_in =
            day_in;
      },
      record { year = refl; month = refl; day = refl },
    )

epoch_day-date : (d : DayValue) (e : Date) → IsDateOf d e → epoch_day e ≡ day_number d
epoch_day-date d e is = rw (is.year, is.month, is.day) refl

same_day : (a b : DayValue) → a.year ≡ b.year → a.month ≡ b.month → a.day ≡ b.day → a ≡ b
same_day a b y m d = λ i. record { year = y i; month = m i; day = d i }

-- a number names one day
pub day_number_injective : (a b : DayValue) → is_day a ≡ true → is_day b ≡ true → day_number a ≡ day_number b → a ≡ b
day_number_injective a b is_a is_b e =
    let (d, of_a) = date_of a is_a in
    let (f, of_b) = date_of b is_b in
    let same = epoch_day_injective d f (epoch_day-date a d of_a ∙ e ∙ sym (epoch_day-date b f of_b)) in
    let year : a.year ≡ b.year = cc in
    let month : a.month ≡ b.month = cc in
    let day : a.day ≡ b.day = cc in
    same_day a b year month day

-- numbers whose bits are equal are equal
pub same_bits : (a b : ℤ) → IsBetween FIRST_DAY_NUMBER LAST_DAY_NUMBER a → IsBetween FIRST_DAY_NUMBER LAST_DAY_NUMBER b
    → of_z w32 a ≡ of_z w32 b → a ≡ b
same_bits a b in_a in_b e =
    let fits_a : FitsSigned w32 a = omega (arith, signed_arith) in
    let fits_b : FitsSigned w32 b = omega (arith, signed_arith) in
    sym (to_z-of_z w32 a fits_a) ∙ ap (to_z w32) e ∙ to_z-of_z w32 b fits_b

-- a day's number and a count of days, as the code passes it
pub sum_passed : (z number : ℤ) (days : ℕ) (passed : ℤ) → z ≡ number → passed ≡ pos days → days < 2 ^ 32
    → z +ℤ to_z w64 (of_z w64 passed) ≡ number +ℤ pos days
sum_passed z number days passed same is small =
    let fits : FitsSigned w64 (pos days) = omega (arith, signed_arith) in
    rw (same, is, to_z-of_z w64 (pos days) fits) refl

-- where there is no date that many days later, the number is past the last
pub past_last : (d : DayValue) (n : ℕ) → is_day d ≡ true → (IsEpochDay (day_number d +ℤ pos n) → ⊥)
    → LAST_DAY_NUMBER <ℤ (day_number d +ℤ pos n)
past_last d n is none =
    let range = day_number_range d is in
    by_lt_z LAST_DAY_NUMBER (day_number d +ℤ pos n) (λ lt. lt) (λ le. absurd (none (omega (arith, signed_arith), le)))

-- and where there is one, it is of a year from 0 on
pub later_year : (d : DayValue) (n : ℕ) (later : Date) → is_day d ≡ true → epoch_day later ≡ day_number d +ℤ pos n
    → pos 0 ≤ℤ later.year
later_year d n later is e =
    let range = day_number_range d is in
    year_from_0 later (omega (arith, signed_arith))

-- a date's number is not past the last
pub not_past : (z : ℤ) (later : Date) → epoch_day later ≡ z → LAST_DAY_NUMBER <ℤ z → ⊥
not_past z later e past =
    let range = epoch_day_range later in
    omega (arith, signed_arith)
