-- The order of publisher records (ours).
--
-- A publisher record (Publisher) has a version, user, day, and perhaps login and name; its package is known from the
-- list that holds it. Records are ordered by version, day, user, login and name, and an absent text comes before any
-- other. A record ties only with itself (publisher_cmp, publisher_cmp-IsAntisymmetric).
use Rattle.std.specs.Prelude.{Bool, Option}
use Rattle.std.specs.Option.{option_cmp}
use Rattle.std.specs.Ordering.{nat_cmp, on, then_cmp, eq_by_cmp}
use Rattle.std.specs.Cmp.Lexicographic.{slice_cmp}
use Rattle.std.specs.declared.cmp.Ordering.{Ordering}
use Rattle.vet_base.specs.Day.{DayValue, day_cmp}
use Rattle.vet_base.specs.VersionOrder.{version_cmp}
use Rattle.vet_base.specs.Words.{Text}
use Rattle.vet_entries.specs.declared.publisher.Publisher.{Publisher}

-- by year, then by month, then by day of the month
abbrev pub parts_cmp : DayValue → DayValue → Ordering
parts_cmp = then_cmp (on (λ d. d.year) nat_cmp) (then_cmp (on (λ d. d.month) nat_cmp) (on (λ d. d.day) nat_cmp))

-- by number; the parts distinguish only days that the calendar does not have, since each number names one of its days
abbrev pub calendar_cmp : DayValue → DayValue → Ordering
calendar_cmp = then_cmp day_cmp parts_cmp

-- by bytes, with an absent text first
abbrev pub text_cmp : Option Text → Option Text → Ordering
text_cmp = option_cmp (slice_cmp nat_cmp)

-- by version, then by day, user, login and name
abbrev pub publisher_cmp : Publisher → Publisher → Ordering
publisher_cmp = then_cmp (on (λ p. p.version) version_cmp) (then_cmp (on (λ p. p.day) calendar_cmp)
    (then_cmp (on (λ p. p.user) nat_cmp) (then_cmp (on (λ p. p.login) text_cmp) (on (λ p. p.name) text_cmp))))

-- whether two records tie
abbrev pub publisher_eq : Publisher → Publisher → Bool
publisher_eq = eq_by_cmp publisher_cmp
