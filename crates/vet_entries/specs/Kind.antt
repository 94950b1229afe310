-- The equality of kinds of entries (ours), for the kinds of The Cargo Vet Book: audit entries and exemptions. An
-- exemption may have a last day (ours), which is part of its kind: with another last day, or with none, it is another
-- entry.
use Rattle.std.specs.Prelude.{◌&&◌, ◌==◌, Bool, true, false, Option, Some, None, is_some}
use Rattle.std.specs.Bool.{beq}
use Rattle.std.specs.FinSet as set
use Rattle.std.specs.Option.{option_eq}
use Rattle.std.specs.Ordering.{is_lt}
use Rattle.std.specs.Str.{bytes_eq}
use Rattle.vet_base.specs.Day.{DayValue, day_cmp, same_day}
use Rattle.vet_base.specs.Delta.{delta_eq}
use Rattle.vet_base.specs.Names.{same_names}
use Rattle.vet_base.specs.VersionOrder.{version_eq}
use Rattle.vet_entries.specs.declared.kind.Audit.{Audit}
use Rattle.vet_entries.specs.declared.kind.Grant.{Grant}
use Rattle.vet_entries.specs.declared.kind.Kind.{Kind}
use Rattle.vet_entries.specs.declared.kind.Kind.TheVariants.{Full, Delta, Violation, Wildcard, Trusted, Exemption}
use Rattle.vet_entries.specs.declared.kind.Window.{Window}

-- whether the same people reviewed, and say the same of imports
abbrev pub audit_eq : Audit → Audit → Bool
audit_eq a b = same_names a.who b.who && option_eq beq a.importable b.importable

-- nobody is named, and nothing is said of imports
abbrev pub no_audit : Audit
no_audit = record { who = set.empty; importable = None }

-- whether the same people vouch, and say the same of renewal
abbrev pub grant_eq : Grant → Grant → Bool
grant_eq a b = same_names a.who b.who && option_eq beq a.renew b.renew

-- whether two windows are of the same user and days
abbrev pub window_eq : Window → Window → Bool
window_eq a b = (a.user == b.user) && (same_day a.first b.first && same_day a.last b.last)

-- whether two exemptions have the same last day, or both have none
abbrev pub same_last_day : Option DayValue → Option DayValue → Bool
same_last_day = option_eq same_day

-- whether two are the same, and of one kind that is not an audit
abbrev pub grants_same : Kind → Kind → Bool
grants_same (Wildcard v a) (Wildcard w b) = window_eq v w && grant_eq a b
grants_same (Trusted v) (Trusted w) = window_eq v w
grants_same (Exemption v a l) (Exemption w b m) = version_eq v w && (option_eq beq a b && same_last_day l m)
grants_same _ _ = false

-- whether two entries are of the same kind, and say the same in it
abbrev pub kind_eq : Kind → Kind → Bool
kind_eq (Full v a) (Full w b) = version_eq v w && audit_eq a b
kind_eq (Delta c a) (Delta d b) = delta_eq c d && audit_eq a b
kind_eq (Violation q a) (Violation r b) = bytes_eq q r && audit_eq a b
kind_eq a b = grants_same a b

-- ---- exemptions and their last days

-- a kind is an exemption, with a last day or without
abbrev pub is_exemption : Kind → Bool
is_exemption (Exemption version suggest last) = true
is_exemption _ = false

-- the last day of an exemption, if it has one; no other kind has one
abbrev pub last_day_of : Kind → Option DayValue
last_day_of (Exemption version suggest last) = last
last_day_of _ = None

-- a kind has a last day
abbrev pub has_last_day : Kind → Bool
has_last_day kind = is_some (last_day_of kind)

-- a last day is over on a day: the day comes after it. It is not over if either is absent.
abbrev pub is_over : Option DayValue → Option DayValue → Bool
is_over None day = false
is_over (Some last) None = false
is_over (Some last) (Some day) = is_lt (day_cmp last day)

-- a kind has lapsed on a day: it has a last day, which is over
abbrev pub has_lapsed : Kind → Option DayValue → Bool
has_lapsed kind day = is_over (last_day_of kind) day
