-- The order of entries (ours): by source, package, kind, criteria and notes.
--
-- One's own entries come before those of peers, which are ordered by the peers' names. Kinds come in this order: full,
-- delta, violation, wildcard, trusted, exemption (kind_rank). Two of one kind are ordered by what it holds, in the
-- order in which Kind has it. Names and texts are ordered by their bytes, a set of them by its members in order, and
-- versions, days and users by their own orders. An absent value comes first.
--
-- The order is total, and an entry ties only with itself (entry_cmp_total, entry_cmp-Decides).
use Rattle.std.specs.Prelude.{ℕ, Bool, Option}
use Rattle.std.specs.Option.{option_cmp}
use Rattle.std.specs.Ordering.{bool_cmp, nat_cmp, on, ordering_then, then_cmp}
use Rattle.std.specs.Cmp.Lexicographic.{slice_cmp}
use Rattle.std.specs.declared.cmp.Ordering.{Ordering}
use Rattle.std.specs.declared.cmp.Ordering.TheVariants.{Less, Equal, Greater}
use Rattle.vet_base.specs.declared.delta.Delta.{Delta as DeltaValue}
use Rattle.vet_base.specs.Day.{DayValue}
use Rattle.vet_base.specs.Names.{NameSet, members}
use Rattle.vet_base.specs.VersionOrder.{version_cmp}
use Rattle.vet_entries.specs.declared.entry.Entry.{Entry}
use Rattle.vet_entries.specs.declared.entry.Source.{Source}
use Rattle.vet_entries.specs.declared.entry.Source.TheVariants.{Own, Peer}
use Rattle.vet_entries.specs.declared.kind.Audit.{Audit}
use Rattle.vet_entries.specs.declared.kind.Grant.{Grant}
use Rattle.vet_entries.specs.declared.kind.Kind.{Kind}
use Rattle.vet_entries.specs.declared.kind.Kind.TheVariants.{Full, Delta, Violation, Wildcard, Trusted, Exemption}
use Rattle.vet_entries.specs.declared.kind.Window.{Window}
use Rattle.vet_entries.specs.Publisher.{calendar_cmp, text_cmp}

-- a set by its members in order
abbrev pub names_cmp : NameSet → NameSet → Ordering
names_cmp = on members (slice_cmp (slice_cmp nat_cmp))

-- nothing, then no, then yes
abbrev pub flag_cmp : Option Bool → Option Bool → Ordering
flag_cmp = option_cmp bool_cmp

abbrev pub audit_cmp : Audit → Audit → Ordering
audit_cmp = then_cmp (on (λ a. a.who) names_cmp) (on (λ a. a.importable) flag_cmp)

abbrev pub grant_cmp : Grant → Grant → Ordering
grant_cmp = then_cmp (on (λ g. g.who) names_cmp) (on (λ g. g.renew) flag_cmp)

abbrev pub window_cmp : Window → Window → Ordering
window_cmp = then_cmp (on (λ w. w.user) nat_cmp) (then_cmp (on (λ w. w.first) calendar_cmp)
    (on (λ w. w.last) calendar_cmp))

abbrev pub delta_cmp : DeltaValue → DeltaValue → Ordering
delta_cmp = then_cmp (on (λ d. d.from) version_cmp) (on (λ d. d.to) version_cmp)

-- no last day first, then by the days
abbrev pub last_day_cmp : Option DayValue → Option DayValue → Ordering
last_day_cmp = option_cmp calendar_cmp

-- the place of a kind among the kinds
abbrev pub kind_rank : Kind → ℕ
kind_rank (Full v a) = 0
kind_rank (Delta d a) = 1
kind_rank (Violation r a) = 2
kind_rank (Wildcard w g) = 3
kind_rank (Trusted w) = 4
kind_rank (Exemption v s l) = 5

-- by the kind and, if both are of one kind that is not an audit, by what they hold
abbrev pub grants_cmp : Kind → Kind → Ordering
grants_cmp (Wildcard v a) (Wildcard w b) = ordering_then (window_cmp v w) (grant_cmp a b)
grants_cmp (Trusted v) (Trusted w) = window_cmp v w
grants_cmp (Exemption v a l) (Exemption w b m) =
    ordering_then (version_cmp v w) (ordering_then (flag_cmp a b) (last_day_cmp l m))
grants_cmp a b = nat_cmp (kind_rank a) (kind_rank b)

-- by the kind and, if both are of one kind, by what they hold
abbrev pub kind_cmp : Kind → Kind → Ordering
kind_cmp (Full v a) (Full w b) = ordering_then (version_cmp v w) (audit_cmp a b)
kind_cmp (Delta c a) (Delta d b) = ordering_then (delta_cmp c d) (audit_cmp a b)
kind_cmp (Violation q a) (Violation r b) = ordering_then (slice_cmp nat_cmp q r) (audit_cmp a b)
kind_cmp a b = grants_cmp a b

-- one's own before a peer, and peers by name
abbrev pub source_cmp : Source → Source → Ordering
source_cmp Own Own = Equal
source_cmp Own (Peer b) = Less
source_cmp (Peer a) Own = Greater
source_cmp (Peer a) (Peer b) = slice_cmp nat_cmp a b

-- by what two entries say, whatever their sources
abbrev pub said_cmp : Entry → Entry → Ordering
said_cmp = then_cmp (on (λ e. e.«package») (slice_cmp nat_cmp)) (then_cmp (on (λ e. e.kind) kind_cmp)
    (then_cmp (on (λ e. e.criteria) names_cmp) (on (λ e. e.notes) text_cmp)))

-- by the sources of two entries, and then by what they say
abbrev pub entry_cmp : Entry → Entry → Ordering
entry_cmp = then_cmp (on (λ e. e.source) source_cmp) said_cmp
