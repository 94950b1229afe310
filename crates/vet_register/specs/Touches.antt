-- The packages that a command touches (ours).
--
-- A command touches a package if it may change the package's steps, its condemned versions or its demanded pairs
-- (touched_by). An own entry touches its package, and publisher records touch theirs. A peer touches the packages of
-- its entries, by its content before and after. A policy or a project touches the packages at which the demand before
-- differs from the demand after: those of the pairs that only one of the two has (pairs_between), which a walk along
-- both in order finds. A criterion touches all packages, and so do files. SetDay touches the packages of the own
-- entries that have lapsed on only one of the register's day and the command's (packages_lapsing). Everything else
-- touches none.
--
-- Before the edit of a command is made, either the touched packages are known, or it is known that they depend on the
-- demand after it (Touching, touched_with).
use Rattle.std.specs.Prelude.{Bool, false, not, List, [], ◌∷◌, filter, map, Option, Some, None, ℤ}
use Rattle.std.specs.Bool.{beq}
use Rattle.std.specs.FinSet as set
use Rattle.std.specs.Ordering.{int_cmp, is_lt}
use Rattle.std.specs.declared.cmp.Ordering.{Ordering}
use Rattle.std.specs.declared.cmp.Ordering.TheVariants.{Less, Equal, Greater}
use Rattle.vet_base.specs.Day.{DayValue}
use Rattle.vet_base.specs.Words.{Name}
use Rattle.vet_demand.specs.declared.pair.Pair.{Pair}
use Rattle.vet_demand.specs.Pair.{pair_cmp}
use Rattle.vet_entries.specs.declared.entry.Entry.{Entry}
use Rattle.vet_entries.specs.declared.facts.HeldEntry.{HeldEntry}
use Rattle.vet_entries.specs.Facts.{Facts}
use Rattle.vet_entries.specs.HeldPeer.{holding_or_none, peer_of}
use Rattle.vet_entries.specs.Kind.{has_lapsed}
use Rattle.vet_graph.specs.declared.touched.Touched.{Touched}
use Rattle.vet_graph.specs.declared.touched.Touched.TheVariants as touched
use Rattle.vet_register.specs.declared.touching.Touching.{Touching}
use Rattle.vet_register.specs.declared.touching.Touching.TheVariants as touching

-- the packages of these names, and no others
abbrev pub only_at : List Name → Touched
only_at names = touched.Packages (set.from_list names)

-- the package of an entry, of a held one and of a pair
abbrev pub entry_package : Entry → Name
entry_package entry = entry.«package»

abbrev pub held_package : HeldEntry → Name
held_package held = held.entry.«package»

abbrev pub pair_package : Pair → Name
pair_package pair = pair.«package»

-- the package of an entry that is added, if there is one
abbrev pub package_added : Option Entry → List Name
package_added None = []
package_added (Some entry) = entry_package entry ∷ []

-- the packages of the entries that are held of a peer
abbrev pub packages_of_peer : Facts → Name → List Name
packages_of_peer facts name = map held_package (holding_or_none (peer_of facts.peers name)).entries

-- a held entry has lapsed on only one of two days
abbrev pub lapses_between : Option DayValue → Option DayValue → HeldEntry → Bool
lapses_between before after held =
    not (beq (has_lapsed held.entry.kind before) (has_lapsed held.entry.kind after))

-- the number of a last day is before that of a day, if there are both
abbrev pub is_past : Option ℤ → Option ℤ → Bool
is_past None day = false
is_past (Some last) None = false
is_past (Some last) (Some day) = is_lt (int_cmp last day)

-- the packages of the own entries that have lapsed on only one of the register's day and another day
abbrev pub packages_lapsing : Facts → DayValue → List Name
packages_lapsing facts day = map held_package (filter (lapses_between facts.today (Some day)) facts.entries)

-- ---- the pairs that only one of two demands has

-- those from what begins with p to what begins with q, by how the two compare: only the first demand has p, both have
-- it, or only the second has q
abbrev pub pairs_by : Ordering → Pair → Pair → List Pair → List Pair → List Pair → List Pair
pairs_by Less p q less equal greater = p ∷ less
pairs_by Equal p q less equal greater = equal
pairs_by Greater p q less equal greater = q ∷ greater

-- those from p and what follows it, if `more` gives those from what follows it
abbrev pub pairs_past : Pair → (List Pair → List Pair) → List Pair → List Pair
pairs_past p more [] = p ∷ more []
pairs_past p more (q ∷ after) =
    pairs_by (pair_cmp p q) p q (more (q ∷ after)) (more after) (pairs_past p more after)

-- those of two demands, by a walk along both in order
abbrev pub pairs_between : List Pair → List Pair → List Pair
pairs_between [] after = after
pairs_between (p ∷ before) after = pairs_past p (pairs_between before) after

-- the packages at which two demands differ
abbrev pub packages_between : List Pair → List Pair → List Name
packages_between before after = map pair_package (pairs_between before after)

-- the packages that are touched, given what is known of them before the edit, and the demand before and after it
abbrev pub touched_with : Touching → List Pair → List Pair → Touched
touched_with (touching.Known touched) before after = touched
touched_with touching.ByDemand before after = only_at (packages_between before after)
