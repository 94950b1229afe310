-- The steps of a package (The Cargo Vet Book, audit entries, wildcard audits, trusted publishers and exemptions).
--
-- The rows of the table of steps are first_step, delta_step, window_steps, kind_steps, entry_steps and steps_of. The
-- entries of a package are one's own, and those of each peer that does not exclude it (SourcedEntry, entries_of). Those
-- of all sources are in the order of their numbers (by_number). A window covers a record of its user and of a day from
-- its first to its last (is_covered). An exemption gives no step once its last day is over on the register's day
-- (is_over); no other kind depends on that day. The definition requires nothing of the facts: a criterion that a table
-- lacks has no place in it.
use Rattle.std.specs.Prelude.{ℕ, ◌≡◌, ◌&&◌, ◌==◌, Bool, true, false, List, Option, Some, None, filter, if◌then◌else◌}
use Rattle.std.specs.Prelude.{map, nat_lt, [], ◌∷◌, ◌++◌}
use Rattle.std.specs.FinSet as set
use Rattle.std.specs.List.{All, flat_map}
use Rattle.std.specs.Ordering.{is_le}
use Rattle.vet_base.specs.CriteriaSet.{Places}
use Rattle.vet_base.specs.Criteria.{Criteria, least_unknown}
use Rattle.vet_base.specs.Day.{DayValue, day_cmp}
use Rattle.vet_base.specs.Words.{Name}
use Rattle.vet_base.specs.declared.delta.Delta.{Delta}
use Rattle.vet_base.specs.Version.{VersionValue}
use Rattle.vet_entries.specs.declared.facts.HeldEntry.{HeldEntry}
use Rattle.vet_entries.specs.declared.held_peer.HeldPeer.{HeldPeer}
use Rattle.vet_entries.specs.declared.kind.Kind.{Kind}
use Rattle.vet_entries.specs.declared.kind.Kind.TheVariants as kind
use Rattle.vet_entries.specs.declared.kind.Kind.TheVariants.{Full, Violation, Wildcard, Trusted, Exemption}
use Rattle.vet_entries.specs.declared.kind.Window.{Window}
use Rattle.vet_entries.specs.declared.publisher.Publisher.{Publisher}
use Rattle.vet_entries.specs.declared.step.Step.{Step}
use Rattle.vet_entries.specs.ByPackage.{is_of}
use Rattle.vet_entries.specs.Facts.{Facts}
use Rattle.vet_entries.specs.Kind.{is_over}
use Rattle.vet_entries.specs.PeerWords.{local_criteria, targets}
use Rattle.vet_entries.specs.PublisherRecords.{records_of}

-- a step from nothing to a version
abbrev pub first_step : Places → Bool → VersionValue → Step
first_step criteria exempt version = record { origin = None; target = version; criteria = criteria; exempt = exempt }

-- a record is covered by a window: it is of the window's user, and of a day from the first to the last, both included
abbrev pub is_covered : Window → Publisher → Bool
is_covered w p = (p.user == w.user) && (is_le (day_cmp w.first p.day) && is_le (day_cmp p.day w.last))

-- the steps of a window: from nothing to the version of each record that it covers, in the order of the records
abbrev pub window_steps : Places → List Publisher → Window → List Step
window_steps criteria records w = map (λ p. first_step criteria false p.version) (filter (is_covered w) records)

-- a step from one version to another
abbrev pub delta_step : Places → Delta → Step
delta_step criteria delta = record { origin = Some delta.from; target = delta.to; criteria = criteria; exempt = false }

-- the steps of a kind on the register's day: a full entry gives one, from nothing to its version, and an exemption the
-- same, exempt, unless its last day is over; a delta gives one between its versions; a wildcard entry and a trusted one
-- give those of their windows; and a violation none
abbrev pub kind_steps : Option DayValue → Places → List Publisher → Kind → List Step
kind_steps today criteria records (Full version audit) = first_step criteria false version ∷ []
kind_steps today criteria records (kind.Delta delta audit) = delta_step criteria delta ∷ []
kind_steps today criteria records (Violation requirement audit) = []
kind_steps today criteria records (Wildcard window grant) = window_steps criteria records window
kind_steps today criteria records (Trusted window) = window_steps criteria records window
kind_steps today criteria records (Exemption version suggest last) =
    if is_over last today then [] else first_step criteria true version ∷ []

-- a held entry and its peer, or none for an own one
pub record SourcedEntry : Type 0 where
  pub peer : Option HeldPeer
  pub held : HeldEntry

-- the entries of a package among some that are held, as those of a peer or as own ones
abbrev pub sourced : Option HeldPeer → Name → List HeldEntry → List SourcedEntry
sourced peer name entries = map (λ h. record { peer = peer; held = h }) (filter (is_of name) entries)

-- the entries of a package that are taken from a peer: none if the package is excluded
abbrev pub taken_from : Name → HeldPeer → List SourcedEntry
taken_from name peer = if set.contains peer.settings.exclude name then [] else sourced (Some peer) name
    peer.content.entries

-- the entries of a package: one's own, then those of each peer
abbrev pub entries_of : Facts → Name → List SourcedEntry
entries_of facts name = sourced None name facts.entries ++ flat_map (taken_from name) facts.peers

-- an item inserted among some that are in the order of their numbers, before others with its number
abbrev pub put_by_number : {X : Type 0} → (X → ℕ) → X → List X → List X
put_by_number number x [] = x ∷ []
put_by_number number x (y ∷ ys) = if nat_lt (number y) (number x) then y ∷ put_by_number number x ys else x ∷ y ∷ ys

-- some items in the order of their numbers
abbrev pub by_number : {X : Type 0} → (X → ℕ) → List X → List X
by_number number [] = []
by_number number (x ∷ xs) = put_by_number number x (by_number number xs)

-- the steps of an entry on the register's day, by its package's publisher records
abbrev pub entry_steps : Option DayValue → Criteria → List Publisher → SourcedEntry → List Step
entry_steps today table records e =
    kind_steps today (local_criteria table e.peer e.held.entry.criteria) records e.held.entry.kind

-- the steps of a package, in the order of the entries' numbers
abbrev pub steps_of : Facts → Name → List Step
steps_of facts name =
    flat_map (entry_steps facts.today facts.criteria (records_of facts.publishers name))
    (by_number (λ (e : SourcedEntry). e.held.number) (entries_of facts name))

-- the table has each criterion that an own entry names
abbrev pub HasKnownCriteria : Criteria → HeldEntry → Type 0
HasKnownCriteria table held = least_unknown table held.entry.criteria ≡ None

-- the table has each criterion to which the map of a peer leads
abbrev pub HasKnownTargets : Criteria → HeldPeer → Type 0
HasKnownTargets table peer = least_unknown table (targets peer.settings.map) ≡ None

-- the table has each criterion that an own entry names or to which the map of a peer leads
pub record AreKnown (facts : Facts) : Type 0 where
  pub own : All (HasKnownCriteria facts.criteria) facts.entries
  pub targets : All (HasKnownTargets facts.criteria) facts.peers
