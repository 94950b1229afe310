-- The properties of each state that the machine reaches (ours), one record for each thing that is held.
--
-- A state is sound (IsSound) if all of this holds:
-- - the criteria are a table (IsTable). Each criterion that an own entry names or a peer's map leads to is in it
--   (AreKnown, HasKnownCriteria, HasKnownTargets);
-- - for each source, one's own or a peer, each entry is of that source, and no two are equal. Their numbers increase
--   along the list, and each is below the next number (AreEntries);
-- - no number occurs in two sources (AreApart), and at most 100,000 entries are held of all sources;
-- - the peers are in the order of their names, each once, and at most 64 (ArePeers). The criteria and entries held of
--   each are those of some content that a reader can give (IsSoundPeer, IsOfContent);
-- - the packages with publisher records are in the order of their names, each once and with some. The records of each
--   are in order, each once, and there are at most 100,000 in all (ArePublishers);
-- - the next number is at most 2^63 - 1, the step at most 2^63 - 1, and the moves limit 1 to 1,000,000;
-- - policies are in the order of their keys, none twice, at most 10,000, and name only criteria of the table
--   (ArePolicies);
-- - projects are in the order of their names, none twice, at most 64 (AreProjects);
-- - the desk is sound (IsSoundDesk; see Review desk). Reviews that are not closed name only criteria of the table
--   (AreKnownTo). The entry of each finished one has a number below the next one (HaveEntriesGiven), though it may have
--   been dropped since (IsSoundAtDesk);
-- - the recorded moves are at most as many as the limit, and none is of a step after the state's. Each is of an
--   earlier step than those after it, or of the same step and a lesser pair (AreInOrder, ComesBefore);
-- - the equation of Counts holds for each class (IsBalanced).
use Rattle.std.specs.Prelude.{◌≡◌, ◌≢◌, ◌⊎◌, ℕ, ◌+◌, ◌<◌, ◌≤◌, true, List, ◌∷◌, length, map}
use Rattle.std.specs.List.{All, AllPairs, list_any}
use Rattle.std.specs.Ordering.{nat_cmp}
use Rattle.std.specs.Cmp.Lexicographic.{slice_cmp}
use Rattle.std.specs.declared.cmp.Ordering.TheVariants.{Less}
use Rattle.vet_base.specs.Words.{Name}
use Rattle.vet_base.specs.declared.limits.TheConstants.{MOST_ENTRIES, MOST_MOVES, MOST_PEERS, MOST_POLICIES}
use Rattle.vet_base.specs.declared.limits.TheConstants.{MOST_PROJECTS, MOST_PUBLISHERS, LAST_STEP, LAST_NUMBER}
use Rattle.vet_base.specs.Criteria.{Criteria, IsTable}
use Rattle.vet_demand.specs.declared.policies.KeyedPolicy.{KeyedPolicy}
use Rattle.vet_demand.specs.declared.project.NamedProject.{NamedProject}
use Rattle.vet_demand.specs.DemandOf.{PoliciesAreKnown}
use Rattle.vet_demand.specs.NamedProject.{project_name}
use Rattle.vet_demand.specs.Pair.{pair_cmp}
use Rattle.vet_demand.specs.Policies.{IsInKeyOrder}
use Rattle.vet_base.specs.Defined.{defined}
use Rattle.vet_base.specs.Items.{SameItems}
use Rattle.vet_base.specs.Keyed.{IsByKey}
use Rattle.vet_entries.specs.declared.entry.Source.{Source}
use Rattle.vet_entries.specs.declared.entry.Source.TheVariants.{Own, Peer}
use Rattle.vet_entries.specs.declared.facts.HeldEntry.{HeldEntry}
use Rattle.vet_entries.specs.declared.held_peer.HeldPeer.{HeldPeer}
use Rattle.vet_entries.specs.Facts.{Facts, entries_total}
use Rattle.vet_entries.specs.HeldPeer.{as_peers, peer_name}
use Rattle.vet_entries.specs.Holding.{HoldingValue}
use Rattle.vet_entries.specs.Numbered.{AreByNumber, has_number}
use Rattle.vet_entries.specs.PeerContent.{IsPeerContent, PeerContentValue}
use Rattle.vet_entries.specs.Step.{AreKnown}
use Rattle.vet_entries.specs.declared.publisher_records.PackagePublishers.{PackagePublishers}
use Rattle.vet_entries.specs.PublisherRecords.{IsByName, records_total}
use Rattle.vet_entries.specs.Publishers as Publishers
use Rattle.vet_desk.specs.Desk.{DeskState}
use Rattle.vet_desk.specs.SoundDesk.{AreKnownTo, HaveEntriesGiven, IsSoundDesk}
use Rattle.vet_graph.specs.declared.class.Class.{Class}
use Rattle.vet_graph.specs.Moves.{arrivals_of, departures_of}
use Rattle.vet_graph.specs.Standing.{count_in, count_of}
use Rattle.vet_register.specs.declared.moves.RecordedMove.{RecordedMove}
use Rattle.vet_register.specs.Held.{HeldValue}
use Rattle.vet_register.specs.State.{State, changes_of, standing}

-- a move was recorded before another: in an earlier step, or in the same step and of a lesser pair
abbrev pub ComesBefore : RecordedMove → RecordedMove → Type 0
ComesBefore m n = (m.step < n.step) ⊎ ((m.step ≡ n.step) × (pair_cmp m.change.pair n.change.pair ≡ Less))

-- for each class, the first count plus the arrivals is the present count plus the departures
abbrev pub IsBalanced : State → Type 0
IsBalanced s = (class : Class) → count_in class s.first + arrivals_of class (changes_of s.moves)
    ≡ count_of class (standing s) + departures_of class (changes_of s.moves)

-- an entry is of a source: one's own, or a peer's
abbrev pub IsFrom : Source → HeldEntry → Type 0
IsFrom source h = h.entry.source ≡ source

-- two entries are not the same
abbrev pub Differ : HeldEntry → HeldEntry → Type 0
Differ g h = g.entry ≢ h.entry

-- an entry's number is below the next one
abbrev pub IsGiven : ℕ → HeldEntry → Type 0
IsGiven next h = h.number < next

-- a move was recorded by this step
abbrev pub IsBy : ℕ → RecordedMove → Type 0
IsBy step m = m.step ≤ step

-- each entry is of the source, and no two are the same; their numbers increase, and are below the next one
pub record AreEntries (source : Source) (entries : List HeldEntry) (next : ℕ) : Type 0 where
  pub from : All (IsFrom source) entries
  pub different : AllPairs Differ entries
  pub numbers_rise : AreByNumber entries
  pub numbers_given : All (IsGiven next) entries

-- the holding of a peer is that of some content that a reader can give: its criteria, and its entries as the peer's
pub record IsOfContent (name : Name) (content : PeerContentValue) (held : HoldingValue) : Type 0 where
  pub readable : IsPeerContent content.criteria content.entries
  pub criteria : held.table ≡ defined content.criteria
  pub entries : SameItems (as_peers name content.entries) (map (λ (h : HeldEntry). h.entry) held.entries)

-- a peer's entries are sound, and what is held of it is what a reader can give
pub record IsSoundPeer (next : ℕ) (peer : HeldPeer) : Type 0 where
  pub entries : AreEntries (Peer peer.settings.name) peer.content.entries next
  pub content : (content : PeerContentValue) × IsOfContent peer.settings.name content peer.content

-- no number occurs in both
abbrev pub ShareNone : List HeldEntry → List HeldEntry → Type 0
ShareNone xs ys = (n : ℕ) → list_any (has_number n) xs ≡ true → list_any (has_number n) ys ≡ true → ⊥

-- no number occurs in two sources
abbrev pub AreApart : Facts → Type 0
AreApart facts = AllPairs ShareNone (facts.entries ∷ map (λ (p : HeldPeer). p.content.entries) facts.peers)

-- peers are in the order of their names, no name twice; each is sound; and they are within the limit
pub record ArePeers (peers : List HeldPeer) (next : ℕ) : Type 0 where
  pub by_name : IsByKey (slice_cmp nat_cmp) peer_name peers
  pub sound : All (IsSoundPeer next) peers
  pub few : length peers ≤ MOST_PEERS

-- publisher records are in order, those of each package each once, and within the limit
pub record ArePublishers (publishers : List PackagePublishers) : Type 0 where
  pub by_name : IsByName publishers
  pub in_order : All (λ held. Publishers.IsInOrder held.publishers) publishers
  pub few : records_total publishers ≤ MOST_PUBLISHERS

-- the criteria are a table, and own entries and targets of maps name no others; own entries, peers and publisher
-- records are sound; no number occurs in two sources, and all entries are within the limit
pub record AreSound (facts : Facts) (next : ℕ) : Type 0 where
  pub criteria : IsTable facts.criteria
  pub known : AreKnown facts
  pub entries : AreEntries Own facts.entries next
  pub peers : ArePeers facts.peers next
  pub apart : AreApart facts
  pub few : entries_total facts ≤ MOST_ENTRIES
  pub publishers : ArePublishers facts.publishers

-- policies are in the order of their keys, no key twice, name only criteria of the table, and are within the limit
pub record ArePolicies (criteria : Criteria) (policies : List KeyedPolicy) : Type 0 where
  pub by_key : IsInKeyOrder policies
  pub known : PoliciesAreKnown criteria policies
  pub few : length policies ≤ MOST_POLICIES

-- projects are in the order of their names, no name twice, and are within the limit
pub record AreProjects (projects : List NamedProject) : Type 0 where
  pub by_name : IsByKey (slice_cmp nat_cmp) project_name projects
  pub few : length projects ≤ MOST_PROJECTS

-- everything held is sound
pub record IsSoundHeld (held : HeldValue) (next : ℕ) : Type 0 where
  pub facts : AreSound held.facts next
  pub policies : ArePolicies held.facts.criteria held.policies
  pub projects : AreProjects held.projects

-- the desk is sound; reviews that aren't closed name only criteria of the table, and the number of a finished one's
-- entry is below the next one
pub record IsSoundAtDesk (criteria : Criteria) (d : DeskState) (next : ℕ) : Type 0 where
  pub desk : IsSoundDesk d
  pub known : AreKnownTo criteria d.reviews
  pub entries_given : HaveEntriesGiven next d.reviews

-- moves are in the order in which they were recorded, none of a later step than the last, and within the limit
pub record AreInOrder (moves : List RecordedMove) (step limit : ℕ) : Type 0 where
  pub in_order : AllPairs ComesBefore moves
  pub steps : All (IsBy step) moves
  pub few : length moves ≤ limit

-- everything held, the desk and the moves are sound, numbers are within the limits, and the counts are balanced
pub record IsSound (s : State) : Type 0 where
  pub held : IsSoundHeld s.held s.next_entry
  pub desk : IsSoundAtDesk s.held.facts.criteria s.desk s.next_entry
  pub next_number : s.next_entry ≤ LAST_NUMBER + 1
  pub last_step : s.step ≤ LAST_STEP
  pub limit : (0 < s.moves_limit) × (s.moves_limit ≤ MOST_MOVES)
  pub moves : AreInOrder s.moves s.step s.moves_limit
  pub balance : IsBalanced s
