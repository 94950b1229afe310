-- The criteria of one's own table that the words of each source stand for, found once for many entries (ours).
--
-- Local criteria are found once for many entries (LocalCriteria, AreLocal): those of one's own words immediately, and
-- those of a peer's when they are first asked for, so that a slot is empty until then (HoldsWords).
use Rattle.std.specs.Prelude.{ℕ, ◌≡◌, ◌<◌, List, [], ◌∷◌, Option, Some, IfSome, if◌then◌else◌, length, slice_index_or}
use Rattle.std.specs.FinMap as map
use Rattle.std.specs.FinSet as set
use Rattle.vet_base.specs.Closures.{AreClosures}
use Rattle.vet_base.specs.Criteria.{Criteria, closure_of, implied_by, place_of, placed}
use Rattle.vet_base.specs.CriteriaSet.{Places}
use Rattle.vet_base.specs.Names.{NameSet, members}
use Rattle.vet_base.specs.Words.{Name}
use Rattle.vet_entries.specs.declared.held_peer.HeldPeer.{HeldPeer}
use Rattle.vet_entries.specs.declared.local_criteria.LocalCriteria.{LocalCriteria}
use Rattle.vet_entries.specs.declared.local_criteria.PeerWords.{PeerWords}
use Rattle.vet_entries.specs.Facts.{Facts}
use Rattle.vet_entries.specs.CriteriaMap.{NamesByName}
use Rattle.vet_entries.specs.Mapped.{mapped, mapped_name}

-- the criteria that a name stands for, or none if a table has it
abbrev pub mapped_beyond : Criteria → NamesByName → Name → NameSet
mapped_beyond defined m name = if map.contains_key defined name then set.empty else mapped_name m name

abbrev pub all_beyond : Criteria → NamesByName → List Name → NameSet
all_beyond defined m [] = set.empty
all_beyond defined m (name ∷ rest) = set.union (mapped_beyond defined m name) (all_beyond defined m rest)

-- the criteria that a criterion of a peer stands for, with the names that it implies and the peer does not define
abbrev pub direct : Criteria → NamesByName → Name → NameSet
direct defined m name = set.union (mapped_name m name) (all_beyond defined m (members (implied_by defined name)))

-- the criteria that a name of a peer stands for with all that it implies there, not yet closed in one's own table
abbrev pub stands_for : Criteria → HeldPeer → Name → Places
stands_for table peer name =
    placed table (mapped peer.settings.map (closure_of peer.content.table (set.insert set.empty name)))

-- at the place of each criterion of a peer are the criteria that it stands for
abbrev pub AreWords : Criteria → HeldPeer → PeerWords → Type 0
AreWords table peer words =
    (name : Name) (p : ℕ) → place_of peer.content.table name ≡ Some p
    → slice_index_or words.stands.value p set.empty ≡ stands_for table peer name

-- the slot of a peer is empty, or has the peer's words in it
abbrev pub HoldsWords : Criteria → HeldPeer → Option PeerWords → Type 0
HoldsWords table peer slot = IfSome slot (AreWords table peer)

-- the closures of one's own table, and a slot for the words of each peer
pub record AreLocal (facts : Facts) (local : LocalCriteria) : Type 0 where
  pub own : AreClosures facts.criteria local.own
  pub many : length local.peers.items ≡ length facts.peers
  pub peers : (i : ℕ) (d : HeldPeer) (e : Option PeerWords) → i < length facts.peers
      → HoldsWords facts.criteria (slice_index_or facts.peers i d) (slice_index_or local.peers.items i e)
