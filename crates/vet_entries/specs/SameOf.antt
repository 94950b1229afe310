-- Packages that have the same entries and records in two facts, as far as their steps and condemned versions depend on
-- them (ours).
--
-- An entry of a peer counts with the peer's wording: the peer's criteria, and how they are mapped (Wording, worded).
-- A peer that has no entry of a package adds nothing to the package's entries, whatever its wording is. So a package is
-- the same in two facts if its entries are the same in the same wording, its publisher records are the same, and one's
-- own table and the register's day are the same (IsSameOf). It then has the same steps, and the same versions are
-- condemned.
use Rattle.std.specs.Prelude.{◌≡◌, List, [], Option, Some, None, map, option_map}
use Rattle.vet_base.specs.Criteria.{Criteria}
use Rattle.vet_base.specs.Words.{Name}
use Rattle.vet_entries.specs.declared.facts.HeldEntry.{HeldEntry}
use Rattle.vet_entries.specs.declared.held_peer.HeldPeer.{HeldPeer}
use Rattle.vet_entries.specs.CriteriaMap.{NamesByName}
use Rattle.vet_entries.specs.Facts.{Facts}
use Rattle.vet_entries.specs.PublisherRecords.{records_of}
use Rattle.vet_entries.specs.Step.{SourcedEntry, entries_of, taken_from}

-- the wording of a peer: its criteria, and how they are mapped
pub record Wording : Type 0 where
  pub table : Criteria
  pub mapping : NamesByName

abbrev pub wording_of : HeldPeer → Wording
wording_of peer = record { table = peer.content.table; mapping = peer.settings.map }

-- a held entry, and the wording of its peer, or none for an own one
pub record WordedEntry : Type 0 where
  pub wording : Option Wording
  pub held : HeldEntry

abbrev pub worded : SourcedEntry → WordedEntry
worded e = record { wording = option_map wording_of e.peer; held = e.held }

-- the entries of a package, each in its wording
abbrev pub worded_entries : Facts → Name → List WordedEntry
worded_entries facts name = map worded (entries_of facts name)

-- the entries of a package that are taken from a peer, each in its wording, or none if the peer is not held
abbrev pub worded_from : Name → Option HeldPeer → List WordedEntry
worded_from name None = []
worded_from name (Some peer) = map worded (taken_from name peer)

-- a package has the same entries in the same wording and the same publisher records, and one's own table and the
-- register's day are the same
pub record IsSameOf (name : Name) (old new : Facts) : Type 0 where
  pub criteria : old.criteria ≡ new.criteria
  pub entries : worded_entries old name ≡ worded_entries new name
  pub records : records_of old.publishers name ≡ records_of new.publishers name
  pub today : old.today ≡ new.today
