-- The own criteria that the words of a peer stand for (The Cargo Vet Book, importing audits, `criteria-map`; the exact
-- form is ours).
--
-- Local criteria are local_names, and as places in the table local_criteria. For an own entry they are found by one
-- closure, in one's own table. For a peer's entry they are found by the closure with the peer's definitions, then the
-- map, then the closure in one's own table. A name stands for the criteria that the map lists for it. If the map does
-- not have it, a built-in name stands for itself and any other for nothing (mapped_name, unlisted, mapped). A name that
-- the peer uses and does not define belongs to its closure, and the map applies to it too. All that a map lists are its
-- targets (targets). A name that one's own table lacks adds nothing.
use Rattle.std.specs.Prelude.{Option, Some, None}
use Rattle.vet_base.specs.CriteriaSet.{Places}
use Rattle.vet_base.specs.Criteria.{Criteria, closure_of, placed}
use Rattle.vet_base.specs.Names.{NameSet}
use Rattle.vet_entries.specs.declared.held_peer.HeldPeer.{HeldPeer}
pub use Rattle.vet_entries.specs.Mapped.{mapped, targets}

-- the local criteria of some names: one's own closed; a peer's closed by the peer's table, then mapped, and closed
-- again
abbrev pub local_names : Criteria → Option HeldPeer → NameSet → NameSet
local_names table None names = closure_of table names
local_names table (Some peer) names = closure_of table (mapped peer.settings.map (closure_of peer.content.table names))

-- the same, as places in the table
abbrev pub local_criteria : Criteria → Option HeldPeer → NameSet → Places
local_criteria table whose names = placed table (local_names table whose names)

-- the names in a violation: those in an own one as written, those in a peer's mapped, and neither closed
abbrev pub violated_names : Option HeldPeer → NameSet → NameSet
violated_names None names = names
violated_names (Some peer) names = mapped peer.settings.map names
