-- The criteria that a peer's file can define, and the entries that it can give (ours).
use Rattle.std.specs.Prelude.{◌≡◌, ◌≤◌, false, true, List, length}
use Rattle.std.specs.List.{All}
use Rattle.vet_base.specs.declared.criterion.Criterion.{Criterion}
use Rattle.vet_base.specs.declared.limits.TheConstants.{MOST_PEER_CRITERIA}
use Rattle.vet_base.specs.Criteria.{Criteria}
use Rattle.vet_base.specs.CriteriaChanges.{is_built_in}
use Rattle.vet_base.specs.Defined.{defined}
use Rattle.vet_base.specs.Items.{NamedOnce}
use Rattle.vet_entries.specs.declared.facts.HeldEntry.{HeldEntry}
use Rattle.vet_entries.specs.PeerContent.{is_peer_kind}

-- these criteria define a table: no two have one name, none is built in, and there are at most MOST_PEER_CRITERIA
pub record AreDefinedBy (table : Criteria) (criteria : List Criterion) : Type 0 where
  pub further : All (λ c. is_built_in c.name ≡ false) criteria
  pub named_once : NamedOnce (λ (c : Criterion). c.name) criteria
  pub few : length criteria ≤ MOST_PEER_CRITERIA
  pub defines : table ≡ defined criteria

-- some criteria of a peer's file define a table
abbrev pub AreOfPeer : Criteria → Type 0
AreOfPeer table = (criteria : List Criterion) × AreDefinedBy table criteria

-- an entry is of a kind that a peer's file gives
abbrev pub IsOfPeer : HeldEntry → Type 0
IsOfPeer held = is_peer_kind held.entry.kind ≡ true
