-- Which peers the settings, entries and criteria that were read are of (ours).
use Rattle.std.specs.Prelude.{◌≡◌, ◌≤◌, false, List, length, map}
use Rattle.std.specs.Cmp.Lexicographic.{slice_cmp}
use Rattle.std.specs.List.{All}
use Rattle.std.specs.Ordering.{nat_cmp}
use Rattle.vet_base.specs.Criteria.{Criteria}
use Rattle.vet_base.specs.CriteriaChanges.{is_built_in}
use Rattle.vet_base.specs.Defined.{defined}
use Rattle.vet_base.specs.FurtherCriteria.{further}
use Rattle.vet_base.specs.Items.{IsIn, NamedOnce, SameItems}
use Rattle.vet_base.specs.Keyed.{IsByKey}
use Rattle.vet_base.specs.Words.{Name}
use Rattle.vet_base.specs.declared.criterion.Criterion.{Criterion}
use Rattle.vet_base.specs.declared.limits.TheConstants.{MOST_PEER_CRITERIA}
use Rattle.vet_entries.specs.HeldPeer.{peer_name}
use Rattle.vet_entries.specs.Numbered.{AreByNumber}
use Rattle.vet_entries.specs.declared.facts.HeldEntry.{HeldEntry}
use Rattle.vet_entries.specs.declared.held_peer.HeldPeer.{HeldPeer}
use Rattle.vet_entries.specs.declared.peer_settings.PeerSettings.{PeerSettings}
use Rattle.vet_item_rows.specs.Gathered.{Gathered, items_at}
use Rattle.vet_item_rows.specs.declared.read.criteria.SourcedCriterion.{SourcedCriterion}
use Rattle.vet_item_rows.specs.declared.read.gathered.WithKey.{WithKey}

abbrev pub criterion_in : SourcedCriterion → Criterion
criterion_in c = c.criterion

-- the table of a peer: what some criteria define, none of which is built in, with no name twice, and not too many of
-- them
pub record IsMadeOf (criteria : List Criterion) (table : Criteria) : Type 0 where
  pub once : NamedOnce (λ (c : Criterion). c.name) criteria
  pub free : All (λ c. is_built_in c.name ≡ false) criteria
  pub few : length criteria ≤ MOST_PEER_CRITERIA
  pub made : table ≡ defined criteria

abbrev pub IsPeerTable : Criteria → Type 0
IsPeerTable table = (criteria : List Criterion) × IsMadeOf criteria table

-- the entries of a peer are in the order of their numbers, and its table is that of a peer
pub record IsHeldPeer (p : HeldPeer) : Type 0 where
  pub table : IsPeerTable p.content.table
  pub by_number : AreByNumber p.content.entries

-- settings with entries and criteria are those of a peer
abbrev pub PeerGroup : Type 0
PeerGroup = Gathered (Gathered PeerSettings HeldEntry) SourcedCriterion

pub record IsGroupOf (g : PeerGroup) (p : HeldPeer) : Type 0 where
  pub held : IsHeldPeer p
  pub settings : g.head.head ≡ p.settings
  pub entries : SameItems g.head.items p.content.entries
  pub criteria : SameItems (map criterion_in g.items) (further p.content.table)

-- settings, entries and criteria of some peers, in whatever order
pub record ArePartsOf (settings : List PeerSettings) (entries : List (WithKey Name HeldEntry))
    (criteria : List (WithKey Name SourcedCriterion)) (peers : List HeldPeer) : Type 0 where
  pub by_name : IsByKey (slice_cmp nat_cmp) peer_name peers
  pub held : All IsHeldPeer peers
  pub same_settings : SameItems settings (map (λ (p : HeldPeer). p.settings) peers)
  pub same_entries : (p : HeldPeer) → IsIn p peers
      → SameItems (items_at (slice_cmp nat_cmp) (peer_name p) entries) p.content.entries
  pub same_criteria : (p : HeldPeer) → IsIn p peers
      → SameItems (map criterion_in (items_at (slice_cmp nat_cmp) (peer_name p) criteria)) (further p.content.table)
