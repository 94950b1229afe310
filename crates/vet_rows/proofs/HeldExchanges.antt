-- What an edit of all that is held makes of the rows of each table, and the keys of these rows.
use Rattle.std.proofs.Common.{◌≡◌, Bool, List, [], map, subst, sym, true}
use Rattle.std.specs.Bool.{Decides}
use Rattle.std.specs.List.{flat_map}
use Rattle.std.specs.Ordering.{nat_cmp}
use Rattle.std.specs.Cmp.Lexicographic.{slice_cmp}
use Rattle.vet_base.specs.Items.{IsIn}
use Rattle.vet_base.specs.Keyed.{IsByKey}
use Rattle.vet_demand.specs.NamedProject.{project_name}
use Rattle.vet_demand.specs.Policies.{key_of}
use Rattle.vet_demand.specs.PolicyKey.{policy_key_cmp}
use Rattle.vet_entries.specs.Facts.{Facts}
use Rattle.vet_item_rows.specs.EntryRows.{all_entries, package_rows}
use Rattle.vet_item_rows.specs.ProjectRows.{edge_rows, node_rows}
use Rattle.vet_item_rows.specs.SettingRows.{all_criteria, policy_row}
use Rattle.vet_register.specs.declared.held.HeldEdit.{HeldEdit}
use Rattle.vet_register.specs.declared.held.HeldEdit.TheVariants as edit
use Rattle.vet_register.specs.Held.{Fits, HeldRoom, HeldValue, edited, held_with}
use Rattle.vet_rows.specs.HeldChanges.{held_exchanges, peer_rows}
use Rattle.vet_rows.specs.DemandRows.{rows_of_demand}
use Rattle.vet_rows.specs.FactsRows.{rows_of_facts}
use Rattle.vet_rows.specs.KeyTexts.{AddedProjectsAreRead, KeysAreRead, ProjectsAreRead, ProjectsHeldAreRead}
use Rattle.vet_rows.specs.RowExchanges.{exchange_of, same_row}
use Rattle.vet_rows.specs.declared.row_changes.exchange.Exchange.{Exchange}
use Rattle.vet_rows.proofs.ChangeParts.{facts_leave}
use Rattle.vet_rows.proofs.DemandExchanges.{edges_become, edges_keyed, edges_there, nodes_become, nodes_keyed}
use Rattle.vet_rows.proofs.DemandExchanges.{nodes_there}
use Rattle.vet_rows.proofs.DemandExchanges.{policies_become, policies_keyed, policies_replaced}
use Rattle.vet_rows.proofs.ExchangeParts.{Leads, LeadsByDifference, added_by, of_table, removed_by}
use Rattle.vet_rows.proofs.Exchanges.{IsExchange, differ, stays, whole}
use Rattle.vet_rows.proofs.FactsExchanges.{HaveKeys, entries_become, entries_keyed, entries_there}
use Rattle.vet_rows.proofs.FitFacts.{criteria_fit, entries_fit, peers_fit, publishers_fit}
use Rattle.vet_rows.proofs.SameKeys.{own_key}
use Rattle.std.specs.Cmp.Lexicographic.{pointwise_decides}
use Rattle.vet_tables.specs.CellLaws.{cell_eq-Decides}
use Rattle.vet_tables.specs.Cells.{Row, same_key}
use Rattle.vet_tables.specs.Forms.{form_of}
use Rattle.vet_tables.specs.declared.table_name.DemandTable.{DemandTable}
use Rattle.vet_tables.specs.declared.table_name.DemandTable.TheVariants.{Edges, Nodes, Policies}
use Rattle.vet_tables.specs.declared.table_name.FactsTable.{FactsTable}
use Rattle.vet_tables.specs.declared.table_name.FactsTable.TheVariants.{Criteria, Entries, Peers, Publishers}
use Rattle.vet_tables.specs.declared.table_name.TableName.{TableName}
use Rattle.vet_tables.specs.declared.table_name.TableName.TheVariants as table
use Rattle.vet_rows.proofs.SettingExchanges.{criteria_become, criteria_keyed, peers_become, peers_keyed}
use Rattle.vet_rows.proofs.SettingExchanges.{publishers_become, publishers_keyed, publishers_there}

-- rows of a table of the same key
abbrev same_in : TableName → Row → Row → Bool
same_in table = same_key (form_of table)

pub rows_decide : (a b : Row) → Decides (same_row a b) (a ≡ b)
rows_decide = pointwise_decides cell_eq-Decides

-- what rows of what is held rest on
pub record HaveTexts (held : HeldValue) : Type 0 where
  pub facts : HaveKeys held.facts
  pub policies : IsByKey policy_key_cmp key_of held.policies
  pub read : KeysAreRead held.policies
  pub projects : IsByKey (slice_cmp nat_cmp) project_name held.projects

-- a table of which there is no exchange stays
untouched : (name : TableName) (e : Exchange) (rows : List Row) → e ≡ exchange_of name [] []
    → IsExchange (same_in name) e.removed e.added rows rows
untouched name e rows none =
    subst (λ (x : Exchange). IsExchange (same_in name) x.removed x.added rows rows) (sym none)
    (stays (same_in name) rows)

module _ (old : HeldValue) (room : HeldRoom) (k : HaveTexts old) where
  pub held_criteria : (e : HeldEdit) → Fits e (held_with old room) → HaveTexts (edited e old)
      → Leads (table.Facts Criteria) (held_exchanges e old) (all_criteria old.facts) (all_criteria (edited e old).facts)
  held_criteria (edit.Facts e) fits l = criteria_become old.facts room.facts k.facts e fits l.facts
  held_criteria (edit.Policies e) fits l = stays (same_in (table.Facts Criteria)) (all_criteria old.facts)
  held_criteria (edit.Projects e) fits l = stays (same_in (table.Facts Criteria)) (all_criteria old.facts)
  held_criteria edit.Nothing fits l = stays (same_in (table.Facts Criteria)) (all_criteria old.facts)
  held_criteria (edit.Files files) fits l =
      whole (same_in (table.Facts Criteria)) (all_criteria old.facts) (all_criteria files.facts.content)
      (λ r i. own_key (table.Facts Criteria) r (criteria_fit old.facts r i))
      (criteria_keyed files.facts.content l.facts)

  pub held_entries : (e : HeldEdit) → Fits e (held_with old room) → HaveTexts (edited e old)
      → Leads (table.Facts Entries) (held_exchanges e old) (all_entries old.facts) (all_entries (edited e old).facts)
  held_entries (edit.Facts e) fits l = entries_become old.facts room.facts k.facts e fits l.facts
  held_entries (edit.Policies e) fits l = stays (same_in (table.Facts Entries)) (all_entries old.facts)
  held_entries (edit.Projects e) fits l = stays (same_in (table.Facts Entries)) (all_entries old.facts)
  held_entries edit.Nothing fits l = stays (same_in (table.Facts Entries)) (all_entries old.facts)
  held_entries (edit.Files files) fits l =
      whole (same_in (table.Facts Entries)) (all_entries old.facts) (all_entries files.facts.content)
      (λ r i. own_key (table.Facts Entries) r (entries_fit old.facts r i))
      (entries_keyed files.facts.content l.facts)

  pub held_publishers : (e : HeldEdit) → Fits e (held_with old room)
      → Leads (table.Facts Publishers) (held_exchanges e old) (flat_map package_rows old.facts.publishers)
      (flat_map package_rows (edited e old).facts.publishers)
  held_publishers (edit.Facts e) fits = publishers_become old.facts room.facts k.facts e fits
  held_publishers (edit.Policies e) fits =
      stays (same_in (table.Facts Publishers)) (flat_map package_rows old.facts.publishers)
  held_publishers (edit.Projects e) fits =
      stays (same_in (table.Facts Publishers)) (flat_map package_rows old.facts.publishers)
  held_publishers edit.Nothing fits =
      stays (same_in (table.Facts Publishers)) (flat_map package_rows old.facts.publishers)
  held_publishers (edit.Files files) fits =
      whole (same_in (table.Facts Publishers)) (flat_map package_rows old.facts.publishers)
      (flat_map package_rows files.facts.content.publishers)
      (λ r i. own_key (table.Facts Publishers) r (publishers_fit old.facts.publishers r i))
      (publishers_keyed files.facts.content.publishers)

  pub held_peers : (e : HeldEdit) → Fits e (held_with old room) → HaveTexts (edited e old)
      → Leads (table.Facts Peers) (held_exchanges e old) (peer_rows old.facts.peers)
      (peer_rows (edited e old).facts.peers)
  held_peers (edit.Facts e) fits l = peers_become old.facts room.facts k.facts e fits l.facts
  held_peers (edit.Policies e) fits l = stays (same_in (table.Facts Peers)) (peer_rows old.facts.peers)
  held_peers (edit.Projects e) fits l = stays (same_in (table.Facts Peers)) (peer_rows old.facts.peers)
  held_peers edit.Nothing fits l = stays (same_in (table.Facts Peers)) (peer_rows old.facts.peers)
  held_peers (edit.Files files) fits l =
      whole (same_in (table.Facts Peers)) (peer_rows old.facts.peers) (peer_rows files.facts.content.peers)
      (λ r i. own_key (table.Facts Peers) r (peers_fit old.facts.peers r i))
      (peers_keyed files.facts.content l.facts)

  pub held_policies : (e : HeldEdit) → Fits e (held_with old room) → HaveTexts (edited e old)
      → Leads (table.Demand Policies) (held_exchanges e old) (map policy_row old.policies)
      (map policy_row (edited e old).policies)
  held_policies (edit.Facts e) fits l =
      untouched (table.Demand Policies) (of_table (held_exchanges (edit.Facts e) old) (table.Demand Policies))
      (map policy_row old.policies)
      (facts_leave e old.facts).0
  held_policies (edit.Policies e) fits l =
      policies_become e (record { items = old.policies; room = room.policies }) k.policies l.policies fits k.read l.read
  held_policies (edit.Projects e) fits l = stays (same_in (table.Demand Policies)) (map policy_row old.policies)
  held_policies edit.Nothing fits l = stays (same_in (table.Demand Policies)) (map policy_row old.policies)
  held_policies (edit.Files files) fits l = policies_replaced old.policies files.policies.items l.policies l.read

  pub held_nodes : (e : HeldEdit) → Fits e (held_with old room) → HaveTexts (edited e old) → AddedProjectsAreRead e
      → Leads (table.Demand Nodes) (held_exchanges e old) (flat_map node_rows old.projects)
      (flat_map node_rows (edited e old).projects)
  held_nodes (edit.Facts e) fits l read =
      untouched (table.Demand Nodes) (of_table (held_exchanges (edit.Facts e) old) (table.Demand Nodes))
      (flat_map node_rows old.projects)
      (facts_leave e old.facts).1.0
  held_nodes (edit.Policies e) fits l read = stays (same_in (table.Demand Nodes)) (flat_map node_rows old.projects)
  held_nodes (edit.Projects e) fits l read =
      nodes_become e (record { items = old.projects; room = room.projects }) k.projects l.projects fits read
  held_nodes edit.Nothing fits l read = stays (same_in (table.Demand Nodes)) (flat_map node_rows old.projects)
  held_nodes (edit.Files files) fits l read = stays (same_in (table.Demand Nodes)) (flat_map node_rows old.projects)

  pub held_edges : (e : HeldEdit) → Fits e (held_with old room)
      → Leads (table.Demand Edges) (held_exchanges e old) (flat_map edge_rows old.projects)
      (flat_map edge_rows (edited e old).projects)
  held_edges (edit.Facts e) fits =
      untouched (table.Demand Edges) (of_table (held_exchanges (edit.Facts e) old) (table.Demand Edges))
      (flat_map edge_rows old.projects)
      (facts_leave e old.facts).1.1
  held_edges (edit.Policies e) fits = stays (same_in (table.Demand Edges)) (flat_map edge_rows old.projects)
  held_edges (edit.Projects e) fits =
      edges_become e (record { items = old.projects; room = room.projects }) k.projects fits
  held_edges edit.Nothing fits = stays (same_in (table.Demand Edges)) (flat_map edge_rows old.projects)
  held_edges (edit.Files files) fits = stays (same_in (table.Demand Edges)) (flat_map edge_rows old.projects)

-- ---- only the rows that differ go and come

module _ (old : HeldValue) (room : HeldRoom) (k : HaveTexts old) where
  entries_there_held : (e : HeldEdit) → Fits e (held_with old room) → (r : Row)
      → IsIn r (removed_by (held_exchanges e old) (table.Facts Entries)) → IsIn r (all_entries old.facts)
  entries_there_held (edit.Facts e) fits r i = entries_there old.facts room.facts k.facts e fits r i
  entries_there_held (edit.Policies e) fits r i = absurd i
  entries_there_held (edit.Projects e) fits r i = absurd i
  entries_there_held edit.Nothing fits r i = absurd i
  entries_there_held (edit.Files files) fits r i = i

  publishers_there_held : (e : HeldEdit) → Fits e (held_with old room) → (r : Row)
      → IsIn r (removed_by (held_exchanges e old) (table.Facts Publishers))
      → IsIn r (flat_map package_rows old.facts.publishers)
  publishers_there_held (edit.Facts e) fits r i = publishers_there old.facts room.facts k.facts e fits r i
  publishers_there_held (edit.Policies e) fits r i = absurd i
  publishers_there_held (edit.Projects e) fits r i = absurd i
  publishers_there_held edit.Nothing fits r i = absurd i
  publishers_there_held (edit.Files files) fits r i = i

  edges_there_held : (e : HeldEdit) → Fits e (held_with old room) → (r : Row)
      → IsIn r (removed_by (held_exchanges e old) (table.Demand Edges)) → IsIn r (flat_map edge_rows old.projects)
  edges_there_held (edit.Facts e) fits r i =
      absurd (subst (λ (x : Exchange). IsIn r x.removed) (facts_leave e old.facts).1.1 i)
  edges_there_held (edit.Policies e) fits r i = absurd i
  edges_there_held (edit.Projects e) fits r i =
      edges_there e (record { items = old.projects; room = room.projects }) k.projects fits r i
  edges_there_held edit.Nothing fits r i = absurd i
  edges_there_held (edit.Files files) fits r i = absurd i

  pub entries_differ : (e : HeldEdit) → Fits e (held_with old room) → HaveTexts (edited e old)
      → LeadsByDifference (table.Facts Entries) (of_table (held_exchanges e old) (table.Facts Entries))
      (all_entries old.facts)
      (all_entries (edited e old).facts)
  entries_differ e fits l =
      differ (same_in (table.Facts Entries)) same_row rows_decide
      (removed_by (held_exchanges e old) (table.Facts Entries))
      (added_by (held_exchanges e old) (table.Facts Entries)) (all_entries old.facts) (all_entries (edited e old).facts)
      (held_entries old room k e fits l)
      (entries_there_held e fits) (entries_keyed old.facts k.facts)

  pub publishers_differ : (e : HeldEdit) → Fits e (held_with old room)
      → LeadsByDifference (table.Facts Publishers) (of_table (held_exchanges e old) (table.Facts Publishers))
      (flat_map package_rows old.facts.publishers) (flat_map package_rows (edited e old).facts.publishers)
  publishers_differ e fits =
      differ (same_in (table.Facts Publishers)) same_row rows_decide
      (removed_by (held_exchanges e old) (table.Facts Publishers))
      (added_by (held_exchanges e old) (table.Facts Publishers)) (flat_map package_rows old.facts.publishers)
      (flat_map package_rows (edited e old).facts.publishers)
      (held_publishers old room k e fits) (publishers_there_held e fits) (publishers_keyed old.facts.publishers)

  pub nodes_differ : (e : HeldEdit) → Fits e (held_with old room) → HaveTexts (edited e old) → AddedProjectsAreRead e
      → ProjectsHeldAreRead e old.projects
      → LeadsByDifference (table.Demand Nodes) (of_table (held_exchanges e old) (table.Demand Nodes))
      (flat_map node_rows old.projects)
      (flat_map node_rows (edited e old).projects)
  nodes_differ (edit.Facts e) fits l read there =
      subst (λ (x : Exchange). LeadsByDifference (table.Demand Nodes) x (flat_map node_rows old.projects)
      (flat_map node_rows old.projects)) (sym (facts_leave e old.facts).1.0)
      (stays (same_in (table.Demand Nodes)) (flat_map node_rows old.projects))
  nodes_differ (edit.Policies e) fits l read there = held_nodes old room k (edit.Policies e) fits l read
  nodes_differ (edit.Projects e) fits l read there =
      differ (same_in (table.Demand Nodes)) same_row rows_decide
      (removed_by (held_exchanges (edit.Projects e) old) (table.Demand Nodes))
      (added_by (held_exchanges (edit.Projects e) old) (table.Demand Nodes)) (flat_map node_rows old.projects)
      (flat_map node_rows (edited (edit.Projects e) old).projects)
      (held_nodes old room k (edit.Projects e) fits l read)
      (nodes_there e (record { items = old.projects; room = room.projects }) k.projects fits)
      (nodes_keyed old.projects k.projects there)
  nodes_differ edit.Nothing fits l read there = held_nodes old room k edit.Nothing fits l read
  nodes_differ (edit.Files files) fits l read there = held_nodes old room k (edit.Files files) fits l read

  pub edges_differ : (e : HeldEdit) → Fits e (held_with old room)
      → LeadsByDifference (table.Demand Edges) (of_table (held_exchanges e old) (table.Demand Edges))
      (flat_map edge_rows old.projects)
      (flat_map edge_rows (edited e old).projects)
  edges_differ e fits =
      differ (same_in (table.Demand Edges)) same_row rows_decide
      (removed_by (held_exchanges e old) (table.Demand Edges))
      (added_by (held_exchanges e old) (table.Demand Edges)) (flat_map edge_rows old.projects)
      (flat_map edge_rows (edited e old).projects)
      (held_edges old room k e fits) (edges_there_held e fits) (edges_keyed old.projects)

  -- ---- in each table of facts, and in each of policies and projects

  pub facts_become : (e : HeldEdit) → Fits e (held_with old room) → HaveTexts (edited e old) → (t : FactsTable)
      → LeadsByDifference (table.Facts t) (of_table (held_exchanges e old) (table.Facts t))
      (rows_of_facts old.facts t) (rows_of_facts (edited e old).facts t)
  facts_become e fits l Criteria = held_criteria old room k e fits l
  facts_become e fits l Entries = entries_differ e fits l
  facts_become e fits l Publishers = publishers_differ e fits
  facts_become e fits l Peers = held_peers old room k e fits l

  pub demand_become : (e : HeldEdit) → Fits e (held_with old room) → HaveTexts (edited e old)
      → AddedProjectsAreRead e → ProjectsHeldAreRead e old.projects → (t : DemandTable)
      → LeadsByDifference (table.Demand t) (of_table (held_exchanges e old) (table.Demand t)) (rows_of_demand old t)
      (rows_of_demand (edited e old) t)
  demand_become e fits l read there Policies = held_policies old room k e fits l
  demand_become e fits l read there Nodes = nodes_differ e fits l read there
  demand_become e fits l read there Edges = edges_differ e fits

-- ---- rows of one key are the same row

pub facts_keyed : (facts : Facts) → HaveKeys facts → (t : FactsTable) (r s : Row) → IsIn r (rows_of_facts facts t)
    → IsIn s (rows_of_facts facts t) → same_in (table.Facts t) r s ≡ true → r ≡ s
facts_keyed facts k Criteria r s i j e = criteria_keyed facts k r s i j e
facts_keyed facts k Entries r s i j e = entries_keyed facts k r s i j e
facts_keyed facts k Publishers r s i j e = publishers_keyed facts.publishers r s i j e
facts_keyed facts k Peers r s i j e = peers_keyed facts k r s i j e

pub demand_keyed : (held : HeldValue) → HaveTexts held → ProjectsAreRead held.projects → (t : DemandTable)
    (r s : Row) → IsIn r (rows_of_demand held t) → IsIn s (rows_of_demand held t)
    → same_in (table.Demand t) r s ≡ true → r ≡ s
demand_keyed held k read Policies r s i j e = policies_keyed held.policies k.policies k.read r s i j e
demand_keyed held k read Nodes r s i j e = nodes_keyed held.projects k.projects read r s i j e
demand_keyed held k read Edges r s i j e = edges_keyed held.projects r s i j e
