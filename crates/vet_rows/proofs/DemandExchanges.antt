-- What edits of policies and projects make of their rows.
use Rattle.std.proofs.Common.{◌≡◌, ℕ, inl, inr, true, List, [], get_or, map, sym, ap, subst, ◌∙◌}
use Rattle.std.proofs.Common.{Bool, Some, arith, refl}
use Rattle.std.specs.List.{AllPairs, flat_map}
use Rattle.std.specs.Ordering.{nat_cmp}
use Rattle.std.specs.Cmp.{tied_itself}
use Rattle.std.specs.Cmp.Lexicographic.{slice_cmp}
use Rattle.std.proofs.lemmas.Cmp.{nat_list_cmp_total}
use Rattle.vet_base.specs.Items.{IsIn}
use Rattle.vet_base.specs.Keyed as keyed
use Rattle.vet_base.specs.Keyed.{Fits, IsByKey, KeyedRoom}
use Rattle.vet_base.specs.Version.{IsVersion, VersionValue, read_version, version_text}
use Rattle.vet_base.specs.declared.keyed.KeyedEdit.{KeyedEdit}
use Rattle.vet_base.proofs.ItemLemmas.{in_map}
use Rattle.vet_base.proofs.KeyedItems.{of_one_key}
use Rattle.vet_base.proofs.Rising.{only_equal}
use Rattle.vet_demand.specs.NamedProject.{project_name}
use Rattle.vet_demand.specs.Policies.{key_of}
use Rattle.vet_demand.specs.PolicyKey.{key_text, policy_key_cmp, read_key}
use Rattle.vet_demand.specs.PolicyKeyLaws.{policy_key_cmp-IsAntisymmetric, policy_key_total}
use Rattle.vet_demand.specs.Project.{AreInNodeOrder, node_cmp}
use Rattle.vet_demand.specs.ProjectLaws.{node_total}
use Rattle.vet_demand.specs.declared.policies.KeyedPolicy.{KeyedPolicy}
use Rattle.vet_demand.specs.declared.policy_key.PolicyKey.{PolicyKey}
use Rattle.vet_demand.specs.declared.project.NamedProject.{NamedProject}
use Rattle.vet_demand.specs.declared.project.Node.{Node}
use Rattle.vet_item_rows.specs.ProjectRows.{edge_row, edge_rows, node_row, node_rows}
use Rattle.vet_item_rows.specs.SettingRows.{policy_row}
use Rattle.vet_rows.specs.KeyTexts.{KeysAreRead, NodesAreRead}
use Rattle.vet_rows.specs.KeyedItems.{added_item, removed_item, rows_if}
use Rattle.vet_rows.specs.DemandRows.{the_policy}
use Rattle.vet_rows.proofs.Exchanges.{IsExchange, gone_of, of_coming, of_items, whole}
use Rattle.vet_rows.proofs.KeyedExchanges.{IsOneForOne, edit_is}
use Rattle.vet_rows.proofs.ListEdits.{flat_in, in_flat}
use Rattle.vet_rows.proofs.RowViews.{only_flat, only_mapped, told_once}
use Rattle.vet_rows.proofs.FitDemand.{edges_fit, nodes_fit, policies_fit}
use Rattle.vet_rows.proofs.SameKeys.{own_key, same_text, same_whole, text_at}
use Rattle.vet_tables.specs.Cells.{Row, same_key}
use Rattle.vet_tables.specs.Forms.{form_of}
use Rattle.vet_tables.specs.declared.table_name.DemandTable.TheVariants.{Edges, Nodes, Policies}
use Rattle.vet_tables.specs.declared.table_name.TableName.TheVariants as table

abbrev same_policy : Row → Row → Bool
same_policy = same_key (form_of (table.Demand Policies))

abbrev same_node : Row → Row → Bool
same_node = same_key (form_of (table.Demand Nodes))

abbrev same_edge : Row → Row → Bool
same_edge = same_key (form_of (table.Demand Edges))

-- versions of one text are one
pub one_version : (v w : VersionValue) → IsVersion v → IsVersion w → version_text v ≡ version_text w → v ≡ w
one_version v w is_v is_w same = (let e = sym is_v ∙ ap read_version same ∙ is_w in cc e)

-- ---- policies

one_key : (a b : PolicyKey) → read_key (key_text a) ≡ Some a → read_key (key_text b) ≡ Some b → key_text a ≡ key_text b
    → a ≡ b
one_key a b read_a read_b same = (let e = sym read_a ∙ ap read_key same ∙ read_b in cc e)

pub policies_keyed : (policies : List KeyedPolicy) → IsByKey policy_key_cmp key_of policies → KeysAreRead policies
    → (r s : Row) → IsIn r (map policy_row policies) → IsIn s (map policy_row policies) → same_policy r s ≡ true
    → r ≡ s
policies_keyed policies up read r s i j e =
    let p = in_map policy_row policies r i in
    let q = in_map policy_row policies s j in
    let texts : key_text p.0.key ≡ key_text q.0.key =
    ap (text_at 0) (sym p.1.1) ∙ same_text (table.Demand Policies) r s e 0 (omega arith) ∙ ap (text_at 0) q.1.1 in
    let keys = one_key p.0.key q.0.key (read p.0 p.1.0) (read q.0 q.1.0) texts in
    p.1.1
    ∙ ap policy_row (of_one_key policy_key_cmp policy_key_total policy_key_cmp-IsAntisymmetric key_of policies up p.0
    q.0 p.1.0 q.1.0 keys)
    ∙ sym q.1.1

pub policies_replaced : (old new : List KeyedPolicy) → IsByKey policy_key_cmp key_of new → KeysAreRead new
    → IsExchange same_policy (map policy_row old) (map policy_row new) (map policy_row old) (map policy_row new)
policies_replaced old new up read =
    whole same_policy (map policy_row old) (map policy_row new)
    (λ r i. own_key (table.Demand Policies) r (policies_fit old r i))
    (policies_keyed new up read)

pub policies_become : (change : KeyedEdit KeyedPolicy) (old : KeyedRoom KeyedPolicy)
    → IsByKey policy_key_cmp key_of old.items → IsByKey policy_key_cmp key_of (keyed.edited change old.items)
    → Fits policy_key_cmp key_of change old → KeysAreRead old.items → KeysAreRead (keyed.edited change old.items)
    → IsExchange same_policy
    (rows_if the_policy (removed_item change old.items)) (rows_if the_policy (added_item change))
    (map policy_row old.items) (map policy_row (keyed.edited change old.items))
policies_become change old up up_new fits read read_new =
    let new = keyed.edited change old.items in
    of_items same_policy key_of the_policy (removed_item change old.items) (added_item change) old.items new []
    (map policy_row old.items) (map policy_row new)
    (λ r i. own_key (table.Demand Policies) r (policies_fit old.items r i))
    (only_mapped policy_row old.items) (only_mapped policy_row new)
    (edit_is policy_key_cmp policy_key_total policy_key_cmp-IsAntisymmetric key_of change old up fits)
    (λ g x r s i j a b e. one_key g.key x.key (read g i) (read x j) (texts g x r s a b e))
    (λ g r s i a none e. none)
    (λ c r s i a j e. policies_keyed new up_new read_new r s ((only_mapped policy_row new).item_in c r i a) j e)
  where
    texts : (g x : KeyedPolicy) (r s : Row) → IsIn r (the_policy g) → IsIn s (the_policy x)
        → same_policy r s ≡ true → key_text g.key ≡ key_text x.key
    texts g x r s (inl a) (inl b) e =
        ap (text_at 0) (sym a) ∙ same_text (table.Demand Policies) r s e 0 (omega arith) ∙ ap (text_at 0) b
    texts g x r s (inl a) (inr none) e = absurd none
    texts g x r s (inr none) b e = absurd none

-- ---- projects

project_edit : (change : KeyedEdit NamedProject) (old : KeyedRoom NamedProject)
    → IsByKey (slice_cmp nat_cmp) project_name old.items → Fits (slice_cmp nat_cmp) project_name change old
    → IsOneForOne project_name (removed_item change old.items) (added_item change) old.items
    (keyed.edited change old.items)
project_edit change old up fits =
    edit_is (slice_cmp nat_cmp) nat_list_cmp_total only_equal project_name change old up fits

of_project : (p : NamedProject) (r : Row) → IsIn r (node_rows p) → text_at 0 r ≡ p.name
of_project p r i = ap (text_at 0) (in_map (node_row p.name) p.project.nodes r i).1.1

edge_of : (p : NamedProject) (r : Row) → IsIn r (edge_rows p) → text_at 0 r ≡ p.name
edge_of p r i = ap (text_at 0) (in_map (edge_row p.name p.project.nodes) p.project.edges r i).1.1

-- nodes of one name and version are one
module _ (nodes : List Node) (up : AreInNodeOrder nodes) where
  abbrev placed : Node → List ℕ × VersionValue
  placed n = (n.«package», n.version)

  differ : AllPairs (λ a b. placed a ≡ placed b → ⊥) nodes
  differ i j d l m same =
      cc (sym (up i j d l m) ∙ ap (λ (k : List ℕ × VersionValue). node_cmp
      (record { «package» = k.0; version = k.1; party = (get_or nodes i d).party }) (get_or nodes j d)) same
      ∙ tied_itself node_total (get_or nodes j d))

  one_node : (m n : Node) → IsIn m nodes → IsIn n nodes → m.«package» ≡ n.«package» → m.version ≡ n.version → m ≡ n
  one_node m n i j names versions = told_once placed nodes differ m n i j (λ k. (names k, versions k))

nodes_of_one : (p : NamedProject) → NodesAreRead p → (r s : Row) → IsIn r (node_rows p) → IsIn s (node_rows p)
    → same_node r s ≡ true → r ≡ s
nodes_of_one p read r s i j e =
    let m = in_map (node_row p.name) p.project.nodes r i in
    let n = in_map (node_row p.name) p.project.nodes s j in
    let names = ap (text_at 1) (sym m.1.1) ∙ same_text (table.Demand Nodes) r s e 1 (omega arith)
    ∙ ap (text_at 1) n.1.1 in
    let texts = ap (text_at 2) (sym m.1.1) ∙ same_text (table.Demand Nodes) r s e 2 (omega arith)
    ∙ ap (text_at 2) n.1.1 in
    let versions = one_version m.0.version n.0.version (read.1 m.0 m.1.0) (read.1 n.0 n.1.0) texts in
    m.1.1 ∙ ap (node_row p.name) (one_node p.project.nodes read.0.nodes_in_order m.0 n.0 m.1.0 n.1.0 names versions)
    ∙ sym n.1.1

pub nodes_become : (change : KeyedEdit NamedProject) (old : KeyedRoom NamedProject)
    → IsByKey (slice_cmp nat_cmp) project_name old.items
    → IsByKey (slice_cmp nat_cmp) project_name (keyed.edited change old.items)
    → Fits (slice_cmp nat_cmp) project_name change old
    → ((p : NamedProject) → added_item change ≡ Some p → NodesAreRead p)
    → IsExchange same_node (rows_if node_rows (removed_item change old.items)) (rows_if node_rows (added_item change))
    (flat_map node_rows old.items) (flat_map node_rows (keyed.edited change old.items))
nodes_become change old up up_new fits read =
    let new = keyed.edited change old.items in
    let is = project_edit change old up fits in
    of_coming same_node project_name node_rows (removed_item change old.items) (added_item change) old.items new []
    (flat_map node_rows old.items) (flat_map node_rows new)
    (λ r i. own_key (table.Demand Nodes) r (nodes_fit old.items r i))
    (only_flat node_rows old.items) (only_flat node_rows new) is
    (λ g x r s i j a b e. sym (of_project g r a) ∙ same_text (table.Demand Nodes) r s e 0 (omega arith)
    ∙ of_project x s b)
    (λ g r s i a none e. none)
    (λ c r s i a j e. (let x = in_flat node_rows new s j in
    let names = sym (of_project c r a) ∙ same_text (table.Demand Nodes) r s e 0 (omega arith)
    ∙ of_project x.0 s x.1.1 in
    let one = of_one_key (slice_cmp nat_cmp) nat_list_cmp_total only_equal project_name new up_new c x.0
    (is.come_in c i) x.1.0 names in
    nodes_of_one c (read c i) r s a (subst (λ p. IsIn s (node_rows p)) (sym one) x.1.1) e))

-- all columns of an edge's row are its key
pub edges_keyed : (projects : List NamedProject) (r s : Row) → IsIn r (flat_map edge_rows projects)
    → IsIn s (flat_map edge_rows projects) → same_edge r s ≡ true → r ≡ s
edges_keyed projects r s i j =
    same_whole (table.Demand Edges) refl r s (edges_fit projects r i) (edges_fit projects s j)

pub edges_become : (change : KeyedEdit NamedProject) (old : KeyedRoom NamedProject)
    → IsByKey (slice_cmp nat_cmp) project_name old.items → Fits (slice_cmp nat_cmp) project_name change old
    → IsExchange same_edge (rows_if edge_rows (removed_item change old.items)) (rows_if edge_rows (added_item change))
    (flat_map edge_rows old.items) (flat_map edge_rows (keyed.edited change old.items))
edges_become change old up fits =
    let new = keyed.edited change old.items in
    of_items same_edge project_name edge_rows (removed_item change old.items) (added_item change) old.items new []
    (flat_map edge_rows old.items) (flat_map edge_rows new)
    (λ r i. own_key (table.Demand Edges) r (edges_fit old.items r i))
    (only_flat edge_rows old.items) (only_flat edge_rows new)
    (project_edit change old up fits)
    (λ g x r s i j a b e. sym (edge_of g r a) ∙ same_text (table.Demand Edges) r s e 0 (omega arith) ∙ edge_of x s b)
    (λ g r s i a none e. none)
    (λ c r s i a j e. edges_keyed new r s (flat_in edge_rows new c r i a) j e)

-- ---- the rows that go are there

pub nodes_there : (change : KeyedEdit NamedProject) (old : KeyedRoom NamedProject)
    → IsByKey (slice_cmp nat_cmp) project_name old.items → Fits (slice_cmp nat_cmp) project_name change old
    → (r : Row) → IsIn r (rows_if node_rows (removed_item change old.items)) → IsIn r (flat_map node_rows old.items)
nodes_there change old up fits r i =
    gone_of node_rows (removed_item change old.items) old.items [] (flat_map node_rows old.items)
    (only_flat node_rows old.items) (project_edit change old up fits).gone_from r i

pub edges_there : (change : KeyedEdit NamedProject) (old : KeyedRoom NamedProject)
    → IsByKey (slice_cmp nat_cmp) project_name old.items → Fits (slice_cmp nat_cmp) project_name change old
    → (r : Row) → IsIn r (rows_if edge_rows (removed_item change old.items)) → IsIn r (flat_map edge_rows old.items)
edges_there change old up fits r i =
    gone_of edge_rows (removed_item change old.items) old.items [] (flat_map edge_rows old.items)
    (only_flat edge_rows old.items) (project_edit change old up fits).gone_from r i

-- no two nodes of projects whose texts are read have one key
pub nodes_keyed : (projects : List NamedProject) → IsByKey (slice_cmp nat_cmp) project_name projects
    → ((p : NamedProject) → IsIn p projects → NodesAreRead p) → (r s : Row) → IsIn r (flat_map node_rows projects)
    → IsIn s (flat_map node_rows projects) → same_node r s ≡ true → r ≡ s
nodes_keyed projects up read r s i j e =
    let p = in_flat node_rows projects r i in
    let q = in_flat node_rows projects s j in
    let names = sym (of_project p.0 r p.1.1) ∙ same_text (table.Demand Nodes) r s e 0 (omega arith)
    ∙ of_project q.0 s q.1.1 in
    let one = of_one_key (slice_cmp nat_cmp) nat_list_cmp_total only_equal project_name projects up p.0 q.0 p.1.0
    q.1.0 names in
    nodes_of_one p.0 (read p.0 p.1.0) r s p.1.1 (subst (λ x. IsIn s (node_rows x)) (sym one) q.1.1) e
