-- The audited nodes of projects with what they need (ours), each once, in the order of nodes.
use Rattle.std.specs.Prelude.{◌≡◌, ◌↔◌, ◌⊎◌, ◌<◌, ◌≤◌, ◌+◌, ◌++◌, ◌∷◌, [], ℕ, List, length, slice_index_or, take}
use Rattle.std.specs.Borrow.{Bor}
use Rattle.std.specs.FinMap as map
use Rattle.std.specs.FinSet as places
use Rattle.std.specs.List.{AllPairs, Contains}
use Rattle.std.specs.declared.cmp.Ordering.{Ordering}
use Rattle.std.specs.declared.cmp.Ordering.TheVariants.{Less, Equal, Greater}
use Rattle.vet_base.specs.Criteria.{Criteria}
use Rattle.vet_base.specs.CriteriaSet.{Places}
use Rattle.vet_base.specs.Words.{Name}
use Rattle.vet_demand.specs.Collected.{IsDemandedBefore, IsPairOf}
use Rattle.vet_demand.specs.DemandOf.{IsDemanded, IsDemandedBy}
use Rattle.vet_demand.specs.Project.{ProjectValue, node_cmp}
use Rattle.vet_demand.specs.declared.audited.AuditedNodes.{AuditedNodes}
use Rattle.vet_demand.specs.declared.pair.Pair.{Pair}
use Rattle.vet_demand.specs.declared.policies.KeyedPolicy.{KeyedPolicy}
use Rattle.vet_demand.specs.declared.project.NamedProject.{NamedProject}
use Rattle.vet_demand.specs.declared.project.Node.{Node}

-- an audited node with its needs
pub record AuditedNode : Type 0 where
  pub node : Node
  pub needs : Places

abbrev pub audited_nodes : List (Bor Node) → List Places → List AuditedNode
audited_nodes [] needs = []
audited_nodes (n ∷ nodes) [] = []
audited_nodes (n ∷ nodes) (s ∷ needs) = (record { node = n.now; needs = s }) ∷ audited_nodes nodes needs

-- the two lists that the code holds, as one
abbrev pub audited_list : AuditedNodes → List AuditedNode
audited_list a = audited_nodes a.nodes.items a.needs.items

abbrev pub AreParallel : AuditedNodes → Type 0
AreParallel a = length a.nodes.items ≡ length a.needs.items

-- the order of audited nodes is that of nodes
abbrev pub audited_cmp : AuditedNode → AuditedNode → Ordering
audited_cmp a b = node_cmp a.node b.node

-- each comes before those after it
abbrev pub AreInAuditedOrder : List AuditedNode → Type 0
AreInAuditedOrder audited = AllPairs (λ a b. audited_cmp a b ≡ Less) audited

-- a pair is of one of these nodes and of one of these names that the node needs
abbrev pub IsAsked : List Name → List AuditedNode → Pair → Type 0
IsAsked names audited q = (a : AuditedNode) × Contains audited a × IsPairOf a.node names a.needs (length names) q

-- these nodes ask for exactly the pairs that projects demand
pub record AreAudited (policies : List KeyedPolicy) (criteria : Criteria) (projects : List NamedProject)
    (audited : List AuditedNode) : Type 0 where
  pub in_order : AreInAuditedOrder audited
  pub same : (q : Pair) → IsAsked (map.keys criteria) audited q ↔ IsDemanded projects policies criteria q

-- they ask for exactly those that one project demands
pub record AreAuditedIn (policies : List KeyedPolicy) (criteria : Criteria) (project : ProjectValue)
    (audited : List AuditedNode) : Type 0 where
  pub in_order : AreInAuditedOrder audited
  pub same : (q : Pair) → IsAsked (map.keys criteria) audited q ↔ IsDemandedBy policies criteria project q

-- they ask for exactly those that the first n nodes of a project demand, and come before all its later nodes
pub record AreAuditedBefore (policies : List KeyedPolicy) (criteria : Criteria) (project : ProjectValue) (n : ℕ)
    (audited : List AuditedNode) : Type 0 where
  pub in_order : AreInAuditedOrder audited
  pub left : (j k : ℕ) (a : AuditedNode) (d : Node) → j < length audited → n ≤ k → k < length project.nodes
      → node_cmp (slice_index_or audited j a).node (slice_index_or project.nodes k d) ≡ Less
  pub same : (q : Pair) → IsAsked (map.keys criteria) audited q ↔ IsDemandedBefore policies criteria project n q

-- ---- two lists in one

-- one list asks for exactly the pairs that two lists ask for
pub record AreMerged (first second all : List AuditedNode) : Type 0 where
  pub in_order : AreInAuditedOrder all
  pub same : (names : List Name) (q : Pair) → IsAsked names all q ↔ (IsAsked names first q ⊎ IsAsked names second q)

-- all of one list come before those of another from place i on
abbrev pub AreBefore : List AuditedNode → List AuditedNode → ℕ → Type 0
AreBefore front others i =
    (j k : ℕ) (a d : AuditedNode) → j < length front → i ≤ k → k < length others
    → audited_cmp (slice_index_or front j a) (slice_index_or others k d) ≡ Less

-- the first i nodes of one list and the first j of another are merged into one
pub record IsMerging (first second : List AuditedNode) (i j : ℕ) (all : List AuditedNode) : Type 0 where
  pub in_order : AreInAuditedOrder all
  pub first_left : AreBefore all first i
  pub second_left : AreBefore all second j
  pub same : (names : List Name) (q : Pair) → IsAsked names all q
      ↔ (IsAsked names (take i first) q ⊎ IsAsked names (take j second) q)

-- how the nodes at two places compare; if one list is at its end, the node of the other comes first
abbrev pub AreHeads : List AuditedNode → List AuditedNode → ℕ → ℕ → Ordering → Type 0
AreHeads first second i j Less =
    (i < length first) × ((a d : AuditedNode) → j < length second
    → audited_cmp (slice_index_or first i a) (slice_index_or second j d) ≡ Less)
AreHeads first second i j Equal =
    (i < length first) × ((j < length second)
    × ((a d : AuditedNode) → audited_cmp (slice_index_or first i a) (slice_index_or second j d) ≡ Equal))
AreHeads first second i j Greater =
    (j < length second) × ((a d : AuditedNode) → i < length first
    → audited_cmp (slice_index_or first i a) (slice_index_or second j d) ≡ Greater)

-- the next node if they compare so: the lesser one, or one with the needs of both
abbrev pub IsHead : List AuditedNode → List AuditedNode → ℕ → ℕ → AuditedNode → Ordering → Type 0
IsHead first second i j x Less = x ≡ slice_index_or first i x
IsHead first second i j x Equal =
    (x.node ≡ (slice_index_or first i x).node)
    × (x.needs ≡ places.union (slice_index_or first i x).needs (slice_index_or second j x).needs)
IsHead first second i j x Greater = x ≡ slice_index_or second j x

-- the places after that
abbrev pub IsAfter : ℕ → ℕ → ℕ → ℕ → Ordering → Type 0
IsAfter i j m n Less = (m ≡ i + 1) × (n ≡ j)
IsAfter i j m n Equal = (m ≡ i + 1) × (n ≡ j + 1)
IsAfter i j m n Greater = (m ≡ i) × (n ≡ j + 1)

-- the next node is appended to others
abbrev pub PutsHead : List AuditedNode → List AuditedNode → ℕ → ℕ → List AuditedNode → List AuditedNode
    → Ordering → Type 0
PutsHead first second i j old new order = (x : AuditedNode) × IsHead first second i j x order × (new ≡ old ++ x ∷ [])
