-- The demand of projects (ours): each pair once, in the order of reports.
use Rattle.std.specs.Prelude.{◌≡◌, ◌↔◌, ◌<◌, Bool, true, false, ℕ, List, [], ◌∷◌, if◌then◌else◌, fold, length}
use Rattle.std.specs.Prelude.{unwrap_or, Option, Some, None}
use Rattle.std.specs.FinMap as map
use Rattle.std.specs.FinSet as set
use Rattle.std.specs.List.{All, Contains, flat_map, range_with_len}
use Rattle.std.specs.BTreeSet.{insert_key}
use Rattle.vet_base.specs.Criteria.{Criteria, IsTable}
use Rattle.vet_base.specs.Names.{NameSet}
use Rattle.vet_base.specs.Words.{Name}
use Rattle.vet_demand.specs.Needs.{IsNeeded, is_needed, node_at}
use Rattle.vet_demand.specs.Pair.{IsInOrder, pair_cmp}
use Rattle.vet_demand.specs.Passed.{policy_for}
use Rattle.vet_demand.specs.Project.{ProjectValue}
use Rattle.vet_demand.specs.declared.pair.Pair.{Pair}
use Rattle.vet_demand.specs.declared.policies.KeyedPolicy.{KeyedPolicy}
use Rattle.vet_demand.specs.declared.policy.Policy.{Policy}
use Rattle.vet_demand.specs.declared.project.NamedProject.{NamedProject}
use Rattle.vet_demand.specs.declared.project.Node.{Node}
use Rattle.vet_demand.specs.declared.project.Party.{Party}
use Rattle.vet_demand.specs.declared.project.Party.TheVariants.{Root, First, Third}

-- whether a policy says that its package is audited as the one at crates.io
abbrev pub says_audited : Option Policy → Bool
says_audited None = false
says_audited (Some p) = unwrap_or p.audit_as_crates_io false

-- whether a node's needs are demanded: if it is third-party, or if its policy says that it is audited
abbrev pub is_audited : Party → Option Policy → Bool
is_audited Root policy = says_audited policy
is_audited First policy = says_audited policy
is_audited Third policy = true

abbrev pub is_audited_node : List KeyedPolicy → Node → Bool
is_audited_node policies node = is_audited node.party (policy_for policies node)

-- the pair of a node and a criterion
abbrev pub pair_of : Node → Name → Pair
pair_of node c = record { «package» = node.«package»; version = node.version; criterion = c }

-- a pair is demanded: some project has an audited node that needs the criterion
pub record IsDemandedIn (policies : List KeyedPolicy) (criteria : Criteria) (project : ProjectValue) (p : Pair)
    (place : ℕ) : Type 0 where
  pub within : place < length project.nodes
  pub audited : is_audited_node policies (node_at project.nodes place) ≡ true
  pub needed : IsNeeded policies criteria project p.criterion place
  pub is : pair_of (node_at project.nodes place) p.criterion ≡ p

abbrev pub IsDemandedBy : List KeyedPolicy → Criteria → ProjectValue → Pair → Type 0
IsDemandedBy policies criteria project p = (place : ℕ) × IsDemandedIn policies criteria project p place

abbrev pub IsDemanded : List NamedProject → List KeyedPolicy → Criteria → Pair → Type 0
IsDemanded projects policies criteria p =
    (named : NamedProject) × Contains projects named × IsDemandedBy policies criteria named.project p

-- exactly the pairs that are demanded, each once, in the order of reports
pub record IsLeastDemand (projects : List NamedProject) (policies : List KeyedPolicy) (criteria : Criteria)
    (demand : List Pair) : Type 0 where
  pub in_order : IsInOrder demand
  pub same : (p : Pair) → Contains demand p ↔ IsDemanded projects policies criteria p

-- ---- the criteria that policies name

-- all criteria of a list are in the table, if there is a list
abbrev pub NamesAreKnown : Criteria → Option NameSet → Type 0
NamesAreKnown criteria names = (list : NameSet) → names ≡ Some list → (c : Name) → set.contains list c ≡ true
    → map.contains_key criteria c ≡ true

-- each criterion that a policy names is in the table
pub record PolicyIsKnown (criteria : Criteria) (policy : Policy) : Type 0 where
  pub own : NamesAreKnown criteria policy.criteria
  pub dev : NamesAreKnown criteria policy.dev_criteria
  pub dependencies : All (λ i. NamesAreKnown criteria (Some i.criteria)) policy.dependency_criteria

abbrev pub PoliciesAreKnown : Criteria → List KeyedPolicy → Type 0
PoliciesAreKnown criteria policies = All (λ k. PolicyIsKnown criteria k.policy) policies

-- the table has each demanded criterion
abbrev pub HasDemanded : Criteria → List Pair → Type 0
HasDemanded criteria demand = All (λ p. map.contains_key criteria p.criterion ≡ true) demand

-- ---- the same as a function

-- the pairs of a node with the criteria of the table that it needs
abbrev pub pairs_at : List KeyedPolicy → Criteria → ProjectValue → ℕ → List Pair
pairs_at policies criteria project place =
    flat_map (λ c. if is_needed policies criteria project c place
    then pair_of (node_at project.nodes place) c ∷ [] else [])
    (map.keys criteria)

-- the pairs of the audited nodes of a project
abbrev pub pairs_in : List KeyedPolicy → Criteria → ProjectValue → List Pair
pairs_in policies criteria project =
    flat_map (λ place. if is_audited_node policies (node_at project.nodes place)
    then pairs_at policies criteria project place else [])
    (range_with_len 0 (length project.nodes))

-- pairs in their order, each once
abbrev pub in_order : List Pair → List Pair
in_order = fold (insert_key pair_cmp) []

-- the pairs of all projects
unfoldable pub demand_of : List NamedProject → List KeyedPolicy → Criteria → List Pair
demand_of projects policies criteria = in_order (flat_map (λ named. pairs_in policies criteria named.project) projects)

-- the function computes the least demand
abbrev pub DemandIsLeast : Type 0
DemandIsLeast =
    (projects : List NamedProject) (policies : List KeyedPolicy) (criteria : Criteria) → IsTable criteria
    → PoliciesAreKnown criteria policies
    → IsLeastDemand projects policies criteria (demand_of projects policies criteria)

-- no other list is the least demand
abbrev pub LeastDemandIsOnly : Type 0
LeastDemandIsOnly =
    (projects : List NamedProject) (policies : List KeyedPolicy) (criteria : Criteria) (demand : List Pair)
    → IsTable criteria → PoliciesAreKnown criteria policies
    → IsLeastDemand projects policies criteria demand → demand ≡ demand_of projects policies criteria

-- the table has each criterion of the demand
abbrev pub DemandedAreKnown : Type 0
DemandedAreKnown = (projects : List NamedProject) (policies : List KeyedPolicy) (criteria : Criteria)
    → HasDemanded criteria (demand_of projects policies criteria)

-- if there are no projects, nothing is demanded
abbrev pub NothingIsDemanded : Type 0
NothingIsDemanded = (policies : List KeyedPolicy) (criteria : Criteria) → demand_of [] policies criteria ≡ []
