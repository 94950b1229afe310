-- The needs of a project's nodes (ours): the least that policies and edges ask for.
use Rattle.std.specs.Prelude.{◌≡◌, ◌↔◌, ◌==◌, ◌<◌, ◌&&◌, ◌||◌, true, false, Bool, ℕ, List, [], ◌∷◌, Option, Some, None}
use Rattle.std.specs.Prelude.{filter, get_or, is_none, length}
use Rattle.std.specs.FinSet as set
use Rattle.std.specs.List.{Contains, list_any, range_with_len}
use Rattle.std.specs.Option.{option_map_or}
use Rattle.vet_base.specs.Criteria.{Criteria, closure_of}
use Rattle.vet_base.specs.Names.{NameSet}
use Rattle.vet_base.specs.Words.{Name}
use Rattle.vet_demand.specs.Passed.{own_criteria, passed_criteria, policy_for, takes}
use Rattle.vet_demand.specs.Project.{ProjectValue}
use Rattle.vet_demand.specs.declared.policies.KeyedPolicy.{KeyedPolicy}
use Rattle.vet_demand.specs.declared.project.Edge.{Edge}
use Rattle.vet_demand.specs.declared.project.Node.{Node}
use Rattle.vet_demand.specs.declared.project.Party.TheVariants.{Third}

-- the node that a read past the end would give
abbrev pub no_node : Node
no_node = record { «package» = []; version = record { parts = (0, 0, 0, [], []); revision = None }; party = Third }

abbrev pub node_at : List Node → ℕ → Node
node_at nodes place = get_or nodes place no_node

-- the criteria that the node at a place needs by itself
abbrev pub own_at : List KeyedPolicy → List Node → ℕ → NameSet
own_at policies nodes place = own_criteria (node_at nodes place).party (policy_for policies (node_at nodes place))

-- whether the node at a place needs what its dependants pass
abbrev pub takes_at : List KeyedPolicy → List Node → ℕ → Bool
takes_at policies nodes place = takes (node_at nodes place).party (policy_for policies (node_at nodes place))

-- the criteria that an edge passes; none if it passes whatever the node where it starts needs
abbrev pub passed_by : List KeyedPolicy → List Node → Edge → Option NameSet
passed_by policies nodes e =
    passed_criteria e.kind (node_at nodes e.from).party (policy_for policies (node_at nodes e.from))
    (node_at nodes e.to).«package»

-- whether the closure of some criteria has a criterion
abbrev pub covers : Criteria → Name → NameSet → Bool
covers criteria c names = set.contains (closure_of criteria names) c

-- the places at which a criterion is needed: the node needs it by itself, an edge passes a list that covers it there,
-- or an edge that passes what its node needs leads there from a place where it is needed
pub data IsNeeded (policies : List KeyedPolicy) (criteria : Criteria) (project : ProjectValue) (c : Name) : ℕ
    → Type 0 where
  own : {v : ℕ} → v < length project.nodes → covers criteria c (own_at policies project.nodes v) ≡ true
      → IsNeeded policies criteria project c v
  passed : (e : Edge) → Contains project.edges e → takes_at policies project.nodes e.to ≡ true → (names : NameSet)
      → passed_by policies project.nodes e ≡ Some names → covers criteria c names ≡ true
      → IsNeeded policies criteria project c e.to
  passed_on : (e : Edge) → Contains project.edges e → takes_at policies project.nodes e.to ≡ true
      → passed_by policies project.nodes e ≡ None → IsNeeded policies criteria project c e.from
      → IsNeeded policies criteria project c e.to

-- ---- the same as a function

-- whether a path of these edges, perhaps of none, leads from one place to another
unfoldable pub leads : List Edge → ℕ → ℕ → Bool
leads [] u v = u == v
leads (e ∷ rest) u v = leads rest u v || (leads rest u e.from && leads rest e.to v)

-- whether an edge passes what its node needs
abbrev pub passes_on : List KeyedPolicy → List Node → Edge → Bool
passes_on policies nodes e = takes_at policies nodes e.to && is_none (passed_by policies nodes e)

-- whether an edge passes a list that covers a criterion
abbrev pub passes_listed : List KeyedPolicy → Criteria → List Node → Name → Edge → Bool
passes_listed policies criteria nodes c e =
    takes_at policies nodes e.to && option_map_or (covers criteria c) (passed_by policies nodes e) false

-- whether a criterion is needed at a place: edges that pass on needs lead there from a place whose node needs it by
-- itself, or from one to which an edge passes a list that covers it
abbrev pub is_needed : List KeyedPolicy → Criteria → ProjectValue → Name → ℕ → Bool
is_needed policies criteria project c v =
    let on = filter (passes_on policies project.nodes) project.edges in
    list_any (λ u. covers criteria c (own_at policies project.nodes u) && leads on u v)
    (range_with_len 0 (length project.nodes))
    || list_any (λ e. passes_listed policies criteria project.nodes c e && leads on e.to v) project.edges

-- the function computes the least needs
abbrev pub NeedsAreLeast : Type 0
NeedsAreLeast =
    (policies : List KeyedPolicy) (criteria : Criteria) (project : ProjectValue) (c : Name) (v : ℕ)
    → (is_needed policies criteria project c v ≡ true) ↔ IsNeeded policies criteria project c v
