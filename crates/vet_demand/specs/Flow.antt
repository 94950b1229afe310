-- The nodes at which criteria begin in a project, and the edges along which they go on (ours), by places.
use Rattle.std.specs.Prelude.{◌≡◌, ◌↔◌, ◌⊎◌, ◌<◌, true, ℕ, List, [], ◌∷◌, ◌++◌, Option, Some, None, get_or, length, map}
use Rattle.std.specs.Borrow.{Bor}
use Rattle.std.specs.FinMap as table
use Rattle.std.specs.List.{Contains}
use Rattle.std.specs.Option.{option_copied}
use Rattle.vet_base.specs.Criteria.{Criteria}
use Rattle.vet_base.specs.CriteriaSet.{Places, has}
use Rattle.vet_base.specs.Names.{NameSet}
use Rattle.vet_demand.specs.Needs.{IsNeeded, own_at, passed_by, takes_at}
use Rattle.vet_demand.specs.Passed.{own_criteria, policy_for}
use Rattle.vet_demand.specs.Project.{ProjectValue}
use Rattle.vet_demand.specs.Spread.{AreBelow, stands}
use Rattle.vet_demand.specs.Terms.{closed_places}
use Rattle.vet_demand.specs.declared.policies.KeyedPolicy.{KeyedPolicy}
use Rattle.vet_demand.specs.declared.policy.Policy.{Policy}
use Rattle.vet_demand.specs.declared.project.Edge.{Edge}
use Rattle.vet_demand.specs.declared.project.Node.{Node}

-- the policies of nodes
abbrev pub ArePoliciesOf : List KeyedPolicy → List Node → List (Option (Bor Policy)) → Type 0
ArePoliciesOf policies nodes found = map option_copied found ≡ map (policy_for policies) nodes

-- the places of the criteria that a node needs by itself
abbrev pub own_places : List KeyedPolicy → Criteria → Node → Places
own_places policies criteria node = closed_places criteria (own_criteria node.party (policy_for policies node))

-- an edge passes a list that has the criterion at a place
abbrev pub PassesAt : List KeyedPolicy → Criteria → List Node → ℕ → Edge → Type 0
PassesAt policies criteria nodes p e =
    (takes_at policies nodes e.to ≡ true)
    × ((names : NameSet) × (passed_by policies nodes e ≡ Some names) × (has p (closed_places criteria names) ≡ true))

-- an edge passes what its node needs
abbrev pub PassesOn : List KeyedPolicy → List Node → Edge → Type 0
PassesOn policies nodes e = (takes_at policies nodes e.to ≡ true) × (passed_by policies nodes e ≡ None)

-- the criterion at place p begins at node v: the node needs it by itself, or one of these edges passes it in a list
abbrev pub Begins : List KeyedPolicy → Criteria → List Node → List Edge → ℕ → ℕ → Type 0
Begins policies criteria nodes edges p v =
    (has p (closed_places criteria (own_at policies nodes v)) ≡ true)
    ⊎ ((e : Edge) × Contains edges e × (e.to ≡ v) × PassesAt policies criteria nodes p e)

-- one of these edges goes from u to v and passes what u needs
abbrev pub GoesOn : List KeyedPolicy → List Node → List Edge → ℕ → ℕ → Type 0
GoesOn policies nodes edges u v = (e : Edge) × Contains edges e × (e.from ≡ u) × (e.to ≡ v) × PassesOn policies nodes e

-- for each node, the criteria that begin there and the nodes to which it passes its needs, by these edges
pub record IsFlow (policies : List KeyedPolicy) (criteria : Criteria) (nodes : List Node) (edges : List Edge)
    (needs : List Places) (onward : List (List ℕ)) : Type 0 where
  pub count : length needs ≡ length nodes
  pub lists : length onward ≡ length nodes
  pub below : AreBelow (length nodes) onward
  pub begin : (p v : ℕ) → v < length nodes → stands p needs v ↔ Begins policies criteria nodes edges p v
  pub go_on : (u v : ℕ) → u < length nodes → Contains (get_or onward u []) v ↔ GoesOn policies nodes edges u v

-- the flow with one edge more
abbrev pub Follows : List KeyedPolicy → Criteria → List Node → Edge → List Places → List (List ℕ) → List Places
    → List (List ℕ) → Type 0
Follows policies criteria nodes e needs onward more_needs more_onward =
    (edges : List Edge) → IsFlow policies criteria nodes edges needs onward
    → IsFlow policies criteria nodes (edges ++ e ∷ []) more_needs more_onward

-- the criteria of the table that the nodes of a project need
pub record AreNeeds (policies : List KeyedPolicy) (criteria : Criteria) (project : ProjectValue)
    (needs : List Places) : Type 0 where
  pub count : length needs ≡ length project.nodes
  pub least : (p v : ℕ) → p < length (table.keys criteria) → v < length project.nodes
      → stands p needs v ↔ IsNeeded policies criteria project (get_or (table.keys criteria) p []) v
