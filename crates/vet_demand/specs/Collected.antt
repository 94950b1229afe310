-- How demanded pairs are put together (ours).
use Rattle.std.specs.Prelude.{◌≡◌, ◌↔◌, ◌⊎◌, ◌<◌, true, ℕ, List, [], Option, get_or, length}
use Rattle.std.specs.List.{All, Contains}
use Rattle.std.specs.declared.cmp.Ordering.TheVariants.{Less}
use Rattle.vet_base.specs.Criteria.{Criteria}
use Rattle.vet_base.specs.CriteriaSet.{Places, has}
use Rattle.vet_base.specs.Words.{Name}
use Rattle.vet_demand.specs.DemandOf.{IsDemandedIn, is_audited, pair_of}
use Rattle.vet_demand.specs.Pair.{IsInOrder, pair_cmp}
use Rattle.vet_demand.specs.Project.{ProjectValue}
use Rattle.vet_demand.specs.declared.pair.Pair.{Pair}
use Rattle.vet_demand.specs.declared.policies.KeyedPolicy.{KeyedPolicy}
use Rattle.vet_demand.specs.declared.policy.Policy.{Policy}
use Rattle.vet_demand.specs.declared.project.Node.{Node}

-- a list has exactly the pairs that it had before and these
abbrev pub Adds : (Pair → Type 0) → List Pair → List Pair → Type 0
Adds P old new = (q : Pair) → Contains new q ↔ (Contains old q ⊎ P q)

-- a pair of a node with one of the first n names, whose place is in a set
abbrev pub IsPairOf : Node → List Name → Places → ℕ → Pair → Type 0
IsPairOf node names set n q = (p : ℕ) × (p < n) × (has p set ≡ true) × (pair_of node (get_or names p []) ≡ q)

-- the node is audited, and the pair is of it
abbrev pub IsAuditedPair : Node → Option Policy → List Name → Places → Pair → Type 0
IsAuditedPair node policy names set q = (is_audited node.party policy ≡ true) × IsPairOf node names set (length names) q

-- a list gains these pairs of a node, and stays in order if it had only pairs that come before all of that node
pub record AddsInOrder (node : Node) (names : List Name) (set : Places) (n : ℕ) (old new : List Pair) : Type 0 where
  pub adds : Adds (IsPairOf node names set n) old new
  pub rises : IsInOrder old → All (λ q. (c : Name) → pair_cmp q (pair_of node c) ≡ Less) old → IsInOrder new

-- one of the first n nodes of a project demands a pair
abbrev pub IsDemandedBefore : List KeyedPolicy → Criteria → ProjectValue → ℕ → Pair → Type 0
IsDemandedBefore policies criteria project n q = (place : ℕ) × (place < n)
    × IsDemandedIn policies criteria project q place
