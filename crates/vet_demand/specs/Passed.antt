-- The criteria that a node needs by itself, and those that an edge passes (ours), by the policies.
use Rattle.std.specs.Prelude.{Bool, List, Option, Some, None, is_none, unwrap_or}
use Rattle.std.specs.FinSet as set
use Rattle.std.specs.Option.{option_or}
use Rattle.vet_base.specs.Criteria.{safe_to_deploy, safe_to_run}
use Rattle.vet_base.specs.Names.{NameSet}
use Rattle.vet_base.specs.Words.{Name}
use Rattle.vet_demand.specs.DependencyCriteria.{criteria_for}
use Rattle.vet_demand.specs.Policies.{policy_of}
use Rattle.vet_demand.specs.declared.policies.KeyedPolicy.{KeyedPolicy}
use Rattle.vet_demand.specs.declared.policy.Policy.{Policy}
use Rattle.vet_demand.specs.declared.project.EdgeKind.{EdgeKind}
use Rattle.vet_demand.specs.declared.project.EdgeKind.TheVariants.{Normal, Build, Dev}
use Rattle.vet_demand.specs.declared.project.Node.{Node}
use Rattle.vet_demand.specs.declared.project.Party.{Party}
use Rattle.vet_demand.specs.declared.project.Party.TheVariants.{Root, First, Third}

-- the policy of a node: the one of its version if there is one, otherwise the one of its package, whole
abbrev pub policy_for : List KeyedPolicy → Node → Option Policy
policy_for policies node =
    option_or (policy_of policies (record { «package» = node.«package»; version = Some node.version }))
    (policy_of policies (record { «package» = node.«package»; version = None }))

-- the criteria of a policy, if there are some
abbrev pub named_criteria : Option Policy → Option NameSet
named_criteria None = None
named_criteria (Some p) = p.criteria

-- all that a first-party node needs, however it is reached, if its policy has `criteria`
abbrev pub settled_criteria : Party → Option Policy → Option NameSet
settled_criteria Root policy = named_criteria policy
settled_criteria First policy = named_criteria policy
settled_criteria Third policy = None

-- the set of one name
abbrev pub only : Name → NameSet
only n = set.insert set.empty n

-- the criteria that a node needs by itself unless it is first-party and its policy has `criteria`
abbrev pub default_criteria : Party → NameSet
default_criteria Root = only safe_to_deploy
default_criteria First = set.empty
default_criteria Third = set.empty

-- the criteria that a node needs by itself
abbrev pub own_criteria : Party → Option Policy → NameSet
own_criteria party policy = unwrap_or (settled_criteria party policy) (default_criteria party)

-- whether a node needs what its dependants pass
abbrev pub takes : Party → Option Policy → Bool
takes party policy = is_none (settled_criteria party policy)

-- the criteria that a policy lists for dependencies of a name
abbrev pub listed_criteria : Option Policy → Name → Option NameSet
listed_criteria None name = None
listed_criteria (Some p) name = criteria_for p.dependency_criteria name

-- the criteria that a policy gives for dev edges
abbrev pub dev_criteria : Option Policy → NameSet
dev_criteria None = only safe_to_run
dev_criteria (Some p) = unwrap_or p.dev_criteria (only safe_to_run)

-- the criteria that are passed along a dev edge
abbrev pub dev_passed : Party → Option Policy → Name → NameSet
dev_passed Root policy name = unwrap_or (listed_criteria policy name) (dev_criteria policy)
dev_passed First policy name = unwrap_or (listed_criteria policy name) (dev_criteria policy)
dev_passed Third policy name = set.empty

-- the criteria that are passed along an edge to a name; none if it passes whatever the node where it starts needs
abbrev pub passed_criteria : EdgeKind → Party → Option Policy → Name → Option NameSet
passed_criteria Normal party policy name = listed_criteria policy name
passed_criteria Build party policy name = listed_criteria policy name
passed_criteria Dev party policy name = Some (dev_passed party policy name)
