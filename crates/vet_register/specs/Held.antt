-- Everything that classes and the demand depend on (ours): facts of packages, policies and projects, and edits of them;
-- and besides these, the settings of a config file that are for the tool only.
--
-- Policies and projects are held besides the facts of packages (HeldValue, Held). Policies are in the order of their
-- keys, and projects in the order of their names. Each edit of what is held takes no memory, and there is one that
-- undoes it (HeldEdit).
use Rattle.std.specs.Prelude.{ℕ, ◌≤◌, Bool, true, false, List, [], Option}
use Rattle.std.specs.Cmp.Lexicographic.{slice_cmp}
use Rattle.std.specs.Ordering.{nat_cmp}
use Rattle.vet_base.specs.Keyed as keyed
use Rattle.vet_base.specs.Keyed.{item_of, with_item, without_item}
use Rattle.vet_base.specs.Words.{Name}
use Rattle.vet_demand.specs.declared.pair.Pair.{Pair}
use Rattle.vet_demand.specs.declared.policies.KeyedPolicy.{KeyedPolicy}
use Rattle.vet_demand.specs.declared.policy_key.PolicyKey.{PolicyKey}
use Rattle.vet_demand.specs.declared.project.NamedProject.{NamedProject}
use Rattle.vet_demand.specs.DemandOf.{demand_of}
use Rattle.vet_demand.specs.NamedProject.{project_name}
use Rattle.vet_demand.specs.Policies.{key_of}
use Rattle.vet_demand.specs.PolicyKey.{policy_key_cmp}
use Rattle.vet_entries.specs.Facts as facts
use Rattle.vet_entries.specs.Facts.{Facts, Room, no_facts}
use Rattle.vet_graph.specs.declared.standing.Stand.{Stand}
use Rattle.vet_graph.specs.StandingOf.{standing_of}
use Rattle.vet_register.specs.declared.held.Held.{Held}
use Rattle.vet_register.specs.declared.held.HeldEdit.{HeldEdit}
use Rattle.vet_register.specs.declared.held.HeldEdit.TheVariants as edit
use Rattle.vet_register.specs.ToolSettings.{no_settings}
use Rattle.vet_register.specs.declared.tool_settings.ToolSettings.{ToolSettings}

-- facts of packages, policies in the order of their keys, projects in the order of their names, and the settings of a
-- config file that are for the tool only
pub record HeldValue : Type 0 where
  pub facts : Facts
  pub policies : List KeyedPolicy
  pub projects : List NamedProject
  pub settings : ToolSettings

-- only the built-in criteria
abbrev pub nothing_held : HeldValue
nothing_held = record { facts = no_facts; policies = []; projects = []; settings = no_settings }

-- the demand of the projects, by the policies and the criteria
abbrev pub demand_in : HeldValue → List Pair
demand_in held = demand_of held.projects held.policies held.facts.criteria

-- the class of each demanded pair
abbrev pub standing_in : HeldValue → List Stand
standing_in held = standing_of held.facts (demand_in held)

-- ---- policies by key, and projects by name

abbrev pub policy_at : List KeyedPolicy → PolicyKey → Option KeyedPolicy
policy_at policies key = item_of policy_key_cmp key_of policies key

abbrev pub with_policy : KeyedPolicy → List KeyedPolicy → List KeyedPolicy
with_policy policy policies = with_item policy_key_cmp key_of policies policy

abbrev pub without_policy : PolicyKey → List KeyedPolicy → List KeyedPolicy
without_policy key policies = without_item policy_key_cmp key_of policies key

abbrev pub project_at : List NamedProject → Name → Option NamedProject
project_at projects name = item_of (slice_cmp nat_cmp) project_name projects name

abbrev pub with_project : NamedProject → List NamedProject → List NamedProject
with_project project projects = with_item (slice_cmp nat_cmp) project_name projects project

abbrev pub without_project : Name → List NamedProject → List NamedProject
without_project name projects = without_item (slice_cmp nat_cmp) project_name projects name

-- ---- edits

-- everything that is held after an edit
abbrev pub edited : HeldEdit → HeldValue → HeldValue
edited (edit.Facts change) held = record held { facts = facts.edited change held.facts }
edited (edit.Policies change) held = record held { policies = keyed.edited change held.policies }
edited (edit.Projects change) held = record held { projects = keyed.edited change held.projects }
edited edit.Nothing held = held
edited (edit.Files files) held =
    record held { facts = files.facts.content; policies = files.policies.items; settings = files.settings }

-- the room for more
pub record HeldRoom : Type 0 where
  pub facts : Room
  pub policies : ℕ
  pub projects : ℕ

-- the things held, and the room for more
abbrev pub content_of : Held → HeldValue
content_of held = record {
  facts = held.facts.content;
  policies = held.policies.items;
  projects = held.projects.items;
  settings = held.settings;
}

abbrev pub room_of : Held → HeldRoom
room_of held = record { facts = held.facts.room; policies = held.policies.room; projects = held.projects.room }

-- the two together
abbrev pub held_with : HeldValue → HeldRoom → Held
held_with value room = record {
  facts = record { content = value.facts; room = room.facts };
  policies = record { items = value.policies; room = room.policies };
  projects = record { items = value.projects; room = room.projects };
  settings = value.settings;
}

-- an edit can be made, and takes no memory
abbrev pub Fits : HeldEdit → Held → Type 0
Fits (edit.Facts change) held = facts.Fits change held.facts
Fits (edit.Policies change) held = keyed.Fits policy_key_cmp key_of change held.policies
Fits (edit.Projects change) held = keyed.Fits (slice_cmp nat_cmp) project_name change held.projects
Fits edit.Nothing held = Unit {0}
Fits (edit.Files files) held = Unit {0}

-- if there is room for something in the old, there is in the new
abbrev pub HoldsRoomOf : HeldRoom → HeldRoom → Type 0
HoldsRoomOf old new =
    facts.HoldsRoomOf old.facts new.facts × ((old.policies ≤ new.policies) × (old.projects ≤ new.projects))

-- whether an edit keeps the demand, whatever is held
abbrev pub keeps_demand : HeldEdit → Bool
keeps_demand (edit.Facts change) = facts.keeps_criteria change
keeps_demand (edit.Policies change) = false
keeps_demand (edit.Projects change) = false
keeps_demand edit.Nothing = true
keeps_demand (edit.Files files) = false

-- the room after an edit
abbrev pub room_after : HeldEdit → HeldRoom → HeldRoom
room_after (edit.Facts change) room = record room { facts = facts.room_after change room.facts }
room_after (edit.Policies change) room = record room { policies = keyed.room_after change room.policies }
room_after (edit.Projects change) room = record room { projects = keyed.room_after change room.projects }
room_after edit.Nothing room = room
room_after (edit.Files files) room = record room { facts = files.facts.room; policies = files.policies.room }

-- an edit that fits still fits if the same is held and no room is lost
abbrev pub HeldEditsFit : Type 0
HeldEditsFit =
    (e : HeldEdit) (held : HeldValue) (old new : HeldRoom)
    → HoldsRoomOf old new → Fits e (held_with held old) → Fits e (held_with held new)

-- no room is lost if nothing happens
abbrev pub HeldRoomItself : Type 0
HeldRoomItself = (room : HeldRoom) → HoldsRoomOf room room

-- no room is lost by one thing after another if neither loses any
abbrev pub HeldRoomOnward : Type 0
HeldRoomOnward = (a b c : HeldRoom) → HoldsRoomOf a b → HoldsRoomOf b c → HoldsRoomOf a c
