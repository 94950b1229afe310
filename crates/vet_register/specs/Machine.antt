-- One step of the machine: the state after an accepted command (ours).
--
-- A step (next) is that of the definitions, by held_after, desk_by, number_after, first_after and moves_after; it keeps
-- the limit. Only ClosePeriod ends a period (ends_period): after it the first counts are the present ones, and no move
-- is recorded. After each other command the first counts are as before, and its moves (records_of) come after those
-- recorded. An import takes as many numbers of entries as it has new entries, and so do files. FinishReview takes one
-- if its entry is added, and none if an equal one is held (numbers_given). A recorded move (RecordedMove) is the move
-- with the step and the day of its command.
--
-- The outcome of an accepted command (outcome_of) is its step, perhaps a number, and how many pairs it moved. The
-- number (number_given, number_told) is that of the entry that AddEntry made, or of the review that OpenReview opened.
-- For FinishReview it is that of the review's entry, whether new or held before. All other commands have none.
--
-- The first counts are zeros (no_counts) until a period ends, and then the present counts of that time (first_after).
--
-- A command is a day and an action (Command, Action). The actions are SetCriterion, RemoveCriterion, AddEntry,
-- DropEntry, SetPeer, DropPeer, ImportPeer, SetPublishers, SetPolicy, DropPolicy, LoadProject, DropProject,
-- ReplaceFiles, Desk, ClosePeriod and SetDay. Desk holds a command to the review desk. AddEntry puts its entry at the
-- end of the list under the next number, as an own one whatever source it names. DropEntry removes the own entry of its
-- number. SetPeer sets the settings of a peer. DropPeer removes the peer with everything that is held of it. ImportPeer
-- imports its content, as the peer's whatever source the entries name. SetPublishers sets the records of its package.
-- SetDay makes the day of the command the register's day (effect). SetPolicy and LoadProject put a policy or a project
-- where its key or name belongs, in place of the one that is there. DropPolicy and DropProject remove it (policies_by,
-- projects_by, held_after). The definitions take the day of a command besides its action, but only SetDay has an effect
-- that depends on it. The keeper gets the packages that the command touches (touched_by).
use Rattle.std.specs.Prelude.{ℕ, ◌+◌, ◌++◌, not, Bool, true, false, List, [], ◌∷◌, Option, Some, None, if◌then◌else◌}
use Rattle.std.specs.Prelude.{length, filter, map}
use Rattle.std.specs.Option.{option_map_or}
use Rattle.std.specs.FinMap as table
use Rattle.vet_base.specs.Day.{DayValue}
use Rattle.vet_base.specs.Words.{Name}
use Rattle.vet_desk.specs.Desk.{DeskState, desk_after}
use Rattle.vet_entries.specs.declared.entry.Entry.{Entry}
use Rattle.vet_entries.specs.Entry.{own}
use Rattle.vet_entries.specs.Facts.{Facts}
use Rattle.vet_entries.specs.HeldPeer.{holding_or_none, imported, new_entries, peer_of, with_content, with_settings}
use Rattle.vet_entries.specs.HeldPeer.{without_peer}
use Rattle.vet_entries.specs.Holding.{HoldingValue}
use Rattle.vet_entries.specs.Numbered.{has_number}
use Rattle.vet_entries.specs.PublisherRecords.{with_records}
use Rattle.vet_demand.specs.declared.policies.KeyedPolicy.{KeyedPolicy}
use Rattle.vet_demand.specs.declared.project.NamedProject.{NamedProject}
use Rattle.vet_graph.specs.declared.moves.Move.{Move}
use Rattle.vet_graph.specs.declared.standing.Counts.{Counts}
use Rattle.vet_graph.specs.declared.touched.Touched.{Touched}
use Rattle.vet_graph.specs.declared.touched.Touched.TheVariants as touched
use Rattle.vet_graph.specs.Moves.{moves_between}
use Rattle.vet_graph.specs.Standing.{counts_of}
use Rattle.vet_register.specs.declared.command.Action.{Action}
use Rattle.vet_register.specs.declared.command.Action.TheVariants.{SetCriterion, RemoveCriterion, AddEntry, DropEntry}
use Rattle.vet_register.specs.declared.command.Action.TheVariants.{SetPeer, DropPeer, ImportPeer, SetPublishers}
use Rattle.vet_register.specs.declared.command.Action.TheVariants.{SetPolicy, DropPolicy, LoadProject, DropProject}
use Rattle.vet_register.specs.declared.command.Action.TheVariants.{ReplaceFiles, Desk, ClosePeriod, SetDay}
use Rattle.vet_register.specs.declared.command.Command.{Command}
use Rattle.vet_register.specs.declared.command.Outcome.{Outcome}
use Rattle.vet_register.specs.declared.command.Outcome.TheVariants.{Done}
use Rattle.vet_register.specs.declared.moves.RecordedMove.{RecordedMove}
use Rattle.vet_register.specs.AtDesk.{added_by, entry_number, number_told}
use Rattle.vet_register.specs.Held.{HeldValue, demand_in, standing_in, with_policy, with_project, without_policy}
use Rattle.vet_register.specs.Held.{without_project}
use Rattle.vet_register.specs.Replacing.{facts_of_files, new_of_files, tool_of_files}
use Rattle.vet_register.specs.State.{State, demanded, standing}
use Rattle.vet_register.specs.Touches.{entry_package, held_package, only_at, package_added, packages_between}
use Rattle.vet_register.specs.Touches.{packages_lapsing, packages_of_peer}
use Rattle.vet_register.specs.declared.tool_settings.ToolSettings.{ToolSettings}

-- a command and what it asks for, as values
abbrev pub CommandValue : Type 0
CommandValue = Command

abbrev pub ActionValue : Type 0
ActionValue = Action

-- the holding of the peer of a name; nothing for a new one
abbrev pub held_of : Facts → Name → HoldingValue
held_of facts name = holding_or_none (peer_of facts.peers name)

-- the facts with one own entry more, if there is one, under this number
abbrev pub with_entry : ℕ → Option Entry → Facts → Facts
with_entry number None facts = facts
with_entry number (Some entry) facts =
    record facts { entries = facts.entries ++ (record { number = number; entry = own entry }) ∷ [] }

-- the effect of a command in a state, on its day, on the facts of packages
abbrev pub effect : State → DayValue → Action → Facts → Facts
effect s day (SetCriterion c) facts = record facts { criteria = table.insert facts.criteria c.name c }
effect s day (RemoveCriterion name) facts = record facts { criteria = table.remove facts.criteria name }
effect s day (AddEntry entry) facts = with_entry s.next_entry (Some entry) facts
effect s day (DropEntry n) facts = record facts { entries = filter (λ h. not (has_number n h)) facts.entries }
effect s day (SetPeer settings) facts = record facts { peers = with_settings settings facts.peers }
effect s day (DropPeer name) facts = record facts { peers = without_peer name facts.peers }
effect s day (ImportPeer name content) facts =
    record facts { peers = with_content name (imported name s.next_entry content (held_of facts name)) facts.peers }
effect s day (SetPublishers name records) facts =
    record facts { publishers = with_records name records facts.publishers }
effect s day (SetPolicy policy) facts = facts
effect s day (DropPolicy key) facts = facts
effect s day (LoadProject project) facts = facts
effect s day (DropProject name) facts = facts
effect s day (ReplaceFiles files) facts = facts_of_files s.next_entry files facts
effect s day (Desk command) facts = with_entry s.next_entry (added_by s command) facts
effect s day ClosePeriod facts = facts
effect s day SetDay facts = record facts { today = Some day }

-- its effect on the policies
abbrev pub policies_by : Action → List KeyedPolicy → List KeyedPolicy
policies_by (SetPolicy policy) policies = with_policy policy policies
policies_by (DropPolicy key) policies = without_policy key policies
policies_by (ReplaceFiles files) policies = files.policies
policies_by _ policies = policies

-- and on the projects
abbrev pub projects_by : Action → List NamedProject → List NamedProject
projects_by (LoadProject project) projects = with_project project projects
projects_by (DropProject name) projects = without_project name projects
projects_by _ projects = projects

-- and on the settings for the tool
abbrev pub settings_by : Action → ToolSettings → ToolSettings
settings_by (ReplaceFiles files) settings = tool_of_files files
settings_by _ settings = settings

-- the facts after a command
abbrev pub facts_after : State → DayValue → Action → Facts
facts_after s day action = effect s day action s.held.facts

-- everything that is held after a command
abbrev pub held_after : State → DayValue → Action → HeldValue
held_after s day action = record {
  facts = facts_after s day action;
  policies = policies_by action s.held.policies;
  projects = projects_by action s.held.projects;
  settings = settings_by action s.held.settings;
}

-- the desk after a command
abbrev pub desk_by : State → DayValue → Action → DeskState
desk_by s day (Desk command) = desk_after day (entry_number s command) command s.desk
desk_by s day _ = s.desk

-- the moves of a command: the pairs whose class differs before and after it
abbrev pub moves_of : State → DayValue → Action → List Move
moves_of s day action = moves_between (standing s) (standing_in (held_after s day action))

-- the packages at which a command changes the demand
abbrev pub demand_touched : State → DayValue → Action → Touched
demand_touched s day action = only_at (packages_between (demanded s) (demand_in (held_after s day action)))

-- the packages that a command touches
abbrev pub touched_by : State → DayValue → Action → Touched
touched_by s day (SetCriterion c) = touched.All
touched_by s day (RemoveCriterion name) = touched.All
touched_by s day (AddEntry entry) = only_at (package_added (Some entry))
touched_by s day (DropEntry n) = only_at (map held_package (filter (has_number n) s.held.facts.entries))
touched_by s day (SetPeer settings) = only_at (packages_of_peer s.held.facts settings.name)
touched_by s day (DropPeer name) = only_at (packages_of_peer s.held.facts name)
touched_by s day (ImportPeer name content) =
    only_at (packages_of_peer s.held.facts name ++ map entry_package content.entries)
touched_by s day (SetPublishers name records) = only_at (name ∷ [])
touched_by s day (SetPolicy policy) = demand_touched s day (SetPolicy policy)
touched_by s day (DropPolicy key) = demand_touched s day (DropPolicy key)
touched_by s day (LoadProject project) = demand_touched s day (LoadProject project)
touched_by s day (DropProject name) = demand_touched s day (DropProject name)
touched_by s day (ReplaceFiles files) = touched.All
touched_by s day (Desk command) = only_at (package_added (added_by s command))
touched_by s day ClosePeriod = only_at []
touched_by s day SetDay = only_at (packages_lapsing s.held.facts day)

-- the number in a command's outcome: that of the entry that it adds, of a review that it opens, or of the entry of one
-- that it finishes; an import has none, nor do files
abbrev pub number_given : State → Action → Option ℕ
number_given s (AddEntry entry) = Some s.next_entry
number_given s (Desk command) = number_told s command
number_given s _ = None

-- how many numbers of entries a command takes: one for an entry that is added, and one for each that is new in an
-- import or in files
abbrev pub numbers_given : State → Action → ℕ
numbers_given s (AddEntry entry) = 1
numbers_given s (ImportPeer name content) =
    length (new_entries name (held_of s.held.facts name).entries content.entries)
numbers_given s (ReplaceFiles files) = new_of_files s.held.facts files
numbers_given s (Desk command) = option_map_or (λ _. 1) (added_by s command) 0
numbers_given s _ = 0

-- the next number after a command
abbrev pub number_after : State → Action → ℕ
number_after s action = s.next_entry + numbers_given s action

-- a move as it is recorded
abbrev pub recorded : ℕ → DayValue → Move → RecordedMove
recorded step day change = record { step = step; day = day; change = change }

-- the moves that a command records
abbrev pub records_of : State → Command → List RecordedMove
records_of s c = map (recorded (s.step + 1) c.day) (moves_of s c.day c.action)

-- a command ends the period: another begins, with the present counts, and without a move
abbrev pub ends_period : Action → Bool
ends_period ClosePeriod = true
ends_period _ = false

-- the first counts after a command, and the recorded moves
abbrev pub first_after : State → Action → Counts
first_after s action = if ends_period action then counts_of (standing s) else s.first

abbrev pub moves_after : State → Command → List RecordedMove
moves_after s c = if ends_period c.action then [] else s.moves ++ records_of s c

-- how many moves these are
abbrev pub count_after : State → DayValue → Action → ℕ
count_after s day action = if ends_period action then 0 else length s.moves + length (moves_of s day action)

-- the state after an accepted command
abbrev pub next : State → Command → State
next s c = record s {
  held = held_after s c.day c.action;
  desk = desk_by s c.day c.action;
  step = s.step + 1;
  next_entry = number_after s c.action;
  first = first_after s c.action;
  moves = moves_after s c;
}

-- the outcome of an accepted command: its step, its number, and how many moves it made
abbrev pub outcome_of : State → Command → Outcome
outcome_of s c = Done (s.step + 1) (number_given s c.action) (length (moves_of s c.day c.action))
