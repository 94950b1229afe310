-- The verdict on a command in a state (ours). It is the first of these that applies: the content is held already; a
-- limit is passed; something that the command refers to is not held; a rule is broken; the moves do not fit; the
-- command is accepted.
--
-- "18 step" applies if one step more is past 2^63 - 1, and "18 number" if the next number is past 2^63 - 2 (step_limit,
-- number_limit). The table of criteria has its own parts of the verdict (set_limits, set_references, set_rules,
-- remove_references, remove_rules). The limit of steps comes between its limits and its references.
-- - SetCriterion: Already if a criterion of its name is held that is equal to it, and the name is not built in
--   (is_held). 9 if the name is new and the table is full. 18 step. 6 with the least name that it implies and that is
--   neither in the table nor its own. 7 if its name is built in.
-- - RemoveCriterion: 18 step. 6 if the table lacks the name. 7 if it is built in. 8 if a criterion of another name
--   implies it, or something names it (is_used). An own entry or a target of a peer's map may name it (is_named). So
--   may a list of a policy (policy_names), or a review that is not closed (are_open_for). The words of peers do not
--   count, nor do closed reviews.
-- - AddEntry: Already if an own entry is held that is equal to it as an own one, with the number of the first such
--   entry (number_of). 18 entries, if with it there would be more than 100,000 of all sources (entry_limit). 18 step.
--   18 number. 6 with the least of its criteria that the table lacks. For a wildcard or trusted entry, 11 if its last
--   day comes before its first (ends_before_it_begins), and 12 if its last day comes more than 366 days after the day
--   of the command (ends_too_late). Days are compared by number, so that no day comes too late if the sum is past
--   9999-12-31. For an exemption, 11 if it has a last day that is before the day of the command (is_over); the
--   register's day doesn't matter.
-- - DropEntry: 18 step; 10 if no own entry has the number.
-- - SetPeer: Already if a peer of its name is held with equal settings (has_settings). 18 peers, if its name is new and
--   64 are held (peer_limit). 18 step. 6 with the least target of its map that the table lacks.
-- - DropPeer: 18 step; 13 if no peer has the name (held_peer).
-- - ImportPeer: Already if the peer is held and the content is the one held (has_content). 18 entries, if those of all
--   other sources (entries_beside) and those of the content are more than 100,000. 18 step. 18 number, if the numbers
--   of its new entries lead past the last (numbers_given). These limits apply as if the peer were held; if it is not,
--   all entries are new. Then 13 if it is not held.
-- - SetPublishers: Already if the package has exactly these records (none, if it has none). 18 publishers, if with
--   these there would be more than 100,000 in all (publisher_limit). 18 step.
-- - SetPolicy: Already if the policy of its key is held and equal to it (has_policy). 18 policies, if its key is new
--   and 10,000 are held (policy_limit). 18 step. 6 with the least name of all its lists (names_in) that the table
--   lacks.
-- - DropPolicy: 18 step; 14 if no policy has the key (held_policy).
-- - LoadProject: Already if the project of its name is held and equal to it (has_project). 18 projects, if its name is
--   new and 64 are held (project_limit). 18 step.
-- - DropProject: 18 step; 15 if no project has the name (held_project).
-- - ReplaceFiles: Already if everything that the files hold is held, as sets, and nothing else except projects and own
--   exemptions with a last day (has_files). Each criterion is held and there are as many (has_criteria), and the own
--   entries are those held, apart from these exemptions (same_entries). Each peer of the config file is held with these
--   settings and this content and there are as many (has_peers). Publisher records, policies and the settings for the
--   tool are equal (has_lists). It is never Already if the imports file has a peer that the config file lacks
--   (each_is_set). 9 if there are more than MOST_CRITERIA, including the built-in ones (counted). Then the limits on
--   everything that would be held afterwards (files_limits): 18 peers, of the config file; 18 entries: own ones, those
--   of the config file's peers, and the exemptions with a last day, which are kept (entries_of_files); 18 publishers;
--   18 policies; 18 step; 18 number. 6 with the least name that is neither built in nor one of the files' own criteria,
--   whatever was held (unknown_of_files), among the names that criteria imply and those in own entries, exemptions,
--   policies and targets of maps. 13 if the imports file has a peer that the config file lacks. 8 if a review that is
--   not closed, or an exemption that is kept, names a criterion that is neither built in nor one of the files'
--   (names_beyond). Windows are not checked.
-- - Desk: the parts of the desk's verdict, by the present table of criteria and the present demand, with the register's
--   own checks between them. Already if the desk has the thing that is set or added (desk_held), without a number. 18
--   members or reviews (desk_limits). 18 step, except for FinishReview (step_before_rules). 18 number of a review
--   (desk_number). Then 6, 19 and 20 (desk_references). Then 21 to 24 (desk_rules). For FinishReview 18 comes after all
--   these (limits_after_rules). It is of entries, step and number if its entry is added (entry_limits), and only of the
--   step if an equal own one is held.
-- - ClosePeriod: only 18 step; it leaves no moves, so 25 never comes.
-- - SetDay: Already if the day of the command is the register's day (is_today). 18 step. 32 if it is before the
--   register's day (goes_back).
--
-- After these, for each command: 25 if more moves would be recorded after it than the limit (moves_fit, count_after).
-- Otherwise it is accepted. The groups are held_as, limits, references, rules and moves_fit, in this order; limits and
-- references never depend on the day. Limits, references and rules together are `checked`. With held_as before them
-- they are `judged`, the verdict before the moves are known. If nothing refuses, the verdict is an Answer, already or
-- accepted. 29 may replace 6, whose name is copied, and the verdict once all checks are passed, but neither Already nor
-- another check (IsExactly). It takes memory to compare an import or files with what is held (wants_memory), so for
-- these two commands 29 may replace anything (IsExact). It takes memory too to compare the entry of a finished review,
-- once everything is passed except the limits after its rules (asked_before), so there 29 may replace 18, and nothing
-- that comes before.
use Rattle.std.specs.Prelude.{ℕ, ◌+◌, ◌&&◌, ◌||◌, not, nat_lt, Bool, true, false, is_none, is_ok, List, Option, Some}
use Rattle.std.specs.Prelude.{None, Ok, if◌then◌else◌, length, option_map, ◌+ℤ◌, pos}
use Rattle.std.specs.List.{list_any}
use Rattle.std.specs.Ordering.{int_cmp, is_lt}
use Rattle.std.specs.FinMap as table
use Rattle.vet_base.specs.Words.{Name}
use Rattle.vet_base.specs.declared.limits.TheConstants.{MOST_ENTRIES, MOST_PEERS, MOST_POLICIES, MOST_PROJECTS}
use Rattle.vet_base.specs.declared.limits.TheConstants.{MOST_PUBLISHERS, MOST_WINDOW_DAYS, LAST_STEP, LAST_NUMBER}
use Rattle.vet_base.specs.declared.refusal.Limit.TheVariants as limit
use Rattle.vet_base.specs.declared.refusal.Refusal.TheVariants.{CriterionInUse, UnknownEntry, UnknownPeer}
use Rattle.vet_base.specs.declared.refusal.Refusal.TheVariants.{UnknownPolicy, UnknownProject, EmptyWindow}
use Rattle.vet_base.specs.declared.refusal.Refusal.TheVariants.{WindowTooLong, TooLarge, MovesFull, DayGoesBack}
use Rattle.vet_base.specs.Criteria.{Criteria, least_unknown}
use Rattle.vet_base.specs.CriteriaChanges.{known, remove_references, remove_rules, set_limits, set_references}
use Rattle.vet_base.specs.CriteriaChanges.{set_rules}
use Rattle.vet_base.specs.Day.{DayValue, day_cmp, day_number}
use Rattle.vet_base.specs.Defined.{defined}
use Rattle.vet_base.specs.Gives.{Told, refuse_if, ◌>>=◌}
use Rattle.vet_demand.specs.declared.policy_key.PolicyKey.{PolicyKey}
use Rattle.vet_demand.specs.PolicyNames.{names_in, policy_names}
use Rattle.vet_desk.specs.declared.command.DeskCommand.{DeskCommand}
use Rattle.vet_desk.specs.DeskVerdict.{desk_held, desk_limits, desk_number, desk_references, desk_rules}
use Rattle.vet_desk.specs.Review.{are_open_beyond, are_open_for}
use Rattle.vet_entries.specs.declared.entry.Entry.{Entry}
use Rattle.vet_entries.specs.declared.kind.Kind.{Kind}
use Rattle.vet_entries.specs.declared.kind.Kind.TheVariants.{Wildcard, Trusted, Exemption}
use Rattle.vet_entries.specs.declared.kind.Window.{Window}
use Rattle.vet_entries.specs.declared.publisher.Publisher.{Publisher}
use Rattle.vet_entries.specs.Facts.{Facts, entries_of_peers, entries_total, is_named}
use Rattle.vet_entries.specs.HeldPeer.{peer_of, without_peer}
use Rattle.vet_entries.specs.Kind.{is_over}
use Rattle.vet_entries.specs.Numbered.{has_number, number_of}
use Rattle.vet_entries.specs.PeerWords.{targets}
use Rattle.vet_entries.specs.PublisherRecords.{records_of, records_total, with_records}
use Rattle.vet_entries.specs.Publishers.{publishers_eq}
use Rattle.vet_entries.specs.Replaced.{is_dated_beyond}
use Rattle.vet_files.specs.FilesContent.{FilesValue, each_is_set}
use Rattle.vet_register.specs.declared.command.Action.{Action}
use Rattle.vet_register.specs.declared.command.Action.TheVariants.{SetCriterion, RemoveCriterion, AddEntry, DropEntry}
use Rattle.vet_register.specs.declared.command.Action.TheVariants.{SetPeer, DropPeer, ImportPeer, SetPublishers}
use Rattle.vet_register.specs.declared.command.Action.TheVariants.{SetPolicy, DropPolicy, LoadProject, DropProject}
use Rattle.vet_register.specs.declared.command.Action.TheVariants.{ReplaceFiles, Desk, ClosePeriod, SetDay}
use Rattle.vet_register.specs.declared.command.Command.{Command}
use Rattle.vet_register.specs.declared.verdict.Answer.{Answer}
use Rattle.vet_register.specs.declared.verdict.Answer.TheVariants.{Already, Accepted}
use Rattle.vet_register.specs.AtDesk.{added_by, finishes}
use Rattle.vet_register.specs.Already.{has_content, has_files, has_policy, has_project, has_settings, is_held}
use Rattle.vet_register.specs.Held.{policy_at, project_at}
use Rattle.vet_register.specs.NamesOfFiles.{counted, unknown_of_files}
use Rattle.vet_register.specs.Replacing.{entries_of_files, new_of_files}
use Rattle.vet_register.specs.State.{State, demanded}
use Rattle.vet_register.specs.Machine.{count_after, numbers_given}
use Rattle.vet_register.specs.Today.{goes_back, is_today}

-- whether a command's content is held already and, for an entry, under which number
abbrev pub held_as : State → DayValue → Action → Option (Option ℕ)
held_as s day (SetCriterion c) = if is_held s.held.facts.criteria c then Some None else None
held_as s day (AddEntry entry) = option_map (λ n. Some n) (number_of s.held.facts.entries entry)
held_as s day (SetPeer settings) = if has_settings s.held.facts.peers settings then Some None else None
held_as s day (ImportPeer name content) = if has_content s.held.facts.peers name content then Some None else None
held_as s day (SetPublishers name records) =
    if publishers_eq (records_of s.held.facts.publishers name) records then Some None else None
held_as s day (SetPolicy policy) = if has_policy s.held.policies policy then Some None else None
held_as s day (LoadProject project) = if has_project s.held.projects project then Some None else None
held_as s day (ReplaceFiles files) = if has_files s.held files then Some None else None
held_as s day (Desk command) = if desk_held s.desk command then Some None else None
held_as s day SetDay = if is_today s.held.facts.today day then Some None else None
held_as s day _ = None

-- there is a step for a command
abbrev pub step_limit : State → Told (Unit {0})
step_limit s = refuse_if (nat_lt LAST_STEP (s.step + 1)) (TooLarge limit.Step)

-- there are numbers for this many entries
abbrev pub number_limit : State → ℕ → Told (Unit {0})
number_limit s count = refuse_if (nat_lt (LAST_NUMBER + 1) (s.next_entry + count)) (TooLarge limit.Number)

-- this many entries are within their limit
abbrev pub entry_limit : ℕ → Told (Unit {0})
entry_limit count = refuse_if (nat_lt MOST_ENTRIES count) (TooLarge limit.Entries)

-- how many entries there are of all sources except one peer
abbrev pub entries_beside : Facts → Name → ℕ
entries_beside facts name = length facts.entries + entries_of_peers (without_peer name facts.peers)

-- the limits of an import of `count` entries, `new` of them new
abbrev pub import_limits : State → Name → ℕ → ℕ → Told (Unit {0})
import_limits s name count new =
    entry_limit (entries_beside s.held.facts name + count) >>= λ _. step_limit s >>= λ _. number_limit s new

-- one peer more, if it is a new one, is within the limit
abbrev pub peer_limit : State → Name → Told (Unit {0})
peer_limit s name =
    refuse_if
    (is_none (peer_of s.held.facts.peers name) && nat_lt MOST_PEERS (length s.held.facts.peers + 1))
    (TooLarge limit.Peers)

-- with these records for a package, publisher records are within their limit
abbrev pub publisher_limit : State → Name → List Publisher → Told (Unit {0})
publisher_limit s name records =
    refuse_if (nat_lt MOST_PUBLISHERS (records_total (with_records name records s.held.facts.publishers)))
    (TooLarge limit.Publishers)

-- one policy more, if it is a new one, is within the limit
abbrev pub policy_limit : State → PolicyKey → Told (Unit {0})
policy_limit s key =
    refuse_if
    (is_none (policy_at s.held.policies key) && nat_lt MOST_POLICIES (length s.held.policies + 1))
    (TooLarge limit.Policies)

-- one project more, if it is a new one, is within the limit
abbrev pub project_limit : State → Name → Told (Unit {0})
project_limit s name =
    refuse_if
    (is_none (project_at s.held.projects name) && nat_lt MOST_PROJECTS (length s.held.projects + 1))
    (TooLarge limit.Projects)

-- files, together with what is kept, are within the limits of peers, entries, publisher records and policies, and there
-- is a step and, for each new entry, a number
abbrev pub files_limits : State → FilesValue → Told (Unit {0})
files_limits s f =
    refuse_if (nat_lt MOST_PEERS (length f.settings)) (TooLarge limit.Peers) >>= λ _.
    entry_limit (entries_of_files s.held.facts f) >>= λ _.
    refuse_if (nat_lt MOST_PUBLISHERS (records_total f.publishers)) (TooLarge limit.Publishers) >>= λ _.
    refuse_if (nat_lt MOST_POLICIES (length f.policies)) (TooLarge limit.Policies) >>= λ _.
    step_limit s >>= λ _. number_limit s (new_of_files s.held.facts f)

-- there is a step for a command to the desk; for one that finishes a review this is checked after its rules
abbrev pub step_before_rules : State → DeskCommand → Told (Unit {0})
step_before_rules s command = if finishes command then Ok tt else step_limit s

-- there is a step and, if an own entry is added, room and a number for it
abbrev pub entry_limits : State → Option Entry → Told (Unit {0})
entry_limits s None = step_limit s
entry_limits s (Some entry) =
    entry_limit (entries_total s.held.facts + 1) >>= λ _. step_limit s >>= λ _. number_limit s 1

-- the limits of a command that finishes a review, which come after its rules
abbrev pub limits_after_rules : State → DeskCommand → Told (Unit {0})
limits_after_rules s command = if finishes command then entry_limits s (added_by s command) else Ok tt

-- everything held stays within its limit, and there is a step and, for each new entry, a number; an import is checked
-- as if its peer were held
abbrev pub limits : State → Action → Told (Unit {0})
limits s (SetCriterion c) = set_limits s.held.facts.criteria c.name >>= λ _. step_limit s
limits s (AddEntry entry) = entry_limit (entries_total s.held.facts + 1) >>= λ _. step_limit s >>= λ _. number_limit s 1
limits s (SetPeer settings) = peer_limit s settings.name >>= λ _. step_limit s
limits s (ImportPeer name content) =
    import_limits s name (length content.entries) (numbers_given s (ImportPeer name content))
limits s (SetPublishers name records) = publisher_limit s name records >>= λ _. step_limit s
limits s (SetPolicy policy) = policy_limit s policy.key >>= λ _. step_limit s
limits s (LoadProject project) = project_limit s project.name >>= λ _. step_limit s
limits s (ReplaceFiles files) = counted (defined files.criteria) >>= λ _. files_limits s files
limits s (Desk command) =
    desk_limits s.desk command >>= λ _. step_before_rules s command >>= λ _. desk_number s.desk command
limits s _ = step_limit s

-- a peer of a name is held
abbrev pub held_peer : State → Name → Told (Unit {0})
held_peer s name = refuse_if (is_none (peer_of s.held.facts.peers name)) UnknownPeer

-- a policy of a key is held, and a project of a name
abbrev pub held_policy : State → PolicyKey → Told (Unit {0})
held_policy s key = refuse_if (is_none (policy_at s.held.policies key)) UnknownPolicy

abbrev pub held_project : State → Name → Told (Unit {0})
held_project s name = refuse_if (is_none (project_at s.held.projects name)) UnknownProject

-- each criterion that files name is one that they define or a built-in one, whatever was held before; and each peer of
-- the imports file is in the config file
abbrev pub files_references : FilesValue → Told (Unit {0})
files_references f =
    known (unknown_of_files (table.contains_key (defined f.criteria)) f) >>= λ _.
    refuse_if (not (each_is_set f)) UnknownPeer

-- everything that a command refers to is held; an entry that is dropped is one's own
abbrev pub references : State → Action → Told (Unit {0})
references s (SetCriterion c) = set_references s.held.facts.criteria c
references s (RemoveCriterion name) = remove_references s.held.facts.criteria name
references s (AddEntry entry) = known (least_unknown s.held.facts.criteria entry.criteria)
references s (DropEntry n) = refuse_if (not (list_any (has_number n) s.held.facts.entries)) UnknownEntry
references s (SetPeer settings) = known (least_unknown s.held.facts.criteria (targets settings.map))
references s (DropPeer name) = held_peer s name
references s (ImportPeer name content) = held_peer s name
references s (SetPublishers name records) = Ok tt
references s (SetPolicy policy) = known (least_unknown s.held.facts.criteria (names_in policy.policy))
references s (DropPolicy key) = held_policy s key
references s (LoadProject project) = Ok tt
references s (DropProject name) = held_project s name
references s (ReplaceFiles files) = files_references files
references s (Desk command) = desk_references s.held.facts.criteria s.desk command
references s ClosePeriod = Ok tt
references s SetDay = Ok tt

-- the last day of a window comes before its first
abbrev pub ends_before_it_begins : Window → Bool
ends_before_it_begins w = is_lt (day_cmp w.last w.first)

-- the last day of a window comes more than 366 days after a day
abbrev pub ends_too_late : DayValue → Window → Bool
ends_too_late day w = is_lt (int_cmp (day_number day +ℤ pos MOST_WINDOW_DAYS) (day_number w.last))

-- a window does not end before it begins, and ends soon enough after the day of the command
abbrev pub window_rules : DayValue → Window → Told (Unit {0})
window_rules day w =
    refuse_if (ends_before_it_begins w) EmptyWindow >>= λ _. refuse_if (ends_too_late day w) WindowTooLong

-- only wildcard and trusted entries have a window; the last day of an exemption isn't over on the day of the command
abbrev pub kind_rules : DayValue → Kind → Told (Unit {0})
kind_rules day (Wildcard window grant) = window_rules day window
kind_rules day (Trusted window) = window_rules day window
kind_rules day (Exemption version suggest last) = refuse_if (is_over last (Some day)) EmptyWindow
kind_rules day _ = Ok tt

-- an own entry, a target of a peer's map, a policy or a review that isn't closed names a criterion
abbrev pub is_used : State → Name → Bool
is_used s name =
    is_named s.held.facts name || (list_any (policy_names name) s.held.policies || are_open_for s.desk.reviews name)

-- something that files keep names a criterion that a table lacks: a review that isn't closed, or an own exemption with
-- a last day
abbrev pub names_beyond : State → Criteria → Bool
names_beyond s table = are_open_beyond table s.desk.reviews || list_any (is_dated_beyond table) s.held.facts.entries

-- a built-in criterion is neither set nor removed; no criterion is removed that another implies, or that an own entry,
-- a target of a peer's map, a policy or an open review names; files lack no criterion that something they keep names; a
-- window keeps its rules, and a command to the desk those of the desk, by the present demand; the register's day
-- doesn't go back
abbrev pub rules : State → DayValue → Action → Told (Unit {0})
rules s day (SetCriterion c) = set_rules c.name
rules s day (RemoveCriterion name) =
    remove_rules s.held.facts.criteria name >>= λ _. refuse_if (is_used s name) CriterionInUse
rules s day (AddEntry entry) = kind_rules day entry.kind
rules s day (ReplaceFiles files) = refuse_if (names_beyond s (defined files.criteria)) CriterionInUse
rules s day (Desk command) = desk_rules (demanded s) s.desk command >>= λ _. limits_after_rules s command
rules s day SetDay = refuse_if (goes_back s.held.facts.today day) DayGoesBack
rules s day _ = Ok tt

-- all checks of a command to the desk, except the limits that come after the rules
abbrev pub asked_before : State → DeskCommand → Told (Unit {0})
asked_before s command =
    limits s (Desk command) >>= λ _. references s (Desk command) >>= λ _. desk_rules (demanded s) s.desk command

-- all checks of a command, on its day, except room for its moves
abbrev pub checked : State → DayValue → Action → Told (Unit {0})
checked s day action = limits s action >>= λ _. references s action >>= λ _. rules s day action

-- Already comes before all refusals
abbrev pub held_or : Option (Option ℕ) → Told (Unit {0}) → Told Answer
held_or (Some number) told = Ok (Already number)
held_or None told = told >>= λ _. Ok Accepted

-- it takes memory to compare an import, files, or the entry of a finished review with what is held; the entry is made
-- once every check before the limits that come after the rules is passed
abbrev pub wants_memory : State → Action → Bool
wants_memory s (ImportPeer name content) = true
wants_memory s (ReplaceFiles files) = true
wants_memory s (Desk command) = finishes command && is_ok (asked_before s command)
wants_memory s _ = false

-- the verdict on a command, before its moves are known
abbrev pub judged : State → DayValue → Action → Told Answer
judged s day action = held_or (held_as s day action) (checked s day action)

-- the moves that are recorded after a command are within their limit
abbrev pub moves_fit : State → DayValue → Action → Told (Unit {0})
moves_fit s day action = refuse_if (nat_lt s.moves_limit (count_after s day action)) MovesFull

-- an accepted command stays accepted if its moves fit
abbrev pub fitting : State → DayValue → Action → Answer → Told Answer
fitting s day action (Already number) = Ok (Already number)
fitting s day action Accepted = moves_fit s day action >>= λ _. Ok Accepted

-- the verdict on a command
abbrev pub verdict : State → Command → Told Answer
verdict s c = judged s c.day c.action >>= fitting s c.day c.action
