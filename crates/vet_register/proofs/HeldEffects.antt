-- What a command that is accepted leaves of policies and projects is sound, and so all that is held then.
use Rattle.std.proofs.Common.{◌≡◌, ℕ, ◌+◌, ◌&&◌, true, not, is_none, is_some, List, length, Option, Some, None, Ok}
use Rattle.std.proofs.Common.{refl, sym, subst, arith}
use Rattle.std.specs.Cmp.Lexicographic.{nat_list_cmp_total}
use Rattle.std.specs.Prelude.{nat_lt}
use Rattle.vet_base.specs.declared.limits.TheConstants.{MOST_POLICIES, MOST_PROJECTS}
use Rattle.vet_base.specs.declared.refusal.Limit.TheVariants as limit
use Rattle.vet_base.specs.declared.refusal.Refusal.TheVariants.{TooLarge, UnknownPolicy, UnknownProject}
use Rattle.vet_base.specs.Criteria.{Criteria, IsTable, least_unknown}
use Rattle.vet_base.specs.Day.{DayValue}
use Rattle.vet_base.specs.Keyed.{is_of}
use Rattle.vet_base.proofs.KeyedLemmas.{IsByKey-with_item}
use Rattle.vet_base.proofs.KeyedParts.{IsByKey-without_item}
use Rattle.vet_base.proofs.Rising.{R, only_equal}
use Rattle.vet_base.proofs.Telling.{all_known, not_refused, then_told}
use Rattle.vet_demand.specs.declared.policy_key.PolicyKey.{PolicyKey}
use Rattle.vet_demand.specs.NamedProject.{project_name}
use Rattle.vet_demand.specs.Policies.{key_of}
use Rattle.vet_demand.specs.PolicyKey.{policy_key_cmp}
use Rattle.vet_demand.specs.PolicyKeyLaws.{policy_key_cmp-IsAntisymmetric, policy_key_total}
use Rattle.vet_demand.specs.PolicyNames.{names_in}
use Rattle.vet_demand.proofs.Naming.{known_by_fewer, known_by_more, known_with, known_without}
use Rattle.vet_entries.specs.declared.entry.Entry.{Entry}
use Rattle.vet_entries.specs.Facts.{Facts}
use Rattle.vet_register.specs.declared.command.Action.{Action}
use Rattle.vet_register.specs.declared.command.Action.TheVariants.{SetCriterion, RemoveCriterion, AddEntry, DropEntry}
use Rattle.vet_register.specs.declared.command.Action.TheVariants.{SetPeer, DropPeer, ImportPeer, SetPublishers}
use Rattle.vet_register.specs.declared.command.Action.TheVariants.{SetPolicy, DropPolicy, LoadProject, DropProject}
use Rattle.vet_register.specs.declared.command.Action.TheVariants.{ReplaceFiles, Desk, ClosePeriod, SetDay}
use Rattle.vet_register.specs.declared.verdict.Answer.TheVariants.{Accepted}
use Rattle.vet_register.specs.Held.{policy_at, project_at}
use Rattle.vet_register.specs.AtDesk.{added_by}
use Rattle.vet_register.specs.Machine.{facts_after, held_after, number_after, policies_by, projects_by, with_entry}
use Rattle.vet_register.specs.Sound.{ArePolicies, AreProjects, ArePublishers, IsSound, IsSoundHeld}
use Rattle.vet_register.specs.State.{State}
use Rattle.vet_register.specs.Verdict.{judged, policy_limit, project_limit, step_limit}
use Rattle.vet_register.proofs.Effects.{IsGivenContent, Passed, passed, sound_effect}
use Rattle.vet_register.proofs.Fewness.{few_with}
use Rattle.vet_register.proofs.FilesPassed.{files_fit, files_know, files_policies_known}
use Rattle.vet_register.proofs.Known.{unused}
use Rattle.vet_register.proofs.Lists.{filter-fewer, some_item}

-- an own entry more leaves the criteria
pub same_criteria : (n : ℕ) (o : Option Entry) (facts : Facts) → (with_entry n o facts).criteria ≡ facts.criteria
same_criteria n None facts = refl
same_criteria n (Some e) facts = refl

-- and publisher records
pub same_publishers : (n : ℕ) (o : Option Entry) (facts : Facts) → (with_entry n o facts).publishers ≡ facts.publishers
same_publishers n None facts = refl
same_publishers n (Some e) facts = refl

-- the policies after a command
policies_after : (s : State) (day : DayValue) (a : Action) → Passed s day a → IsGivenContent a → ArePolicies
    s.held.facts.criteria s.held.policies
    → ArePolicies (facts_after s day a).criteria (policies_by a s.held.policies)
policies_after s day (SetCriterion c) p given h = record
    { by_key = h.by_key; known = known_by_more s.held.facts.criteria s.held.policies h.known c.name c; few = h.few }
policies_after s day (RemoveCriterion n) p given h =
    record {
      by_key = h.by_key;
      known = known_by_fewer s.held.facts.criteria s.held.policies h.known n
          (unused s day n p.rules).policies;
      few = h.few;
    }
policies_after s day (AddEntry e) p given h = h
policies_after s day (DropEntry n) p given h = h
policies_after s day (SetPeer settings) p given h = h
policies_after s day (DropPeer n) p given h = h
policies_after s day (ImportPeer n content) p given h = h
policies_after s day (SetPublishers n records) p given h = h
policies_after s day (SetPolicy policy) p given h =
    let l = then_told (policy_limit s policy.key) (λ _. step_limit s) tt p.limits in
    record {
      by_key = IsByKey-with_item policy_key_cmp policy_key_total policy_key_cmp-IsAntisymmetric key_of s.held.policies
          policy h.by_key;
      known = known_with s.held.facts.criteria s.held.policies h.known policy
          (all_known (least_unknown s.held.facts.criteria (names_in policy.policy)) p.references);
      few = few_with policy_key_cmp policy_key_total policy_key_cmp-IsAntisymmetric key_of MOST_POLICIES
          s.held.policies policy h.by_key h.few
          (not_refused (is_none (policy_at s.held.policies policy.key) && nat_lt MOST_POLICIES
          (length s.held.policies + 1)) (TooLarge limit.Policies) l.0);
    }
policies_after s day (DropPolicy key) p given h = record {
  by_key = IsByKey-without_item policy_key_cmp key_of s.held.policies key h.by_key;
  known = known_without s.held.facts.criteria s.held.policies h.known key;
  few = omega (arith, filter-fewer (λ e. not (is_of policy_key_cmp key_of key e)) s.held.policies, h.few);
}
policies_after s day (LoadProject project) p given h = h
policies_after s day (DropProject n) p given h = h
policies_after s day (ReplaceFiles f) p given h =
    record {
      by_key = given.policies_by_key;
      known = files_policies_known f (files_know f p.references);
      few =
          (files_fit s f p.limits).policies;
    }
policies_after s day (Desk command) p given h =
    subst (λ (t : Criteria). ArePolicies t s.held.policies)
    (sym (same_criteria s.next_entry (added_by s command) s.held.facts)) h
policies_after s day ClosePeriod p given h = h
policies_after s day SetDay p given h = h

-- the projects after a command
projects_after : (s : State) (day : DayValue) (a : Action) → Passed s day a → AreProjects s.held.projects →
    AreProjects (projects_by a s.held.projects)
projects_after s day (SetCriterion c) p h = h
projects_after s day (RemoveCriterion n) p h = h
projects_after s day (AddEntry e) p h = h
projects_after s day (DropEntry n) p h = h
projects_after s day (SetPeer settings) p h = h
projects_after s day (DropPeer n) p h = h
projects_after s day (ImportPeer n content) p h = h
projects_after s day (SetPublishers n records) p h = h
projects_after s day (SetPolicy policy) p h = h
projects_after s day (DropPolicy key) p h = h
projects_after s day (LoadProject project) p h =
    let l = then_told (project_limit s project.name) (λ _. step_limit s) tt p.limits in
    record {
      by_name = IsByKey-with_item R nat_list_cmp_total only_equal project_name s.held.projects project h.by_name;
      few = few_with R nat_list_cmp_total only_equal project_name MOST_PROJECTS s.held.projects project h.by_name h.few
          (not_refused (is_none (project_at s.held.projects project.name) && nat_lt MOST_PROJECTS
          (length s.held.projects + 1)) (TooLarge limit.Projects) l.0);
    }
projects_after s day (DropProject n) p h = record {
  by_name = IsByKey-without_item R project_name s.held.projects n h.by_name;
  few = omega (arith, filter-fewer (λ e. not (is_of R project_name n e)) s.held.projects, h.few);
}
projects_after s day (ReplaceFiles f) p h = h
projects_after s day (Desk command) p h = h
projects_after s day ClosePeriod p h = h
projects_after s day SetDay p h = h

-- all that is held after a command, if its criteria and its publisher records are sound, and what is imported is
-- what a reader gives
pub sound_held : (s : State) (day : DayValue) (a : Action) → judged s day a ≡ Ok Accepted → IsSound s → IsGivenContent a
    → IsTable (facts_after s day a).criteria → ArePublishers (facts_after s day a).publishers
    → IsSoundHeld (held_after s day a) (number_after s a)
sound_held s day a told h given is are =
    let p = passed s day a told in
    record {
      facts = sound_effect s day a told h.held.facts h.desk.known given is are;
      policies = policies_after s day a p given h.held.policies;
      projects = projects_after s day a p h.held.projects;
    }

-- a policy that is dropped is held, and so is a project
pub policy_held : (s : State) (day : DayValue) (key : PolicyKey) → judged s day (DropPolicy key) ≡ Ok Accepted →
    is_some (policy_at s.held.policies key) ≡ true
policy_held s day key told =
    some_item (policy_at s.held.policies key)
    (not_refused (is_none (policy_at s.held.policies key)) UnknownPolicy
    (passed s day (DropPolicy key) told).references)

pub project_held : (s : State) (day : DayValue) (name : List ℕ) → judged s day (DropProject name) ≡ Ok Accepted →
    is_some (project_at s.held.projects name) ≡ true
project_held s day name told =
    some_item (project_at s.held.projects name)
    (not_refused (is_none (project_at s.held.projects name)) UnknownProject
    (passed s day (DropProject name) told).references)
