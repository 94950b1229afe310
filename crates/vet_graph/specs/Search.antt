-- The answer of a search for chains (ours).
use Rattle.std.specs.Prelude.{◌≡◌, ℕ, Bool, true, false, not, ◌&&◌, List, [], None, map, get_or}
use Rattle.std.specs.List.{All, Contains}
use Rattle.std.specs.FinSet as set
use Rattle.vet_base.specs.CriteriaSet.{has, Places}
use Rattle.vet_base.specs.Version.{VersionValue}
use Rattle.vet_base.specs.VersionOrder.{version_eq}
use Rattle.vet_entries.specs.declared.step.Step.{Step}
use Rattle.vet_graph.specs.declared.guarded.GuardedStep.{GuardedStep}
use Rattle.vet_graph.specs.declared.skip.Skip.{Skip}
use Rattle.vet_graph.specs.declared.skip.Skip.TheVariants.{Nothing, Exempt, ExemptTo}
use Rattle.vet_graph.specs.declared.search.Terms.{Terms}
use Rattle.vet_graph.specs.Chain.{Condemned, IsChain}

-- the steps without their guards
abbrev pub steps_in : List GuardedStep → List Step
steps_in guarded = map (λ g. g.step) guarded

-- each step carries the criteria for which its target is condemned
abbrev pub AreGuarded : Condemned → List GuardedStep → Type 0
AreGuarded condemned guarded = All (λ g. (c : ℕ) → has c g.condemned ≡ condemned c g.step.target) guarded

-- each step carries whether its target is condemned for c
abbrev pub AreGuardedAt : ℕ → Condemned → List GuardedStep → Type 0
AreGuardedAt c condemned guarded = All (λ g. has c g.condemned ≡ condemned c g.step.target) guarded

-- these versions are condemned for c as the steps carry it, and v exactly if c is among these places
abbrev pub Agrees : List GuardedStep → Places → ℕ → VersionValue → Condemned → Type 0
Agrees guarded places c v condemned = AreGuardedAt c condemned guarded × (has c places ≡ condemned c v)

-- whether a search takes a step, if it skips these
abbrev pub may_take : Skip → Step → Bool
may_take Nothing s = true
may_take Exempt s = not s.exempt
may_take (ExemptTo v) s = not (s.exempt && version_eq s.target v.now)

-- whether a step leads to a version that is barred
abbrev pub is_barred : Terms → GuardedStep → Bool
is_barred terms g = terms.barred && has terms.place g.condemned

-- whether a search on these terms takes a step
abbrev pub is_open : Terms → GuardedStep → Bool
is_open terms g = has terms.place g.step.criteria && (not (is_barred terms g) && may_take terms.skip g.step)

-- a chain leads to v, by steps that are not skipped and through no version that is barred
abbrev pub IsReached : List GuardedStep → Terms → VersionValue → Type 0
IsReached guarded terms v =
    (chain : List GuardedStep) × All (Contains guarded) chain × IsChain (steps_in guarded) terms.place v
    (steps_in chain)
    × All (λ g. is_barred terms g ≡ false) chain × All (λ g. may_take terms.skip g.step ≡ true) chain

-- the step that a read past the end would give
abbrev pub no_step : GuardedStep
no_step = record {
  step =
      record {
        origin = None;
        target = record { parts = (0, 0, 0, [], []); revision = None };
        criteria = set.empty;
        exempt = false;
      };
  condemned = set.empty;
}

-- the version to which the step at a place leads
abbrev pub version_at : List GuardedStep → ℕ → VersionValue
version_at guarded place = (get_or guarded place no_step).step.target

-- the versions to which the steps at some places lead
abbrev pub versions_at : List GuardedStep → List ℕ → List VersionValue
versions_at guarded places = map (version_at guarded) places
