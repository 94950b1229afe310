-- What a search by masks keeps while it goes on (ours).
use Rattle.std.specs.Prelude.{◌≡◌, ◌≢◌, ℕ, zero, suc, ◌+◌, ◌<◌, ◌≤◌, Bool, true, false, not, ◌&&◌, cond, List, [], ◌∷◌}
use Rattle.std.specs.Prelude.{Option, Some, None}
use Rattle.std.specs.Prelude.{get_or, length, map, option_map}
use Rattle.std.specs.BTreeMap.{get}
use Rattle.std.specs.List.{All, AllPairs, Contains}
use Rattle.std.specs.FinSet as set
use Rattle.vet_base.specs.CriteriaSet.{has, Places}
use Rattle.vet_base.specs.VersionOrder.{version_cmp}
use Rattle.vet_base.specs.declared.limits.TheConstants.{MOST_CRITERIA as most}
use Rattle.vet_entries.specs.declared.step.Step.{Step}
use Rattle.vet_graph.specs.Chain.{Condemned}
use Rattle.vet_masks.specs.declared.index.Ends.{Ends}
use Rattle.vet_masks.specs.declared.index.Index.{Index}
use Rattle.vet_masks.specs.declared.masks.Added.{Added}
use Rattle.vet_masks.specs.declared.masks.Masks.{Masks}
use Rattle.vet_masks.specs.declared.masks.Terms.{Terms}
use Rattle.vet_masks.specs.Index.{IsIndex, Numbers, number_of}

-- a step with the numbers of the versions between which it leads
pub record Numbered : Type 0 where
  pub origin : Option ℕ
  pub target : ℕ
  pub step : Step

abbrev pub numbered : Numbers → Step → Numbered
numbered numbers s =
    record { origin = option_map (number_of numbers) s.origin; target = number_of numbers s.target; step = s }

abbrev pub numbered_by : Index → List Step → List Numbered
numbered_by index steps = map (numbered (get version_cmp index.numbers)) steps

-- what a read past the end would give
abbrev pub no_step : Numbered
no_step = record {
  origin = None;
  target = 0;
  step =
      record {
        origin = None;
        target = record { parts = (0, 0, 0, [], []); revision = None };
        criteria = set.empty;
        exempt = false;
      };
}

-- where the step at a place starts
abbrev pub origin_at : List Numbered → ℕ → Option ℕ
origin_at steps place = (get_or steps place no_step).origin

-- whether a search takes a step for a criterion
abbrev pub Open : Type 0
Open = ℕ → Numbered → Bool

-- it vouches for it, leads to no version that is barred for it, and isn't skipped
abbrev pub is_open : Condemned → (Step → Bool) → Open
is_open bar taken c s = has c s.step.criteria && (not (bar c s.step.target) && taken s.step)

-- the criteria for which each version is barred, by its number
abbrev pub bars_at : Index → List Places → Condemned
bars_at index bars c v = has c (get_or bars (number_of (get version_cmp index.numbers) v) set.empty)

-- whether a search takes a step, by whether exempt steps to each version are skipped
abbrev pub is_taken_at : Index → List Bool → Step → Bool
is_taken_at index skipped s =
    not (s.exempt && get_or skipped (number_of (get version_cmp index.numbers) s.target) false)

-- which steps a search takes on these terms
abbrev pub open_by : Index → Terms → Open
open_by index terms = is_open (bars_at index terms.bars.now) (is_taken_at index terms.skipped.now)

-- the steps lead from where one stands to the version of number v
abbrev pub Leads : Option ℕ → List Numbered → ℕ → Type 0
Leads at [] v = at ≡ Some v
Leads at (s ∷ rest) v = (s.origin ≡ at) × Leads (Some s.target) rest v

-- a chain of open steps
pub record IsOpenChain (steps : List Numbered) (open_step : Numbered → Bool) (v : ℕ) (chain : List Numbered)
    : Type 0 where
  pub of_package : All (Contains steps) chain
  pub each_open : All (λ s. open_step s ≡ true) chain
  pub leads : Leads None chain v
  pub once : AllPairs (λ s t. s.target ≢ t.target) chain

-- whether a version holds a criterion
abbrev pub reached : List Places → ℕ → ℕ → Bool
reached held c n = has c (get_or held n set.empty)

-- one may go on from here: from nothing, or from a version that was reached
abbrev pub Stands : (ℕ → Bool) → Option ℕ → Type 0
Stands r None = Unit {0}
Stands r (Some v) = r v ≡ true

-- each version that was reached has a chain within what was reached
abbrev pub IsSound : List Numbered → (Numbered → Bool) → (ℕ → Bool) → Type 0
IsSound steps open_step r = (v : ℕ) → r v ≡ true
    → (chain : List Numbered) × IsOpenChain steps open_step v chain × All (λ s. r s.target ≡ true) chain

-- a step adds this of what its origin passes on
pub record IsAdded (open_step : Open) (given : Places) (a : Added) (s : Numbered) : Type 0 where
  pub target : s.target ≡ a.target
  pub criteria : (c : ℕ) → has c a.criteria ≡ (has c given && open_step c s)

-- how many of the first n criteria are in a set
unfoldable pub size : ℕ → Places → ℕ
size zero s = 0
size (suc n) s = size n s + cond (has n s) 1 0

-- how many criteria all versions have together
unfoldable pub filled : List Places → ℕ
filled [] = 0
filled (s ∷ rest) = size most s + filled rest

-- how often a step was looked at that starts here: as often as criteria were passed on there, or u times
abbrev pub paid : ℕ → List Places → Option ℕ → ℕ
paid u passed None = u
paid u passed (Some n) = size most (get_or passed n set.empty)

-- what is passed on along a step that starts here: what was passed on from there, or all that some step has
abbrev pub given_by : Places → List Places → Option ℕ → Places
given_by used passed None = used
given_by used passed (Some n) = get_or passed n set.empty

-- what was looked at, all together
unfoldable pub spent : ℕ → List Places → List Ends → ℕ
spent u passed [] = 0
spent u passed (e ∷ rest) = paid u passed e.origin + spent u passed rest

-- where the step at a place is open for c, it leads to what was reached
abbrev pub LeadsOn : List Numbered → Open → List Places → ℕ → ℕ → Type 0
LeadsOn steps open_step held c p = open_step c (get_or steps p no_step) ≡ true
    → reached held c (get_or steps p no_step).target ≡ true

-- what was passed on leads along each of the first n steps into what was reached
abbrev pub IsDone : List Numbered → Open → List Places → List Places → ℕ → Type 0
IsDone steps open_step held passed n = (c p : ℕ) → p < n → Stands (reached passed c) (origin_at steps p)
    → LeadsOn steps open_step held c p

-- chains of these steps lead to what was reached, and the first n of them lead on to nothing else
pub record IsReaching (steps : List Numbered) (open_step : Open) (n : ℕ) (held : List Places) : Type 0 where
  pub sound : (c : ℕ) → IsSound steps (open_step c) (reached held c)
  pub done : IsDone steps open_step held held n

-- the steps at these places start where one stands for each criterion that is given
abbrev pub AreReady : List Numbered → Places → List Places → List ℕ → Type 0
AreReady steps given held places = All (λ p. (p < length steps)
    × ((c : ℕ) → has c given ≡ true → Stands (reached held c) (origin_at steps p))) places

-- who has not passed all on waits
abbrev pub AreWaiting : List Places → List Places → List ℕ → Type 0
AreWaiting held passed waiting = (n c : ℕ) → reached held c n ≡ true → reached passed c n ≡ false → Contains waiting n

abbrev pub AreWaitingBut : ℕ → List Places → List Places → List ℕ → Type 0
AreWaitingBut from held passed waiting = (n c : ℕ) → reached held c n ≡ true → reached passed c n ≡ false
    → (n ≡ from → ⊥) → Contains waiting n

-- what was reached stays reached
abbrev pub Grows : List Places → List Places → Type 0
Grows old new = (c n : ℕ) → reached old c n ≡ true → reached new c n ≡ true

-- more was reached, nothing was passed on, who gained waits, and a version that waits has more than before
pub record GoesOn (old new : Masks) : Type 0 where
  pub count : length new.held.items ≡ length old.held.items
  pub passed : new.passed.items ≡ old.passed.items
  pub grows : Grows old.held.items new.held.items
  pub waiting : AreWaiting old.held.items old.passed.items old.waiting.items
      → AreWaiting new.held.items new.passed.items new.waiting.items
  pub within : (m : ℕ) → length old.held.items ≡ m → All (λ n. n < m) old.waiting.items
      → All (λ n. n < m) new.waiting.items
  pub room : filled old.held.items + length new.waiting.items ≤ filled new.held.items + length old.waiting.items

-- a search on its way: the steps have this index, each version has its sets, and what was reached has chains
pub record IsSearch (steps : List Step) (index : Index) (terms : Terms) (masks : Masks) : Type 0 where
  pub indexed : IsIndex steps index
  pub bars : length terms.bars.now ≡ length index.after.items
  pub skipped : length terms.skipped.now ≡ length index.after.items
  pub held : length masks.held.items ≡ length index.after.items
  pub passed : length masks.passed.items ≡ length index.after.items
  pub sound : (c : ℕ) → IsSound (numbered_by index steps) (open_by index terms c) (reached masks.held.items c)
  pub within : Grows masks.passed.items masks.held.items

-- what the first n steps passed on leads into what was reached
abbrev pub IsPassing : List Step → Index → Terms → Masks → ℕ → Type 0
IsPassing steps index terms masks n =
    IsDone (numbered_by index steps) (open_by index terms) masks.held.items masks.passed.items n
