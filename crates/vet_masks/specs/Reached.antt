-- What the answer of a search is (ours).
use Rattle.std.specs.Prelude.{◌≡◌, ℕ, zero, suc, ◌+◌, ◌≤◌, Bool, cond, List, length}
use Rattle.std.specs.List.{All}
use Rattle.vet_base.specs.declared.limits.TheConstants.{MOST_CRITERIA as most}
use Rattle.vet_entries.specs.declared.step.Step.{Step}
use Rattle.vet_graph.specs.Chain.{Condemned}
use Rattle.vet_masks.specs.declared.search.Reached.{Reached}
use Rattle.vet_masks.specs.Index.{IsIndex, is_used}
use Rattle.vet_masks.specs.Masks.{IsReaching, is_open, numbered_by, size, spent}

-- how many of the first n criteria some step has
unfoldable pub used_below : ℕ → List Step → ℕ
used_below zero steps = 0
used_below (suc n) steps = used_below n steps + cond (is_used steps n) 1 0

-- these criteria were reached at each version, as chains of these steps lead there through no barred version, by steps
-- that are taken; and so many looks were made for it, at most
pub record IsAnswer (steps : List Step) (bar : Condemned) (taken : Step → Bool) (r : Reached) : Type 0 where
  pub index : IsIndex steps r.index
  pub count : length r.held.items ≡ length r.index.after.items
  pub reaches : IsReaching (numbered_by r.index steps) (is_open bar taken) (length steps) r.held.items
  pub looks : r.looks ≤ length steps + spent (size most r.index.used) r.held.items r.index.ends.items

-- the versions to which steps lead are barred alike
abbrev pub AreBarredAlike : List Step → Condemned → Condemned → Type 0
AreBarredAlike steps bar other = All (λ s. (c : ℕ) → bar c s.target ≡ other c s.target) steps

-- steps are taken alike
abbrev pub AreTakenAlike : List Step → (Step → Bool) → (Step → Bool) → Type 0
AreTakenAlike steps taken other = All (λ s. taken s ≡ other s) steps
