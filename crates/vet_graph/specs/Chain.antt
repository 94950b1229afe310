-- Chains of steps to a version (ours; in outline The Cargo Vet Book, on audit entries).
use Rattle.std.specs.Prelude.{◌≡◌, ◌≢◌, ℕ, Bool, true, false, List, [], ◌∷◌, ◌++◌, Option, Some, None}
use Rattle.std.specs.List.{All, AllPairs, Contains}
use Rattle.vet_base.specs.CriteriaSet.{has}
use Rattle.vet_base.specs.Version.{VersionValue}
use Rattle.vet_entries.specs.declared.step.Step.{Step}

-- the versions that are condemned for each criterion
abbrev pub Condemned : Type 0
Condemned = ℕ → VersionValue → Bool

-- the steps lead from this version, or from nothing, to v, each from where the one before it arrived
abbrev pub Leads : Option VersionValue → List Step → VersionValue → Type 0
Leads at [] v = at ≡ Some v
Leads at (s ∷ rest) v = (s.origin ≡ at) × Leads (Some s.target) rest v

-- a chain for criterion c to version v: its first step is from nothing, and no version is arrived at twice
pub record IsChain (steps : List Step) (c : ℕ) (v : VersionValue) (chain : List Step) : Type 0 where
  pub of_package : All (Contains steps) chain
  pub for_criterion : All (λ s. has c s.criteria ≡ true) chain
  pub leads : Leads None chain v
  pub once : AllPairs (λ s t. s.target ≢ t.target) chain

-- a clean chain arrives at no version that is condemned for c
abbrev pub IsClean : Condemned → ℕ → List Step → Type 0
IsClean condemned c chain = All (λ s. condemned c s.target ≡ false) chain

-- no step of the chain is exempt
abbrev pub HasNoExempt : List Step → Type 0
HasNoExempt chain = All (λ s. s.exempt ≡ false) chain

-- the last step of the chain is not exempt
abbrev pub EndsReviewed : List Step → Type 0
EndsReviewed chain = (front : List Step) × (s : Step) × (chain ≡ front ++ s ∷ []) × (s.exempt ≡ false)

-- any chain
abbrev pub IsAny : List Step → Type 0
IsAny chain = Unit {0}

-- some chain for c leads to v
abbrev pub HasChain : List Step → ℕ → VersionValue → Type 0
HasChain steps c v = (chain : List Step) × IsChain steps c v chain

-- some clean chain for c with this property leads to v
abbrev pub HasCleanChain : List Step → Condemned → ℕ → VersionValue → (List Step → Type 0) → Type 0
HasCleanChain steps condemned c v P = (chain : List Step) × IsChain steps c v chain × IsClean condemned c chain
    × P chain
