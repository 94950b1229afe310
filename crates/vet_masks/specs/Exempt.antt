-- The versions to which exempt steps lead (ours).
use Rattle.std.specs.Prelude.{◌≡◌, ◌&&◌, ◌==◌, ℕ, suc, Bool, not, cond, List, [], ◌∷◌, ◌++◌, Option, Some, None}
use Rattle.std.specs.Prelude.{get_or, length, option_map}
use Rattle.std.specs.List.{list_any}
use Rattle.vet_masks.specs.declared.exempt.ExemptNumbers.{ExemptNumbers}
use Rattle.vet_masks.specs.declared.index.Ends.{Ends}

-- whether a version is one of some, by their numbers
abbrev pub is_in : ℕ → List ℕ → Bool
is_in n versions = list_any (λ m. m == n) versions

-- these versions, and the one to which a step leads, where it is exempt and the version isn't there yet
abbrev pub with_target : List ℕ → Ends → List ℕ
with_target versions e = cond (e.exempt && not (is_in e.target versions)) (versions ++ e.target ∷ []) versions

-- these versions, and those to which exempt steps lead, in the order of the first such step to each
unfoldable pub exempt_behind : List ℕ → List Ends → List ℕ
exempt_behind versions [] = versions
exempt_behind versions (e ∷ rest) = exempt_behind (with_target versions e) rest

abbrev pub exempt_versions : List Ends → List ℕ
exempt_versions ends = exempt_behind [] ends

-- the place of a version among some
unfoldable pub place_in : ℕ → List ℕ → Option ℕ
place_in n [] = None
place_in n (m ∷ rest) = cond (m == n) (Some 0) (option_map suc (place_in n rest))

-- each version's number is its place among those to which exempt steps lead
pub record AreExemptNumbers (ends : List Ends) (e : ExemptNumbers) : Type 0 where
  pub count : e.count ≡ length (exempt_versions ends)
  pub numbers : (n : ℕ) → get_or e.numbers.items n None ≡ place_in n (exempt_versions ends)
