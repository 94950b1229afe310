-- The index of a package's steps (ours): the first step to each version, and the steps that start there.
use Rattle.std.specs.Prelude.{◌≡◌, ℕ, ◌<◌, cond, List, [], Option, Some, None, map, get_or, length}
use Rattle.std.specs.Prelude.{Vec}
use Rattle.std.specs.List.{All, Contains}
use Rattle.std.specs.declared.alloc.Global.{Global}
use Rattle.vet_base.specs.Version.{VersionValue}
use Rattle.vet_base.specs.VersionOrder.{version_eq}
use Rattle.vet_graph.specs.declared.guarded.GuardedStep.{GuardedStep}
use Rattle.vet_graph.specs.declared.links.Links.{Links}
use Rattle.vet_graph.specs.Search.{no_step, version_at}

-- the version at which the step at a place starts, if it does not start from nothing
abbrev pub origin_at : List GuardedStep → ℕ → Option VersionValue
origin_at guarded place = (get_or guarded place no_step).step.origin

-- the items of some lists
abbrev pub lists_in : List (Vec ℕ Global) → List (List ℕ)
lists_in lists = map (λ l. l.items) lists

-- among the first n steps, those that lead to one version have the same head, which leads there too, and by which the
-- version is known
pub record AreHeads (guarded : List GuardedStep) (numbers : VersionValue → Option ℕ) (heads : List ℕ)
    (n : ℕ) : Type 0 where
  pub count : length heads ≡ n
  pub known : (p : ℕ) → p < n → numbers (version_at guarded p) ≡ Some (get_or heads p 0)
  pub named : (v : VersionValue) (h : ℕ) → numbers v ≡ Some h → (h < n) × (version_at guarded h ≡ v)

-- a version is known by this number, and all others as before
abbrev pub Knows : VersionValue → ℕ → (VersionValue → Option ℕ) → (VersionValue → Option ℕ) → Type 0
Knows v number old new = (w : VersionValue) → new w ≡ cond (version_eq v w) (Some number) (old w)

-- these are the places of those of the first n steps that start here
pub record AreFrom (guarded : List GuardedStep) (from : Option VersionValue) (n : ℕ) (places : List ℕ) : Type 0 where
  pub only : All (λ p. (p < n) × (origin_at guarded p ≡ from)) places
  pub each : (p : ℕ) → p < n → origin_at guarded p ≡ from → Contains places p

-- the first n steps are filed under their start: nothing, or the head of a version
pub record AreFiled (guarded : List GuardedStep) (heads : List ℕ) (first : List ℕ) (after : List (List ℕ))
    (n : ℕ) : Type 0 where
  pub count : length after ≡ length guarded
  pub from_nothing : AreFrom guarded None n first
  pub from_heads : (h : ℕ) → h < length guarded → get_or heads h 0 ≡ h → AreFrom guarded (Some (version_at guarded h)) n
      (get_or after h [])

-- the links of these steps
pub record IsLinked (guarded : List GuardedStep) (links : Links) : Type 0 where
  pub count : length links.heads.items ≡ length guarded
  pub within : (p : ℕ) → p < length guarded → get_or links.heads.items p 0 < length guarded
  pub leads : (p : ℕ) → p < length guarded → version_at guarded (get_or links.heads.items p 0) ≡ version_at guarded p
  pub same : (p q : ℕ) → p < length guarded → q < length guarded → version_at guarded p ≡ version_at guarded q
      → get_or links.heads.items p 0 ≡ get_or links.heads.items q 0
  pub filed : AreFiled guarded links.heads.items links.first.items (lists_in links.after.items) (length guarded)
