-- What a keeper holds that finds the classes of touched packages alone, and what it plans (ours).
use Rattle.std.specs.Prelude.{◌≡◌, ◌+◌, ◌-◌, ◌^◌, ℕ, Bool, false, true, IfSome, IsSomeAnd, List, [], Option, Some, None}
use Rattle.std.specs.Prelude.{map, min}
use Rattle.std.specs.Option.{option_or}
use Rattle.std.specs.FinSet as set
use Rattle.std.specs.List.{All as each, sum_by}
use Rattle.vet_base.specs.Names.{IsRising, NameSet}
use Rattle.vet_base.specs.Words.{Name}
use Rattle.vet_demand.specs.declared.pair.Pair.{Pair}
use Rattle.vet_demand.specs.Pair.{IsInOrder}
use Rattle.vet_entries.specs.Facts.{Facts}
use Rattle.vet_entries.specs.Step.{steps_of}
use Rattle.vet_graph.specs.Standing.{counts_of}
use Rattle.vet_graph.specs.StandingOf.{condemned_of, standing_of}
use Rattle.vet_graph.specs.Touched.{pairs_at}
use Rattle.vet_graph.specs.declared.standing.Stand.{Stand}
use Rattle.vet_graph.specs.declared.touched.Touched.{Touched}
use Rattle.vet_graph.specs.declared.touched.Touched.TheVariants.{All, Packages}
use Rattle.vet_masks.specs.Kept.{IsGrown, stands_by}
use Rattle.vet_masks.specs.Packages.{IsKeptOf, has_kept_slot, is_changed, kept_at}
use Rattle.vet_masks.specs.Standings.{AreByPackage, all_stands, changes_in, has_slot}
use Rattle.vet_masks.specs.Standings.{moves_of_packages, stands_at}
use Rattle.vet_masks.specs.declared.changes.Changes.{Changes}
use Rattle.vet_masks.specs.declared.keeper.MaskKeeper.{MaskKeeper}
use Rattle.vet_masks.specs.declared.keeper.MaskUpdate.{MaskUpdate}
use Rattle.vet_masks.specs.declared.kept.KeptPackage.{KeptPackage}
use Rattle.vet_masks.specs.declared.packages.KeptChange.{KeptChange}

-- the demanded pairs of a package with their classes, by these facts
abbrev pub stands_of : Facts → List Pair → Name → List Stand
stands_of facts demand name =
    stands_by facts.criteria (steps_of facts name) (condemned_of facts name) (pairs_at name demand)

-- a keeper holds what some facts and a demand give: the standing, the table of criteria unless nothing was applied yet,
-- and what is kept of each package that has a step, and of others
pub record Holds (k : MaskKeeper) (facts : Facts) (demand : List Pair) : Type 0 where
  pub standing : all_stands k.standing ≡ standing_of facts demand
  pub criteria : IfSome k.criteria (λ table. table ≡ facts.criteria)
  pub kept : (name : Name) → IfSome (kept_at k.packages name) (IsKeptOf facts name)
  pub steps : (name : Name) → kept_at k.packages name ≡ None → steps_of facts name ≡ []

-- and so of one package
pub record HoldsAt (k : MaskKeeper) (facts : Facts) (demand : List Pair) (name : Name) : Type 0 where
  pub stands : stands_at k.standing name ≡ stands_of facts demand name
  pub kept : IfSome (kept_at k.packages name) (IsKeptOf facts name)
  pub steps : kept_at k.packages name ≡ None → steps_of facts name ≡ []

-- a keeper is as it was, with room for as many packages or more
pub record IsSameWithRoom (old new : MaskKeeper) : Type 0 where
  pub standing : all_stands new.standing ≡ all_stands old.standing
  pub stands : (name : Name) → stands_at new.standing name ≡ stands_at old.standing name
  pub kept : (name : Name) → kept_at new.packages name ≡ kept_at old.packages name
  pub criteria : new.criteria ≡ old.criteria
  pub looks : new.looks ≡ old.looks
  pub slots : (name : Name) → has_slot old.standing name ≡ true → has_slot new.standing name ≡ true
  pub kept_slots : (name : Name) → has_kept_slot old.packages name ≡ true → has_kept_slot new.packages name ≡ true

-- ---- looks

-- how many looks were made at a package's steps, since what was found of it was last found anew
abbrev pub looks_of : Option KeptPackage → ℕ
looks_of None = 0
looks_of (Some k) = k.classes.looks.count

-- a package has grown since the last plan that was applied
abbrev pub HasGrown : MaskKeeper → Facts → Name → Type 0
HasGrown k facts name = (k.criteria ≡ Some facts.criteria)
    × IsSomeAnd (kept_at k.packages name) (IsGrown (steps_of facts name) (condemned_of facts name))

-- so many looks were made for what is kept of a package: those by which its count rises where it has grown, and
-- otherwise all of them
pub record IsSpent (k : MaskKeeper) (facts : Facts) (c : KeptChange) : Type 0 where
  pub grown : HasGrown k facts c.«package»
      → looks_of (kept_at k.packages c.«package») + c.looks ≡ c.kept.classes.looks.count
  pub anew : ¬ HasGrown k facts c.«package» → c.looks ≡ c.kept.classes.looks.count

-- how many looks were made for changes, up to the end of their type
abbrev pub looks_spent : List KeptChange → ℕ
looks_spent changes = min (sum_by (λ c. c.looks) changes) (2 ^ 128 - 1)

-- ---- what is planned

-- these are changes of packages of these names, from what a keeper holds to what some facts and a demand give
pub record AreChanges (k : MaskKeeper) (facts : Facts) (demand : List Pair) (names : List Name)
    (changes : Changes) : Type 0 where
  pub named : map (λ c. c.«package») changes.stands.items ≡ names
  pub stands : each (λ c. c.stands.items ≡ stands_of facts demand c.«package») changes.stands.items
  pub kept_named : map (λ c. c.«package») changes.kept.items ≡ names
  pub kept : each (λ c. IsKeptOf facts c.«package» c.kept) changes.kept.items
  pub spent : each (IsSpent k facts) changes.kept.items
  pub looks : changes.looks ≡ looks_spent changes.kept.items
  pub moves : changes.moves.items ≡ moves_of_packages k.standing (changes_in changes.stands.items)

-- a keeper has a slot for each package that changes, in its standing and in what it keeps
pub record HasRoomFor (k : MaskKeeper) (changes : Changes) : Type 0 where
  pub standing : each (λ c. has_slot k.standing c.«package» ≡ true) changes.stands.items
  pub kept : each (λ c. has_kept_slot k.packages c.«package» ≡ true) changes.kept.items

-- a keeper planned an update: what changes is as these facts and this demand give it, what doesn't change is so
-- already, and there is room
pub record IsPlanned (k : MaskKeeper) (u : MaskUpdate) (facts : Facts) (demand : List Pair) : Type 0 where
  pub in_order : IsInOrder demand
  pub room : HasRoomFor k u.changes
  pub by_package : AreByPackage (changes_in u.changes.stands.items)
  pub stands : each (λ c. c.stands.items ≡ stands_of facts demand c.«package») u.changes.stands.items
  pub stands_beside : (name : Name) → has_slot (changes_in u.changes.stands.items) name ≡ false
      → stands_at k.standing name ≡ stands_of facts demand name
  pub criteria : option_or u.criteria k.criteria ≡ Some facts.criteria
  pub kept : each (λ c. IsKeptOf facts c.«package» c.kept) u.changes.kept.items
  pub kept_beside : (name : Name) → is_changed u.changes.kept.items name ≡ false
      → IfSome (kept_at k.packages name) (IsKeptOf facts name)
  pub steps_beside : (name : Name) → is_changed u.changes.kept.items name ≡ false
      → kept_at k.packages name ≡ None → steps_of facts name ≡ []
  pub looks : u.changes.looks ≡ looks_spent u.changes.kept.items
  pub counts : u.counts ≡ counts_of (standing_of facts demand)

-- names are those that are touched, where not all are
abbrev pub IsOfTouched : Touched → NameSet → Type 0
IsOfTouched All names = Unit {0}
IsOfTouched (Packages touched) names = names ≡ touched

-- whether a package is one of those that an update changes: where some are touched, one of these
abbrev pub IsAmongTouched : Touched → Name → Bool → Type 0
IsAmongTouched All name changes = Unit {0}
IsAmongTouched (Packages names) name changes = changes ≡ set.contains names name

-- what an update spends: for each package that is touched, once, the looks that were made for it
pub record Spends (k : MaskKeeper) (u : MaskUpdate) (facts : Facts) (touched : Touched) : Type 0 where
  pub each : each (IsSpent k facts) u.changes.kept.items
  pub once : IsRising (map (λ c. c.«package») u.changes.kept.items)
  pub among : (name : Name) → IsAmongTouched touched name (is_changed u.changes.kept.items name)
