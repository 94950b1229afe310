-- What is kept of packages, by name (ours).
use Rattle.std.specs.Prelude.{◌||◌, Bool, false, List, [], ◌∷◌, Option, Some, None, cond, is_some}
use Rattle.std.specs.BTreeMap.{get}
use Rattle.std.specs.Cmp.Lexicographic.{slice_cmp}
use Rattle.std.specs.List.{list_any}
use Rattle.std.specs.Ordering.{eq_by_cmp, nat_cmp}
use Rattle.vet_base.specs.Words.{Name}
use Rattle.vet_entries.specs.Facts.{Facts}
use Rattle.vet_entries.specs.Step.{steps_of}
use Rattle.vet_graph.specs.StandingOf.{condemned_of}
use Rattle.vet_masks.specs.declared.kept.KeptPackage.{KeptPackage}
use Rattle.vet_masks.specs.declared.packages.KeptChange.{KeptChange}
use Rattle.vet_masks.specs.declared.packages.KeptPackages.{KeptPackages}
use Rattle.vet_masks.specs.Kept.{IsKept}

-- this is kept of a package by these facts
abbrev pub IsKeptOf : Facts → Name → KeptPackage → Type 0
IsKeptOf facts name k = IsKept (steps_of facts name) (condemned_of facts name) k

-- what is in a slot
abbrev pub in_slot : Option (Option KeptPackage) → Option KeptPackage
in_slot None = None
in_slot (Some slot) = slot

-- what is kept of a package
abbrev pub kept_at : KeptPackages → Name → Option KeptPackage
kept_at p name = in_slot (get (slice_cmp nat_cmp) p.packages name)

-- whether a package has a slot
abbrev pub has_kept_slot : KeptPackages → Name → Bool
has_kept_slot p name = is_some (get (slice_cmp nat_cmp) p.packages name)

-- whether a name is among some
abbrev pub is_among : Name → List Name → Bool
is_among name names = list_any (eq_by_cmp (slice_cmp nat_cmp) name) names

-- whether a package is one of those that change
abbrev pub is_changed : List KeptChange → Name → Bool
is_changed [] name = false
is_changed (c ∷ rest) name = eq_by_cmp (slice_cmp nat_cmp) c.«package» name || is_changed rest name

-- what is kept of a package after changes, from what was kept before
abbrev pub put_at : List KeptChange → Name → Option KeptPackage → Option KeptPackage
put_at [] name kept = kept
put_at (c ∷ rest) name kept =
    put_at rest name (cond (eq_by_cmp (slice_cmp nat_cmp) c.«package» name) (Some c.kept) kept)
