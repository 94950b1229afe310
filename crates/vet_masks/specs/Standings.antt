-- The standing, by package (ours).
use Rattle.std.specs.Prelude.{◌≡◌, ◌||◌, Bool, false, List, [], ◌∷◌, cond, map}
use Rattle.std.specs.Coded.{Coded, code_by, coded×, coded_list, coded_ℕ}
use Rattle.std.specs.Cmp.Lexicographic.{slice_cmp}
use Rattle.std.specs.List.{All, flat_map}
use Rattle.std.specs.List.Sorted.{IsStrictlySortedBy}
use Rattle.std.specs.Ordering.{match_ordering, nat_cmp}
use Rattle.std.specs.BTreeMap.{is_at}
use Rattle.std.proofs.Common.{refl}
use Rattle.vet_base.specs.Words.{Name}
use Rattle.vet_graph.specs.declared.standing.Stand.{Stand}
use Rattle.vet_masks.specs.declared.standing.Changed.{Changed}
use Rattle.vet_graph.specs.declared.moves.Move.{Move}
use Rattle.vet_graph.specs.Moves.{moves_between}
use Rattle.vet_graph.specs.Standing.{IsStanding}

-- a package, and its demanded pairs with their classes
pub record PackageStands : Type 0 where
  pub «package» : Name
  pub stands : List Stand

abbrev pub package_stands_code : Coded Stand → Coded (List PackageStands)
package_stands_code stand_code = coded_list (code_by (Name × List Stand)
    (coded× (coded_list coded_ℕ) (coded_list stand_code)) (λ p. (p.«package», p.stands))
    (λ p. record { «package» = p.0; stands = p.1 }) (λ _. refl))

-- the standing
abbrev pub all_stands : List PackageStands → List Stand
all_stands packages = flat_map (λ p. p.stands) packages

-- the stands of a package
abbrev pub stands_at : List PackageStands → Name → List Stand
stands_at [] name = []
stands_at (p ∷ rest) name = cond (is_at (slice_cmp nat_cmp name) p.«package») p.stands (stands_at rest name)

-- stands are of a package, and in the order of their pairs
pub record AreOfPackage (name : Name) (stands : List Stand) : Type 0 where
  pub named : All (λ s. s.pair.«package» ≡ name) stands
  pub in_order : IsStanding stands

-- packages are in the order of their names, each with stands of its own
pub record AreByPackage (packages : List PackageStands) : Type 0 where
  pub rising : IsStrictlySortedBy (slice_cmp nat_cmp) (map (λ p. p.«package») packages)
  pub each : All (λ p. AreOfPackage p.«package» p.stands) packages

-- whether a package has a slot
abbrev pub has_slot : List PackageStands → Name → Bool
has_slot [] name = false
has_slot (p ∷ rest) name = is_at (slice_cmp nat_cmp name) p.«package» || has_slot rest name

-- these stands in place of those of a package; one without a slot gets one, in the order of names
abbrev pub with_stands : List PackageStands → Name → List Stand → List PackageStands
with_stands [] name stands = record { «package» = name; stands = stands } ∷ []
with_stands (p ∷ rest) name stands = match_ordering (slice_cmp nat_cmp name p.«package»)
    (record { «package» = name; stands = stands } ∷ p ∷ rest)
    (record { «package» = p.«package»; stands = stands } ∷ rest)
    (p ∷ with_stands rest name stands)

-- the moves of these packages' stands to those that come in their place
abbrev pub moves_of_packages : List PackageStands → List PackageStands → List Move
moves_of_packages packages changed =
    flat_map (λ c. moves_between (stands_at packages c.«package») c.stands) changed

-- what stands of packages after a change
abbrev pub changes_in : List Changed → List PackageStands
changes_in changed = map (λ c. record { «package» = c.«package»; stands = c.stands.items }) changed

-- the same of several packages, one after the other
abbrev pub with_all : List PackageStands → List PackageStands → List PackageStands
with_all packages [] = packages
with_all packages (c ∷ rest) = with_all (with_stands packages c.«package» c.stands) rest
