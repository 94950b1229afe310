-- Tables of criteria, and all that a set of them implies (The Cargo Vet Book: criteria, `implies`).
--
-- The closure of a set is closure_of. It is found by definitions: at most MOST_CRITERIA criteria with different names,
-- including the two built-in ones. One of them may imply a name that no criterion has (defined).
use Rattle.std.specs.Prelude.{ℕ, ◌≡◌, ◌≤◌, true, false, Bool, not, List, [], ◌∷◌, codes, Option, Some, None}
use Rattle.std.specs.Prelude.{if◌then◌else◌, slice_index_or, find, ◌↔◌, ◌&&◌, slice_get}
use Rattle.std.specs.List.{position}
use Rattle.std.specs.Option.{option_map_or}
use Rattle.std.specs.Ordering.{nat_cmp, eq_by_cmp}
use Rattle.std.specs.Cmp.Lexicographic.{slice_cmp}
use Rattle.std.specs.FinSet as set
use Rattle.std.specs.FinMap as map
use Rattle.vet_base.specs.declared.limits.TheConstants.{MOST_CRITERIA}
use Rattle.vet_base.specs.declared.criterion.Criterion.{Criterion}
use Rattle.vet_base.specs.CriteriaSet.{Places, meet, places_below}
use Rattle.vet_base.specs.Names.{NameSet, members}
use Rattle.vet_base.specs.Words.{Name}

-- criteria by their names
abbrev pub Criteria : Type 0
Criteria = map.FinMap (slice_cmp nat_cmp) Criterion

-- the names that a name implies; a name that the table lacks implies none
abbrev pub implied_by : Criteria → Name → NameSet
implied_by table name = option_map_or (λ c. c.implies) (map.get table name) set.empty

-- the least set that contains some names and, with each name, the names that it implies
pub data InClosure (table : Criteria) (names : NameSet) : Name → Type 0 where
  named : {n : Name} → set.contains names n ≡ true → InClosure table names n
  implied : {m n : Name} → InClosure table names m → set.contains (implied_by table m) n ≡ true
      → InClosure table names n

-- the names that criteria reach; if the rest reach the name of the first, also those reached from what it implies
unfoldable pub reached_by : List (Name × Criterion) → NameSet → NameSet
reached_by [] names = names
reached_by ((name, c) ∷ rest) names =
    let reached = reached_by rest names in
    if set.contains reached name then set.union reached (reached_by rest c.implies) else reached

-- the closure of a set of names
abbrev pub closure_of : Criteria → NameSet → NameSet
closure_of table = reached_by (map.entries table)

-- the place of a name among the table's names, in the order of their bytes
abbrev pub place_of : Criteria → Name → Option ℕ
place_of table name = position (eq_by_cmp (slice_cmp nat_cmp) name) (map.keys table)

-- the places of those names of a set that the table holds
abbrev pub placed : Criteria → NameSet → Places
placed table names =
    set.retain (places_below (map.len table)) (λ p. set.contains names (slice_index_or (map.keys table) p []))

-- whether the place of a name is in a set
abbrev pub is_in : Criteria → Places → Name → Bool
is_in table places name = option_map_or (set.contains places) (place_of table name) false

-- the least name of a set that the table lacks
abbrev pub least_unknown : Criteria → NameSet → Option Name
least_unknown table names = find (λ n. not (map.contains_key table n)) (members names)

-- the closure of some names has a name exactly if it is one of them, or a name of the closure implies it
abbrev pub ClosureIsLeast : Type 0
ClosureIsLeast = (table : Criteria) (names : NameSet) (n : Name)
    → (set.contains (closure_of table names) n ≡ true) ↔ InClosure table names n

-- the place of a name is among those of a set of names exactly if the table and the set have the name
abbrev pub PlacedNamesAreIn : Type 0
PlacedNamesAreIn = (table : Criteria) (names : NameSet) (n : Name)
    → is_in table (placed table names) n ≡ (map.contains_key table n && set.contains names n)

-- the place of a name is its position among the table's names
abbrev pub PlacesAreOfNames : Type 0
PlacesAreOfNames = (table : Criteria) (n : Name) (p : ℕ)
    → (place_of table n ≡ Some p) ↔ (slice_get (map.keys table) p ≡ Some n)

-- the closure of only the criterion at a place; past the table's end it is empty
abbrev pub closure_at : Criteria → ℕ → Places
closure_at table p =
    option_map_or (λ n. placed table (closure_of table (set.insert set.empty n))) (slice_get (map.keys table) p)
    set.empty

-- whether the criterion at a place is in a set or implies one that is, directly or through others
abbrev pub leads_to : Criteria → Places → ℕ → Bool
leads_to table places p = meet (closure_at table p) places

-- the criteria that are in a set or imply one that is, directly or through others
abbrev pub leading_to : Criteria → Places → Places
leading_to table places = set.retain (places_below (map.len table)) (leads_to table places)

-- a place is among those that lead to a set exactly if it leads there, whatever the table's length
abbrev pub LedTo : Type 0
LedTo = (table : Criteria) (places : Places) (p : ℕ)
    → set.contains (leading_to table places) p ≡ leads_to table places p

-- the built-in criteria
abbrev pub safe_to_run : Name
safe_to_run = codes "safe-to-run"

abbrev pub safe_to_deploy : Name
safe_to_deploy = codes "safe-to-deploy"

abbrev pub run_criterion : Criterion
run_criterion = record { name = safe_to_run; description = None; url = None; implies = set.empty }

abbrev pub deploy_criterion : Criterion
deploy_criterion =
    record { name = safe_to_deploy; description = None; url = None; implies = set.insert set.empty safe_to_run }

abbrev pub built_in_criteria : Criteria
built_in_criteria = map.insert (map.insert map.empty safe_to_run run_criterion) safe_to_deploy deploy_criterion

-- these criteria form a table
pub record IsTable (table : Criteria) : Type 0 where
  pub few : map.len table ≤ MOST_CRITERIA
  pub named : (n : Name) (c : Criterion) → map.get table n ≡ Some c → c.name ≡ n
  pub known : (m n : Name) → set.contains (implied_by table m) n ≡ true → map.contains_key table n ≡ true
  pub run : map.get table safe_to_run ≡ Some run_criterion
  pub deploy : map.get table safe_to_deploy ≡ Some deploy_criterion
