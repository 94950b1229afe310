-- Maps from names to sets are read again as they were written.
use Rattle.std.proofs.Common.{◌≡◌, ℕ, ◌+◌, ◌<◌, Bool, true, List, [], ◌∷◌, ◌++◌, map as mapped, length, get_or, take}
use Rattle.std.proofs.Common.{drop, Ok, Less, refl, sym, ap, subst, ◌∙◌, append_assoc, append-nil, arith}
use Rattle.std.proofs.lemmas.Cmp.{nat_list_cmp_total}
use Rattle.std.proofs.lemmas.List.{drop_more, get_or-map, get_or_append_left, get_or_at, length-append, length-map}
use Rattle.std.proofs.lemmas.List.{map-append, take-append-drop, take_more}
use Rattle.std.proofs.lemmas.List.Elements.{All-head, All-map, All-more, All-same, All-tail}
use Rattle.std.specs.FinMap as map
use Rattle.std.specs.FinMap.{empty, entries}
use Rattle.std.specs.List.{All, AllPairs, filter}
use Rattle.toml.specs.Data.{Data, Members, member, table}
use Rattle.vet_base.proofs.Rising.{R, above, rising_entries}
use Rattle.vet_base.specs.Name.{is_name, is_package_name}
use Rattle.vet_base.specs.Names.{IsRising, NameSet}
use Rattle.vet_base.specs.Keyed.{is_before, is_behind}
use Rattle.vet_demand.specs.DependencyCriteria.{IsByPackage, item_name, with_criteria}
use Rattle.vet_demand.specs.declared.dependency_criteria.DependencyItem.{DependencyItem}
use Rattle.vet_entries.specs.CriteriaMap.{NamesByName, by_name}
use Rattle.vet_entries.specs.declared.criteria_map.MappedCriterion.{MappedCriterion}
use Rattle.vet_files.specs.ConfigTable.{dependencies_table, mapped_table}
use Rattle.vet_files.specs.Field.{names}
use Rattle.vet_files.specs.Lists.{path_below}
use Rattle.vet_files.specs.Maps.{criteria_map, dependency_criteria, next_dependency, next_mapped}
use Rattle.vet_files.specs.ReadAgain.{IsReadAs}
use Rattle.vet_files.specs.Tables.{members_from, put_member, set_data}
use Rattle.vet_files.specs.Walk.{each_member}

-- ---- in the order of the names

-- each name comes before the names after it
abbrev pub Rises : {X : Type 0} → (X → List ℕ) → List X → Type 0
Rises name xs = AllPairs (λ a b. R (name a) (name b) ≡ Less) xs

-- each name comes before this one
abbrev pub Below : {X : Type 0} → (X → List ℕ) → List ℕ → List X → Type 0
Below name k xs = All (λ x. R (name x) k ≡ Less) xs

in_front : {X : Type 0} (name : X → List ℕ) (front : List X) (x : X) (rest : List X) → Rises name (front ++ x ∷ rest)
    → Below name (name x) front
in_front name front x rest rises k d l =
    let whole : length (front ++ x ∷ rest) ≡ length front + length (x ∷ rest) = length-append front (x ∷ rest) in
    let pair = rises k (length front) d l (omega (arith, whole)) in
    let low = rw (get_or_append_left front (x ∷ rest) d k l) at pair in
    rw (get_or_at front x rest d (length front) refl) at low

pub rises_from_names : {X : Type 0} (name : X → List ℕ) (xs : List X) → IsRising (mapped name xs) → Rises name xs
rises_from_names name xs rising i j d l m =
    rw (← get_or-map name xs i d [] (omega (arith, l, m)), ← get_or-map name xs j d [] m)
    (rising i j [] l (rw length-map m))

-- ---- as the table is built

last : (pairs : List (List ℕ × Data)) (k : List ℕ) (d : Data) → Below (λ p. p.0) k pairs
    → put_member k d (members_from pairs) ≡ members_from (pairs ++ (k, d) ∷ [])
last [] k d low = refl
last (p ∷ rest) k d low =
    rw (above p.0 k (All-head (λ p. R p.0 k ≡ Less) p rest low))
    (ap (member p.0 p.1) (last rest k d (All-tail (λ p. R p.0 k ≡ Less) p rest low)))

module _ {X : Type 0} (name : X → List ℕ) (criteria : X → NameSet) where
  -- the table of the sets by their names
  abbrev pub sets_table : List X → Members
  sets_table xs = members_from (mapped (λ x. (name x, set_data (criteria x))) xs)

  -- the sets are read again, and their names are good ones
  abbrev pub AreRead : (List ℕ → Bool) → List X → Type 0
  AreRead is_good xs = All (λ x. (is_good (name x) ≡ true) × IsReadAs names (set_data (criteria x)) (criteria x)) xs

  pub sets_table-push : (xs : List X) (x : X) → Below name (name x) xs
      → put_member (name x) (set_data (criteria x)) (sets_table xs) ≡ sets_table (xs ++ x ∷ [])
  sets_table-push xs x low =
      last (mapped (λ y. (name y, set_data (criteria y))) xs) (name x) (set_data (criteria x))
      (All-map (λ p. R p.0 (name x) ≡ Less) (λ y. (name y, set_data (criteria y))) xs low)
      ∙ ap members_from (sym (map-append (λ y. (name y, set_data (criteria y))) xs (x ∷ [])))

  pub next_put : (xs : List X) (i : ℕ) (x : X) (ms : Members) → Rises name xs → i < length xs → get_or xs i x ≡ x
      → ms ≡ sets_table (take i xs)
      → put_member (name x) (set_data (criteria x)) ms ≡ sets_table (take (i + 1) xs)
  next_put xs i x ms rises within is so_far =
      let whole : take i xs ++ x ∷ drop (i + 1) xs ≡ xs =
      ap (λ ys. take i xs ++ ys) (sym (drop_more xs i x within ∙ ap (λ y. y ∷ drop (i + 1) xs) is))
      ∙ take-append-drop i xs in
      let more : take (i + 1) xs ≡ take i xs ++ x ∷ [] = take_more xs i x within ∙ ap (λ y. take i xs ++ y ∷ []) is in
      rw (so_far, more) (sets_table-push (take i xs) x
      (in_front name (take i xs) x (drop (i + 1) xs) (subst (Rises name) (sym whole) rises)))

  pub next_read : (is_good : List ℕ → Bool) (xs : List X) (i : ℕ) (x : X) → i < length xs → get_or xs i x ≡ x
      → AreRead is_good (take i xs)
      → is_good (name x) ≡ true → IsReadAs names (set_data (criteria x)) (criteria x)
      → AreRead is_good (take (i + 1) xs)
  next_read is_good xs i x within is each good read =
      let P : X → Type 0 = λ y. (is_good (name y) ≡ true) × IsReadAs names (set_data (criteria y)) (criteria y) in
      All-more P xs i x within each (subst P (sym is) (good, read))

-- ---- from criteria

no_length : {X : Type 0} (xs : List X) → length xs ≡ 0 → xs ≡ []
no_length [] h = refl
no_length (x ∷ xs) h = absurd (omega (arith, h))

no_entries : entries (empty {X = NameSet} {R = R}) ≡ []
no_entries = no_length _ (sym (map.len-entries (empty {X = NameSet} {R = R})) ∙ map.len-empty R NameSet)

put_end : (front : List (List ℕ × NameSet)) (p : List ℕ × NameSet) → Below (λ q. q.0) p.0 front
    → map.put R p.0 p.1 front ≡ front ++ p ∷ []
put_end [] p low = refl
put_end (q ∷ front) p low =
    rw (above q.0 p.0 (All-head (λ q. R q.0 p.0 ≡ Less) q front low))
    (ap (λ es. q ∷ es) (put_end front p (All-tail (λ q. R q.0 p.0 ≡ Less) q front low)))

-- the entries of n, after those of m
mapped_after : (path : List ℕ) (rest : List (List ℕ × NameSet)) (m n : NamesByName) → entries n ≡ entries m ++ rest
    → AreRead (λ p. p.0) (λ p. p.1) is_name rest
    → each_member (next_mapped path) m (sets_table (λ p. p.0) (λ p. p.1) rest) ≡ Ok n
mapped_after path [] m n is each = ap Ok (map.same_entries_map m n (sym (is ∙ append-nil (entries m))))
mapped_after path (p ∷ rest) m n is each =
    let (named, read) = All-head (λ q. (is_name q.0 ≡ true) × IsReadAs names (set_data q.1) q.1) p rest each in
    let rises = rises_from_names (λ q. q.0) (entries n) (rising_entries (entries n) (map.entries_sorted n)) in
    let low = in_front (λ q. q.0) (entries m) p rest (subst (Rises (λ q. q.0)) is rises) in
    let put_in : entries (map.insert m p.0 p.1) ≡ entries m ++ p ∷ [] = map.entries-insert nat_list_cmp_total m p.0 p.1
    ∙ put_end (entries m) p low in
    rw (named, read path p.0)
    (mapped_after path rest (map.insert m p.0 p.1) n
    (is ∙ sym (append_assoc (entries m) (p ∷ []) rest) ∙ ap (λ es. es ++ rest) (sym put_in))
    (All-tail (λ q. (is_name q.0 ≡ true) × IsReadAs names (set_data q.1) q.1) p rest each))

sets_by_name : (items : List MappedCriterion) → sets_table (λ (x : MappedCriterion). x.name) (λ x. x.criteria) items
    ≡ sets_table (λ p. p.0) (λ p. p.1) (by_name items)
sets_by_name [] = refl
sets_by_name (x ∷ items) = ap (member x.name (set_data x.criteria)) (sets_by_name items)

module _ (items : List MappedCriterion) (m : NamesByName) (are : by_name items ≡ entries m) where
  pub mapped_table-is : sets_table (λ (x : MappedCriterion). x.name) (λ x. x.criteria) items ≡ mapped_table m
  mapped_table-is = sets_by_name items ∙ ap (sets_table (λ p. p.0) (λ p. p.1)) are

  pub criteria_map_read : AreRead (λ (x : MappedCriterion). x.name) (λ x. x.criteria) is_name items
      → IsReadAs criteria_map (table (mapped_table m)) m
  criteria_map_read each path key =
      let Q : List ℕ × NameSet → Type 0 = λ p. (is_name p.0 ≡ true) × IsReadAs names (set_data p.1) p.1 in
      mapped_after (path_below path key) (entries m) empty m (ap (λ es. es ++ entries m) (sym no_entries))
      (All-same Q (entries m) (by_name items) (sym are)
      (All-map Q (λ (x : MappedCriterion). (x.name, x.criteria)) items each))

-- ---- from packages

kept : (k : List ℕ) (front : List DependencyItem) → Below item_name k front → filter (is_before R item_name k) front
    ≡ front
kept k [] low = refl
kept k (i ∷ front) low =
    rw (All-head (λ j. R (item_name j) k ≡ Less) i front low)
    (ap (λ js. i ∷ js) (kept k front (All-tail (λ j. R (item_name j) k ≡ Less) i front low)))

dropped : (k : List ℕ) (front : List DependencyItem) → Below item_name k front → filter (is_behind R item_name k) front
    ≡ []
dropped k [] low = refl
dropped k (i ∷ front) low =
    rw (All-head (λ j. R (item_name j) k ≡ Less) i front low)
    (dropped k front (All-tail (λ j. R (item_name j) k ≡ Less) i front low))

dependencies_after : (path : List ℕ) (front rest : List DependencyItem) → IsByPackage (front ++ rest)
    → AreRead item_name (λ i. i.criteria) is_package_name rest
    → each_member (next_dependency path) front (dependencies_table rest) ≡ Ok (front ++ rest)
dependencies_after path front [] rises each = ap Ok (sym (append-nil front))
dependencies_after path front (i ∷ rest) rises each =
    let (named, read) = All-head
    (λ j. (is_package_name (item_name j) ≡ true) × IsReadAs names (set_data j.criteria) j.criteria) i rest each in
    let low = in_front item_name front i rest rises in
    let put_in : with_criteria front i.«package» i.criteria ≡ front ++ i ∷ [] = λ t. kept (item_name i) front low t ++ i
    ∷ dropped (item_name i) front low t in
    let assoc = append_assoc front (i ∷ []) rest in
    rw (named, read path i.«package», put_in)
    (dependencies_after path (front ++ i ∷ []) rest (subst IsByPackage (sym assoc) rises)
    (All-tail (λ j. (is_package_name (item_name j) ≡ true) × IsReadAs names (set_data j.criteria) j.criteria) i rest
    each) ∙ ap Ok assoc)

pub dependency_criteria_read : (items : List DependencyItem) → IsByPackage items
    → AreRead item_name (λ i. i.criteria) is_package_name items
    → IsReadAs dependency_criteria (table (dependencies_table items)) items
dependency_criteria_read items rises each path key = dependencies_after (path_below path key) [] items rises each
