-- The table that some criteria define.
use Rattle.std.proofs.Common.{◌≡◌, ℕ, ◌+◌, ◌<◌, ◌≤◌, Bool, true, false, cond, ◌||◌, List, [], ◌∷◌, ◌++◌, length}
use Rattle.std.proofs.Common.{is_some, fold, refl, sym, ap, ◌∙◌, arith}
use Rattle.std.specs.Ordering.{eq_by_cmp}
use Rattle.std.specs.FinSet as set
use Rattle.std.specs.FinMap as map
use Rattle.std.proofs.lemmas.Cmp.{nat_list_cmp_total}
use Rattle.vet_base.specs.declared.criterion.Criterion.{Criterion}
use Rattle.vet_base.specs.declared.limits.TheConstants.{MOST_CRITERIA, MOST_PEER_CRITERIA}
use Rattle.vet_base.specs.Names.{NameSet}
use Rattle.vet_base.specs.Criteria.{Criteria, built_in_criteria, run_criterion, deploy_criterion, safe_to_run}
use Rattle.vet_base.specs.Criteria.{safe_to_deploy}
use Rattle.vet_base.specs.Defined.{defined}
use Rattle.vet_base.proofs.Rising.{R}
use Rattle.vet_base.proofs.Changes.{key-insert}

abbrev pub with_names : NameSet → List Criterion → NameSet
with_names names criteria = fold (λ (s : NameSet) (c : Criterion). set.insert s c.name) names criteria

abbrev pub with_criteria : Criteria → List Criterion → Criteria
with_criteria table criteria = fold (λ (t : Criteria) (c : Criterion). map.insert t c.name c) table criteria

abbrev pub HasNames : NameSet → Criteria → Type 0
HasNames names table = (n : List ℕ) → set.contains names n ≡ map.contains_key table n

one_name : (names : NameSet) (table : Criteria) (c : Criterion) → HasNames names table
    → HasNames (set.insert names c.name) (map.insert table c.name c)
one_name names table c h n =
    set.contains-insert nat_list_cmp_total names c.name n ∙ ap (λ b. eq_by_cmp R n c.name || b) (h n)
    ∙ sym (key-insert table c n)

names_with : (names : NameSet) (table : Criteria) (criteria : List Criterion) → HasNames names table
    → HasNames (with_names names criteria) (with_criteria table criteria)
names_with names table [] h = h
names_with names table (c ∷ cs) h =
    names_with (set.insert names c.name) (map.insert table c.name c) cs (one_name names table c h)

len_with : (names : NameSet) (table : Criteria) (criteria : List Criterion) → HasNames names table → set.len names
    ≡ map.len table
    → set.len (with_names names criteria) ≡ map.len (with_criteria table criteria)
len_with names table [] h e = e
len_with names table (c ∷ cs) h e =
    len_with (set.insert names c.name) (map.insert table c.name c) cs (one_name names table c h)
    (set.len-insert nat_list_cmp_total names c.name ∙ (λ i. cond (h c.name i) (e i) (e i + 1))
    ∙ sym (map.len-insert nat_list_cmp_total table c.name c))

no_names : HasNames set.empty map.empty
no_names n = set.contains-empty R n ∙ sym (ap is_some (map.get-empty R n))

-- the names of the built-in criteria
abbrev pub built_in_names : NameSet
built_in_names = set.insert (set.insert set.empty safe_to_run) safe_to_deploy

pub defined_names : (criteria : List Criterion) → HasNames (with_names built_in_names criteria) (defined criteria)
defined_names criteria = names_with set.empty map.empty (run_criterion ∷ deploy_criterion ∷ criteria) no_names

pub defined_len : (criteria : List Criterion) → set.len (with_names built_in_names criteria)
    ≡ map.len (defined criteria)
defined_len criteria =
    len_with set.empty map.empty (run_criterion ∷ deploy_criterion ∷ criteria) no_names
    (set.len-empty R ∙ sym (map.len-empty R Criterion))

-- ---- how many they are

one_counted : (held : Bool) (n : ℕ) → (n ≤ cond held n (n + 1)) × (cond held n (n + 1) ≤ n + 1)
one_counted true n = (omega arith, omega arith)
one_counted false n = (omega arith, omega arith)

-- each criterion adds one at most, and takes none away
len_between : (table : Criteria) (criteria : List Criterion) → (map.len table ≤ map.len (with_criteria table criteria))
    × (map.len (with_criteria table criteria) ≤ map.len table + length criteria)
len_between table [] = (omega arith, omega arith)
len_between table (c ∷ cs) =
    let rest = len_between (map.insert table c.name c) cs in
    let one = one_counted (map.contains_key table c.name) (map.len table) in
    let is = map.len-insert nat_list_cmp_total table c.name c in
    (omega (arith, rest.0, one.0, is), omega (arith, rest.1, one.1, is))

pub defined_few : (criteria : List Criterion) → length criteria ≤ MOST_PEER_CRITERIA
    → map.len (defined criteria) ≤ MOST_CRITERIA
defined_few criteria h =
    let most = (len_between map.empty (run_criterion ∷ deploy_criterion ∷ criteria)).1 in
    omega (arith, most, map.len-empty R Criterion, h)

with_more : (table : Criteria) (first more : List Criterion) → with_criteria table (first ++ more)
    ≡ with_criteria (with_criteria table first) more
with_more table [] more = refl
with_more table (c ∷ cs) more = with_more (map.insert table c.name c) cs more

-- where all find room, the next one does
pub next_fits : (first more all : List Criterion) (c : Criterion) → first ++ c ∷ more ≡ all
    → map.len (defined all) ≤ MOST_CRITERIA
    → map.contains_key (defined first) c.name ≡ false → map.len (defined first) < MOST_CRITERIA
next_fits first more all c is few new =
    let table = defined first in
    let now : map.len (with_criteria (map.insert table c.name c) more) ≤ MOST_CRITERIA =
    rw (← with_more built_in_criteria first (c ∷ more), is) few in
    let one : map.len (map.insert table c.name c) ≡ map.len table + 1 =
    map.len-insert nat_list_cmp_total table c.name c ∙ ap (λ b. cond b (map.len table) (map.len table + 1)) new in
    omega (arith, now, one, (len_between (map.insert table c.name c) more).0)
