-- What a table holds beside the built-in criteria.
use Rattle.std.proofs.Common.{◌≡◌, ℕ, ◌+◌, ◌<◌, Bool, true, false, cond, not, List, [], ◌∷◌, ◌++◌, get_or, length, map}
use Rattle.std.proofs.Common.{take, Option, Some, None, refl, sym, ap, ◌∙◌, arith}
use Rattle.std.specs.List.{All, AllPairs, cons_option, filter, filter_map}
use Rattle.std.specs.FinMap as table
use Rattle.std.proofs.lemmas.List.{get_or-map, get_or_default, length-map, take_more}
use Rattle.std.proofs.lemmas.List.Elements.{All-head, All-tail, filter_map-append}
use Rattle.std.proofs.lemmas.List.Kept.{AllPairs-filter}
use Rattle.vet_base.specs.declared.criterion.Criterion.{Criterion}
use Rattle.vet_base.specs.Criteria.{Criteria, IsTable}
use Rattle.vet_base.specs.CriteriaChanges.{is_built_in}
use Rattle.vet_base.specs.FurtherCriteria.{further, is_further}
use Rattle.vet_base.specs.Items.{NamedOnce}
use Rattle.vet_base.proofs.Closing.{entry_found}
use Rattle.vet_base.proofs.ItemLemmas.{all_in, in_filter}
use Rattle.vet_base.proofs.Tables.{rising_keys}
use Rattle.vet_files.proofs.Apart.{other-name}
use Rattle.vet_register.specs.HeldFiles.{further_at}
use Rattle.vet_register.proofs.Lists.{AllPairs-map}

abbrev Entries : Type 0
Entries = List (List ℕ × Criterion)

not_true : (b : Bool) → not b ≡ true → b ≡ false
not_true true h = sym h
not_true false h = refl

-- none of them is built in
pub none_built_in : (criteria : Criteria) → All (λ c. is_built_in c.name ≡ false) (further criteria)
none_built_in criteria =
    all_in (λ c. is_built_in c.name ≡ false) (further criteria)
    (λ c i. not_true (is_built_in c.name) (in_filter is_further (table.values criteria) c i).1)

-- what is found at one name more comes behind what was found before
pub found_further : (at : List ℕ → Option Criterion) (names : List (List ℕ)) (i : ℕ) (name : List ℕ) → i < length
    names → name ≡ get_or names i name
    → (o : Option Criterion) → o ≡ at name → filter_map at (take i names) ++ cons_option o [] ≡ filter_map at
    (take (i + 1) names)
found_further at names i name l is o found =
    ap (λ x. filter_map at (take i names) ++ cons_option x []) (found ∙ ap at is)
    ∙ sym (ap (filter_map at) (take_more names i name l) ∙ filter_map-append at (take i names)
    (get_or names i name ∷ []))

module _ (criteria : Criteria) (is : IsTable criteria) where
  abbrev entries : Entries
  entries = table.entries criteria

  -- the criterion of an entry is found at its name, which is its own
  found : (k : ℕ) (d : List ℕ × Criterion) → k < length entries → table.get criteria (get_or entries k d).0 ≡ Some
      (get_or entries k d).1
  found k d l =
      let e = get_or entries k d in
      table.get-entries criteria e.0 ∙ entry_found e.0 entries e.1 (rising_keys criteria)
      (k, l, get_or_default entries k e d l)

  named : (k : ℕ) (d : List ℕ × Criterion) → k < length entries → (get_or entries k d).1.name ≡ (get_or entries k d).0
  named k d l = is.named (get_or entries k d).0 (get_or entries k d).1 (found k d l)

  -- ---- those that are found at the names

  unless : (b : Bool) (o : Option Criterion) (c : Criterion) → o ≡ Some c → cond b None o ≡ cond (not b) (Some c) None
  unless true o c h = refl
  unless false o c h = h

  told : All (λ (e : List ℕ × Criterion). further_at criteria e.0 ≡ cond (is_further e.1) (Some e.1) None) entries
  told k d l =
      let e = get_or entries k d in
      unless (is_built_in e.0) (table.get criteria e.0) e.1 (found k d l) ∙ ap
      (λ n. cond (not (is_built_in n)) (Some e.1) None) (sym (named k d l))

  kept : (b : Bool) (c : Criterion) (rest : List Criterion) → cons_option
      (let o : Option Criterion = cond b (Some c) None in o) rest ≡ cond b (c ∷ rest) rest
  kept true c rest = refl
  kept false c rest = refl

  all_told : (es : Entries) → All
      (λ (e : List ℕ × Criterion). further_at criteria e.0 ≡ cond (is_further e.1) (Some e.1) None) es
      → filter_map (further_at criteria) (map (λ e. e.0) es) ≡ filter is_further (map (λ e. e.1) es)
  all_told [] h = refl
  all_told (e ∷ es) h =
      ap (λ o. cons_option o (filter_map (further_at criteria) (map (λ x. x.0) es)))
      (All-head (λ (x : List ℕ × Criterion). further_at criteria x.0 ≡ cond (is_further x.1) (Some x.1) None) e es
      h)
      ∙ kept (is_further e.1) e.1 (filter_map (further_at criteria) (map (λ x. x.0) es))
      ∙ ap (λ (cs : List Criterion). cond (is_further e.1) (e.1 ∷ cs) cs)
      (all_told es (All-tail
      (λ (x : List ℕ × Criterion). further_at criteria x.0 ≡ cond (is_further x.1) (Some x.1) None) e es h))

  pub further_is : filter_map (further_at criteria) (table.keys criteria) ≡ further criteria
  further_is = all_told entries told

  -- ---- their names differ

  rise : AllPairs (λ (a b : List ℕ × Criterion). a.1.name ≡ b.1.name → ⊥) entries
  rise i j d l m same =
      let a = get_or entries i d in
      let b = get_or entries j d in
      let in_front : i < length entries = omega (arith, l, m) in
      other-name (λ (e : List ℕ × Criterion). e.0) a b
      (rw (
        sym (get_or-map (λ (e : List ℕ × Criterion). e.0) entries i d d.0 in_front),
        sym
            (get_or-map (λ (e : List ℕ × Criterion). e.0) entries j d d.0 m),
      )
      (rising_keys criteria i j d.0 l (rw length-map m)))
      (sym (named i d in_front) ∙ same ∙ named j d m)

  pub named_once : NamedOnce (λ c. c.name) (further criteria)
  named_once =
      AllPairs-filter (λ (a b : Criterion). a.name ≡ b.name → ⊥) is_further (table.values criteria)
      (AllPairs-map (λ (e : List ℕ × Criterion). e.1) (λ (a b : Criterion). a.name ≡ b.name → ⊥) entries rise)
