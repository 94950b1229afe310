-- What criteria define beside the built-in ones.
use Rattle.std.proofs.Common.{◌≡◌, ℕ, Bool, true, false, cond, not, ◌&&◌, T, List, [], ◌∷◌, map as mapped, Some, None}
use Rattle.std.proofs.Common.{Ordering, Less, Equal, Greater, refl, sym, ap, subst, ◌∙◌, arith, inl, inr}
use Rattle.std.specs.List.{All}
use Rattle.std.specs.Ordering.{eq_by_cmp, is_lt, is_eq}
use Rattle.std.specs.FinMap as map
use Rattle.std.specs.FinMap.Entries.{below_all}
use Rattle.std.proofs.lemmas.Bool.{false≢true}
use Rattle.std.proofs.lemmas.List.Elements.{All-nil, All-cons}
use Rattle.std.proofs.lemmas.List.Kept.{AllPairs-cons, AllPairs-filter}
use Rattle.std.proofs.lemmas.Option.{same_Some}
use Rattle.vet_base.specs.declared.criterion.Criterion.{Criterion}
use Rattle.vet_base.specs.Criteria.{Criteria, built_in_criteria, deploy_criterion, run_criterion, safe_to_deploy}
use Rattle.vet_base.specs.Criteria.{safe_to_run}
use Rattle.vet_base.specs.CriteriaChanges.{is_built_in}
use Rattle.vet_base.specs.Defined.{defined}
use Rattle.vet_base.specs.FurtherCriteria.{FurtherAreDefined, further, is_further}
use Rattle.vet_base.specs.Items.{IsIn, NamedOnce}
use Rattle.vet_base.proofs.BuiltIn as built
use Rattle.vet_base.proofs.ItemLemmas.{filter_in, in_all, in_filter}
use Rattle.vet_base.proofs.DefinitionLaws.{NoneBuilt, found, no_such, not_built, one_of}
use Rattle.vet_base.proofs.Rising.{R, above, eq-itself, equal-from_eq}

abbrev Entries : Type 0
Entries = List (List ℕ × Criterion)

-- ---- what is found among entries

pub find_in : (q : List ℕ) (es : Entries) (c : Criterion) → map.find R q es ≡ Some c → IsIn (q, c) es
find_in q [] c h = cc h
find_in q (e ∷ es) c h = by (find_in q es c) (eq_by_cmp R q e.0) refl h
  where
    by : (map.find R q es ≡ Some c → IsIn (q, c) es) → (b : Bool) → eq_by_cmp R q e.0 ≡ b
        → cond b (Some e.1) (map.find R q es) ≡ Some c → IsIn (q, c) (e ∷ es)
    by rest true t s = inl (λ i. (equal-from_eq q e.0 t i, sym (same_Some e.1 c s) i))
    by rest false t s = inr (rest s)

less_is : (o : Ordering) → T (is_lt o) → o ≡ Less
less_is Less t = refl
less_is Equal t = absurd t
less_is Greater t = absurd t

first_T : (a b : Bool) → T (a && b) → T a
first_T true b t = tt
first_T false b t = absurd t

second_T : (a b : Bool) → T (a && b) → T b
second_T true b t = t
second_T false b t = absurd t

all_below : (k : List ℕ) (es : Entries) → T (below_all R k es) → (e : List ℕ × Criterion) → IsIn e es → R k e.0 ≡ Less
all_below k [] t e i = absurd i
all_below k (d ∷ es) t e (inl s) = subst (λ x. R k x.0 ≡ Less) (sym s) (less_is (R k d.0) (first_T _ _ t))
all_below k (d ∷ es) t e (inr i) = all_below k es (second_T (is_lt (R k d.0)) _ t) e i

pub in_find : (q : List ℕ) (es : Entries) (c : Criterion) → T (map.is_sorted R es) → IsIn (q, c) es → map.find R q es
    ≡ Some c
in_find q [] c t i = absurd i
in_find q (e ∷ es) c t (inl s) =
    ap (λ b. cond b (Some e.1) (map.find R q es))
    (ap (λ (x : List ℕ × Criterion). eq_by_cmp R q x.0) (sym s) ∙ eq-itself q)
    ∙ ap (λ (x : List ℕ × Criterion). Some x.1) (sym s)
in_find q (e ∷ es) c t (inr i) =
    let low : R e.0 q ≡ Less = all_below e.0 es (first_T _ _ t) (q, c) i in
    ap (λ b. cond b (Some e.1) (map.find R q es)) (ap is_eq (above e.0 q low))
    ∙ in_find q es c (second_T (below_all R e.0 es) _ t) i

-- ---- keys and names

abbrev IsNamed : List ℕ × Criterion → Type 0
IsNamed e = e.1.name ≡ e.0

values_once : (es : Entries) → T (map.is_sorted R es) → ((e : List ℕ × Criterion) → IsIn e es → IsNamed e)
    → NamedOnce (λ c. c.name) (mapped (λ e. e.1) es)
values_once [] t named i j d l m = absurd (omega (arith, l))
values_once (e ∷ es) t named i j d l m =
    AllPairs-cons (λ (a b : Criterion). a.name ≡ b.name → ⊥) e.1 (mapped (λ x. x.1) es)
    (apart es (λ x k. differ x (all_below e.0 es (first_T _ _ t) x k) (named x (inr k))))
    (values_once es (second_T (below_all R e.0 es) _ t) (λ x k. named x (inr k))) i j d l m
  where
    differ : (d : List ℕ × Criterion) → R e.0 d.0 ≡ Less → IsNamed d → e.1.name ≡ d.1.name → ⊥
    differ d low name same =
        let key : e.0 ≡ d.0 = sym (named e (inl refl)) ∙ same ∙ name in
        false≢true (sym (ap is_eq low) ∙ ap (eq_by_cmp R e.0) (sym key) ∙ eq-itself e.0)

    apart : (ds : Entries) → ((d : List ℕ × Criterion) → IsIn d ds → e.1.name ≡ d.1.name → ⊥)
        → All (λ (b : Criterion). e.1.name ≡ b.name → ⊥) (mapped (λ x. x.1) ds)
    apart [] h = All-nil (λ (b : Criterion). e.1.name ≡ b.name → ⊥)
    apart (d ∷ ds) h = All-cons (λ (b : Criterion). e.1.name ≡ b.name → ⊥) d.1 (mapped (λ x. x.1) ds) (h d (inl refl))
        (apart ds (λ x i. h x (inr i)))

pub value_in : (c : Criterion) (es : Entries) → IsIn c (mapped (λ e. e.1) es) → (q : List ℕ) × IsIn (q, c) es
value_in c [] i = absurd i
value_in c (e ∷ es) (inl s) = (e.0, inl (λ i. (e.0, s i)))
value_in c (e ∷ es) (inr i) = (let h = value_in c es i in (h.0, inr h.1))

pub in_values : (q : List ℕ) (c : Criterion) (es : Entries) → IsIn (q, c) es → IsIn c (mapped (λ e. e.1) es)
in_values q c [] i = absurd i
in_values q c (e ∷ es) (inl s) = inl (ap (λ (x : List ℕ × Criterion). x.1) s)
in_values q c (e ∷ es) (inr i) = inr (in_values q c es i)

-- ---- the built-in ones

not_true : (b : Bool) → not b ≡ true → b ≡ false
not_true true h = sym h
not_true false h = refl

-- each built-in criterion stands at its name
pub built_named : (q : List ℕ) (c : Criterion) → map.get built_in_criteria q ≡ Some c → c.name ≡ q
built_named q c h =
    by (eq_by_cmp R q safe_to_deploy) refl (eq_by_cmp R q safe_to_run) refl
    (sym (built.get_built_in q) ∙ ap (λ t. map.get t q) built.is_built_in ∙ h)
  where
    by : (a : Bool) → eq_by_cmp R q safe_to_deploy ≡ a → (b : Bool) → eq_by_cmp R q safe_to_run ≡ b
        → cond a (Some deploy_criterion) (cond b (Some run_criterion) None) ≡ Some c → c.name ≡ q
    by true e b f s = ap (λ (x : Criterion). x.name) (sym (same_Some deploy_criterion c s))
        ∙ sym (equal-from_eq q safe_to_deploy e)
    by false e true f s =
        ap (λ (x : Criterion). x.name) (sym (same_Some run_criterion c s)) ∙ sym (equal-from_eq q safe_to_run f)
    by false e false f s = cc s

module _ (cs : List Criterion) (once : NamedOnce (λ c. c.name) cs) (free : NoneBuilt cs) where
  abbrev table : Criteria
  table = defined cs

  got : (q : List ℕ) (c : Criterion) → IsIn (q, c) (map.entries table) → map.get table q ≡ Some c
  got q c i = map.get-entries table q ∙ in_find q (map.entries table) c (map.entries_sorted table) i

  named : (e : List ℕ × Criterion) → IsIn e (map.entries table) → IsNamed e
  named e i = elim (one_of built_in_criteria cs e.0 e.1 (got e.0 e.1 i)) [
    | inl (among, name) ↦ name
    | inr first ↦ built_named e.0 e.1 first
  ]

  forth : (c : Criterion) → IsIn c (further table) → IsIn c cs
  forth c i =
      let parts = in_filter is_further (map.values table) c i in
      let at = value_in c (map.entries table) parts.0 in
      elim (one_of built_in_criteria cs at.0 c (got at.0 c at.1)) [
        | inl (among, name) ↦ among
        | inr first ↦ absurd
            (no_such c (map.get built_in_criteria c.name) (not_built c.name (not_true (is_built_in c.name) parts.1))
            (ap (map.get built_in_criteria) (built_named at.0 c first) ∙ first))
      ]

  back : (c : Criterion) → IsIn c cs → IsIn c (further table)
  back c i =
      let at : map.get table c.name ≡ Some c = found built_in_criteria cs once c i in
      filter_in is_further (map.values table) c
      (in_values c.name c (map.entries table)
      (find_in c.name (map.entries table) c (sym (map.get-entries table c.name) ∙ at)))
      (ap not (in_all (λ d. is_built_in d.name ≡ false) cs free c i))

  each_once : NamedOnce (λ c. c.name) (further table)
  each_once = AllPairs-filter (λ (a b : Criterion). a.name ≡ b.name → ⊥) is_further (map.values table)
      (values_once (map.entries table) (map.entries_sorted table) named)

pub further_are_defined : FurtherAreDefined
further_are_defined cs once free = ((forth cs once free, back cs once free), each_once cs once free)
