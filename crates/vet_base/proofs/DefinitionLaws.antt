-- When criteria by their names are the same.
use Rattle.std.proofs.Common.{◌≡◌, ℕ, suc, Bool, true, false, cond, ◌&&◌, ◌⊎◌, ◌↔◌, List, [], ◌∷◌, get_or, nat_eq}
use Rattle.std.proofs.Common.{Option, Some, None, refl, sym, ap, subst, ◌∙◌, arith, inl, inr}
use Rattle.std.specs.Cmp.Lexicographic.{pointwise}
use Rattle.std.specs.List.{All}
use Rattle.std.specs.Ordering.{eq_by_cmp}
use Rattle.std.specs.FinMap as map
use Rattle.std.specs.Str.{bytes_eq}
use Rattle.std.proofs.lemmas.Bool.{cond-false, or_parts}
use Rattle.std.proofs.lemmas.Cmp.{nat_list_cmp_total, eq_by_cmp_equiv}
use Rattle.std.proofs.lemmas.Option.{same_Some}
use Rattle.vet_base.specs.declared.criterion.Criterion.{Criterion}
use Rattle.vet_base.specs.Criterion.{criterion_eq, same_text}
use Rattle.vet_base.specs.Names.{same_names}
use Rattle.vet_base.specs.Criteria.{Criteria, built_in_criteria, deploy_criterion, run_criterion, safe_to_deploy}
use Rattle.vet_base.specs.Criteria.{safe_to_run}
use Rattle.vet_base.specs.CriteriaChanges.{is_built_in}
use Rattle.vet_base.specs.Defined.{defined}
use Rattle.vet_base.specs.Definitions.{IsKept, by_name, criteria_eq, entry_eq}
use Rattle.vet_base.specs.Items.{IsIn, NamedOnce, SameItems}
use Rattle.vet_base.proofs.BuiltIn as built
use Rattle.vet_base.proofs.Changes.{not_this}
use Rattle.vet_base.proofs.DefinedLaws.{get_with}
use Rattle.vet_base.proofs.DefinedTables.{with_criteria}
use Rattle.vet_base.proofs.ItemLemmas.{in_all}
use Rattle.vet_base.proofs.Rising.{R, eq-itself, equal-from_eq, only_equal}
use Rattle.vet_base.proofs.Tables.{entries_kept}

-- ---- as their lists are compared

absorbed : (a b c d : Bool) → (a && b && c && d) ≡ (a && (a && b && c && d))
absorbed true b c d = refl
absorbed false b c d = refl

by_entries : (cs ds : List Criterion) → pointwise criterion_eq cs ds ≡ pointwise entry_eq (by_name cs) (by_name ds)
by_entries [] [] = refl
by_entries [] (d ∷ ds) = refl
by_entries (c ∷ cs) [] = refl
by_entries (c ∷ cs) (d ∷ ds) =
    λ i. absorbed (bytes_eq c.name d.name) (same_text c.description d.description) (same_text c.url d.url)
    (same_names c.implies d.implies) i && by_entries cs ds i

pub lists_compared : (ns ms : List (List ℕ)) (cs ds : List Criterion) → IsKept ns cs → IsKept ms ds → (a b : Criteria)
    → map.from_sorted {R = R} (by_name cs) ≡ a → map.from_sorted {R = R} (by_name ds) ≡ b
    → pointwise criterion_eq cs ds ≡ criteria_eq a b
lists_compared ns ms cs ds kept held a b is are =
    let first = sym (entries_kept ns cs kept) ∙ ap map.entries is in
    let second = sym (entries_kept ms ds held) ∙ ap map.entries are in
    by_entries cs ds ∙ (λ i. pointwise entry_eq (first i) (second i))

-- ---- what lists of criteria define

others : (x : Criterion) (xs : List Criterion) → NamedOnce (λ c. c.name) (x ∷ xs)
    → All (λ c. eq_by_cmp R x.name c.name ≡ false) xs
others x xs once k d l = apart (eq_by_cmp R x.name (get_or xs k d).name) refl
  where
    apart : (b : Bool) → eq_by_cmp R x.name (get_or xs k d).name ≡ b → b ≡ false
    apart false e = refl
    apart true e = absurd
        (once 0 (suc k) d (omega arith) (omega (arith, l)) (equal-from_eq x.name (get_or xs k d).name e))

later_once : (x : Criterion) (xs : List Criterion) → NamedOnce (λ c. c.name) (x ∷ xs) → NamedOnce (λ c. c.name) xs
later_once x xs once i j d l m = once (suc i) (suc j) d (omega (arith, l)) (omega (arith, m))

-- each of some criteria of different names is found
pub found : (table : Criteria) (cs : List Criterion) → NamedOnce (λ c. c.name) cs → (c : Criterion) → IsIn c cs
    → map.get (with_criteria table cs) c.name ≡ Some c
found table [] once c h = absurd h
found table (x ∷ xs) once c (inr later) = found (map.insert table x.name x) xs (later_once x xs once) c later
found table (x ∷ xs) once c (inl e) =
    let own : map.get (with_criteria (map.insert table x.name x) xs) x.name ≡ Some x =
    get_with (map.insert table x.name x) xs x.name (others x xs once)
    ∙ map.get-insert nat_list_cmp_total table x.name x x.name
    ∙ ap (λ b. cond b (Some x) (map.get table x.name)) (eq-itself x.name) in
    subst (λ d. map.get (with_criteria table (x ∷ xs)) d.name ≡ Some d) (sym e) own

-- what is found is one of them or was there before
pub one_of : (table : Criteria) (cs : List Criterion) (q : List ℕ) (c : Criterion) → map.get (with_criteria table cs) q
    ≡ Some c → (IsIn c cs × (c.name ≡ q)) ⊎ (map.get table q ≡ Some c)
one_of table [] q c h = inr h
one_of table (x ∷ xs) q c h = elim (one_of (map.insert table x.name x) xs q c h) [
  | inl (later, name) ↦ inl (inr later, name)
  | inr here ↦ by (eq_by_cmp R q x.name) refl (sym (map.get-insert nat_list_cmp_total table x.name x q) ∙ here)
]
  where
    by : (b : Bool) → eq_by_cmp R q x.name ≡ b → cond b (Some x) (map.get table q) ≡ Some c
        → (IsIn c (x ∷ xs) × (c.name ≡ q)) ⊎ (map.get table q ≡ Some c)
    by true e is =
        let same = sym (same_Some x c is) in
        inl (inl same, ap (λ (d : Criterion). d.name) same ∙ sym (equal-from_eq q x.name e))
    by false e is = inr is

-- no name but a built-in one is that of a built-in criterion
pub not_built : (n : List ℕ) → is_built_in n ≡ false → map.get built_in_criteria n ≡ None
not_built n h =
    let parts = or_parts (pointwise nat_eq n safe_to_run) (pointwise nat_eq n safe_to_deploy) h in
    let turned = (eq_by_cmp_equiv nat_list_cmp_total).symm in
    ap (λ t. map.get t n) (sym built.is_built_in) ∙ built.get_built_in n
    ∙ cond-false (eq_by_cmp R n safe_to_deploy) (Some deploy_criterion)
    (cond (eq_by_cmp R n safe_to_run) (Some run_criterion) None)
    (turned n safe_to_deploy ∙ not_this n safe_to_deploy parts.1)
    ∙ cond-false (eq_by_cmp R n safe_to_run) (Some run_criterion) None
    (turned n safe_to_run ∙ not_this n safe_to_run parts.0)

pub no_such : (c : Criterion) (o : Option Criterion) → o ≡ None → o ≡ Some c → ⊥
no_such c o e h = cc (sym e ∙ h)

abbrev pub NoneBuilt : List Criterion → Type 0
NoneBuilt cs = All (λ c. is_built_in c.name ≡ false) cs

module _ (a b : List Criterion) (a_free : NoneBuilt a) (b_free : NoneBuilt b) where
  -- what the one defines, the other defines, where it has the same criteria
  carried : NamedOnce (λ c. c.name) b → ((x : Criterion) → IsIn x a → IsIn x b) → (q : List ℕ) (c : Criterion)
      → map.get (defined a) q ≡ Some c → map.get (defined b) q ≡ Some c
  carried once held q c h = elim (one_of built_in_criteria a q c h) [
    | inl (among, name) ↦ ap (map.get (defined b)) (sym name) ∙ found built_in_criteria b once c (held c among)
    | inr first ↦ get_with built_in_criteria b q
        (λ k d l. stays (get_or b k d) (b_free k d l) first (eq_by_cmp R q (get_or b k d).name) refl) ∙ first
  ]
    where
      stays : (d : Criterion) → is_built_in d.name ≡ false → map.get built_in_criteria q ≡ Some c → (t : Bool)
          → eq_by_cmp R q d.name ≡ t → t ≡ false
      stays d free first false e = refl
      stays d free first true e =
          absurd (no_such c (map.get built_in_criteria q)
          (ap (map.get built_in_criteria) (equal-from_eq q d.name e) ∙ not_built d.name free) first)

  -- where the one defines what the other does, its criteria are the other's
  shared : NamedOnce (λ c. c.name) a → defined a ≡ defined b → (x : Criterion) → IsIn x a → IsIn x b
  shared once e x among =
      elim (one_of built_in_criteria b x.name x
      (ap (λ t. map.get t x.name) (sym e) ∙ found built_in_criteria a once x among)) [
        | inl (held, name) ↦ held
        | inr first ↦ absurd
            (no_such x (map.get built_in_criteria x.name)
            (not_built x.name (in_all (λ c. is_built_in c.name ≡ false) a a_free x among)) first)
      ]

alike : (o p : Option Criterion) → ((c : Criterion) → o ≡ Some c → p ≡ Some c)
    → ((c : Criterion) → p ≡ Some c → o ≡ Some c) → o ≡ p
alike (Some c) p f g = sym (f c refl)
alike None (Some c) f g = g c refl
alike None None f g = refl

pub same_definitions : (a b : List Criterion) → NamedOnce (λ c. c.name) a → NamedOnce (λ c. c.name) b → NoneBuilt a
    → NoneBuilt b → (defined a ≡ defined b) ↔ SameItems a b
same_definitions a b a_once b_once a_free b_free = (
  λ e. (shared a b a_free b_free a_once e, shared b a b_free a_free b_once (sym e)),
  λ h. map.same_map nat_list_cmp_total only_equal _ _
      (λ q. alike (map.get (defined a) q) (map.get (defined b) q) (carried a b a_free b_free b_once h.0 q)
      (carried b a b_free a_free a_once h.1 q)),
)
