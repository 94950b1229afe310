-- When a content is the one held.
use Rattle.std.proofs.Common.{◌≡◌, ℕ, ◌&&◌, Bool, true, false, cond, List, [], ◌∷◌, nat_eq, Some, None, refl, sym, ap}
use Rattle.std.proofs.Common.{subst, ◌∙◌, inl, inr}
use Rattle.std.specs.List.{All, list_any, list_all}
use Rattle.std.specs.Ordering.{eq_by_cmp}
use Rattle.std.specs.Cmp.{eq_by_cmp_equiv}
use Rattle.std.specs.Cmp.Lexicographic.{pointwise}
use Rattle.std.specs.FinMap as map
use Rattle.std.proofs.lemmas.Bool.{false≢true, or_parts}
use Rattle.std.proofs.lemmas.Cmp.{nat_list_cmp_total}
use Rattle.std.proofs.lemmas.List.Elements.{All-nil, All-cons}
use Rattle.std.proofs.lemmas.Option.{same_Some}
use Rattle.vet_base.specs.declared.criterion.Criterion.{Criterion}
use Rattle.vet_base.specs.Criteria.{Criteria, built_in_criteria, run_criterion, deploy_criterion, safe_to_run}
use Rattle.vet_base.specs.Criteria.{safe_to_deploy}
use Rattle.vet_base.specs.CriteriaChanges.{is_built_in}
use Rattle.vet_base.specs.Defined.{defined}
use Rattle.vet_base.specs.Definitions.{criteria_eq}
use Rattle.vet_base.specs.DefinitionsLaws.{criteria_eq-Decides}
use Rattle.vet_base.specs.Items.{IsIn, NamedOnce, SameItems}
use Rattle.vet_base.proofs.Changes.{not_this}
use Rattle.vet_base.proofs.DefinedLaws.{get_with}
use Rattle.vet_base.proofs.DefinedTables.{with_criteria}
use Rattle.vet_base.proofs.Rising.{R, eq-itself, equal-from_eq, only_equal}
use Rattle.vet_entries.specs.declared.entry.Entry.{Entry}
use Rattle.vet_entries.specs.declared.facts.HeldEntry.{HeldEntry}
use Rattle.vet_entries.specs.Entry.{entry_eq}
use Rattle.vet_entries.specs.EntryLaws.{entry_eq-Decides}
use Rattle.vet_entries.specs.HeldPeer.{as_peers}
use Rattle.vet_entries.specs.ImportLaws.{SameItemsAreSame}
use Rattle.vet_entries.specs.Replaced.{comes_again, is_held}
use Rattle.vet_entries.specs.ReplacedLaws.{entries_of}
use Rattle.vet_base.proofs.ItemLemmas.{all_in, any_in, in_all, in_any, in_map, map_in, pairs_head, pairs_tail}

-- ---- what criteria that are named once define

abbrev name_of : Criterion → List ℕ
name_of c = c.name

other_name : (a b : List ℕ) → (a ≡ b → ⊥) → eq_by_cmp R a b ≡ false
other_name a b h = by (eq_by_cmp R a b) refl
  where
    by : (t : Bool) → eq_by_cmp R a b ≡ t → t ≡ false
    by true e = absurd (h (equal-from_eq a b e))
    by false e = refl

-- each is found under its name
get_named : (table : Criteria) (cs : List Criterion) (c : Criterion) → NamedOnce name_of cs → IsIn c cs
    → map.get (with_criteria table cs) c.name ≡ Some c
get_named table [] c once i = absurd i
get_named table (d ∷ cs) c once (inl e) =
    subst (λ (x : Criterion). map.get (with_criteria table (d ∷ cs)) x.name ≡ Some x) (sym e) (
    get_with (map.insert table d.name d) cs d.name
    (all_in (λ x. eq_by_cmp R d.name x.name ≡ false) cs
    (λ x i. other_name d.name x.name
    (in_all (λ y. d.name ≡ y.name → ⊥) cs (pairs_head (λ a b. name_of a ≡ name_of b → ⊥) d cs once) x i)))
    ∙ map.get-insert nat_list_cmp_total table d.name d d.name
    ∙ ap (λ b. cond b (Some d) (map.get table d.name)) (eq-itself d.name))
get_named table (d ∷ cs) c once (inr i) = get_named (map.insert table d.name d) cs c
    (pairs_tail (λ a b. name_of a ≡ name_of b → ⊥) d cs once) i

abbrev has_name : List ℕ → Criterion → Bool
has_name q c = eq_by_cmp R q c.name

none_has : (q : List ℕ) (cs : List Criterion) → list_any (has_name q) cs ≡ false
    → All (λ c. eq_by_cmp R q c.name ≡ false) cs
none_has q [] h = All-nil (λ (c : Criterion). eq_by_cmp R q c.name ≡ false)
none_has q (c ∷ cs) h =
    (let parts = or_parts (has_name q c) (list_any (has_name q) cs) h in All-cons (λ d. eq_by_cmp R q d.name ≡ false) c
    cs parts.0 (none_has q cs parts.1))

-- what has a name among some is found under it
get_of : (table : Criteria) (cs : List Criterion) (q : List ℕ) (c : Criterion) → NamedOnce name_of cs → IsIn c cs
    → has_name q c ≡ true → map.get (with_criteria table cs) q ≡ Some c
get_of table cs q c once i t = ap (map.get (with_criteria table cs)) (equal-from_eq q c.name t)
    ∙ get_named table cs c once i

-- the same criteria define the same, in whatever order
same_defined : (xs ys : List Criterion) → NamedOnce name_of xs → NamedOnce name_of ys → SameItems xs ys
    → defined xs ≡ defined ys
same_defined xs ys once once' same = map.same_map nat_list_cmp_total only_equal (defined xs) (defined ys)
    (λ q. by q (list_any (has_name q) xs) refl)
  where
    absent : (q : List ℕ) → list_any (has_name q) xs ≡ false → (b : Bool) → list_any (has_name q) ys ≡ b → b ≡ false
    absent q none true t =
        (let c = any_in (has_name q) ys t
        in absurd (false≢true (sym none ∙ in_any (has_name q) xs c.0 (same.1 c.0 c.1.0) c.1.1)))
    absent q none false t = refl

    by : (q : List ℕ) (b : Bool) → list_any (has_name q) xs ≡ b → map.get (defined xs) q ≡ map.get (defined ys) q
    by q true t =
        let c = any_in (has_name q) xs t in
        get_of built_in_criteria xs q c.0 once c.1.0 c.1.1
        ∙ sym (get_of built_in_criteria ys q c.0 once' (same.0 c.0 c.1.0) c.1.1)
    by q false t =
        get_with built_in_criteria xs q (none_has q xs t)
        ∙ sym (get_with built_in_criteria ys q (none_has q ys (absent q t (list_any (has_name q) ys) refl ∙ refl)))

-- a name that is not built in has no built-in criterion
none_built_in : (q : List ℕ) → is_built_in q ≡ false → map.get built_in_criteria q ≡ None
none_built_in q h =
    let parts = or_parts (pointwise nat_eq q safe_to_run) (pointwise nat_eq q safe_to_deploy) h in
    let turned = (eq_by_cmp_equiv nat_list_cmp_total).symm in
    get_with map.empty (run_criterion ∷ deploy_criterion ∷ []) q
    (All-cons (λ (c : Criterion). eq_by_cmp R q c.name ≡ false) run_criterion (deploy_criterion ∷ [])
    (turned q safe_to_run ∙ not_this q safe_to_run parts.0)
    (All-cons (λ (c : Criterion). eq_by_cmp R q c.name ≡ false) deploy_criterion []
    (turned q safe_to_deploy ∙ not_this q safe_to_deploy parts.1)
    (All-nil (λ (c : Criterion). eq_by_cmp R q c.name ≡ false))))
    ∙ map.get-empty R q

-- what further criteria define tells them
defined_items : (xs ys : List Criterion) → NamedOnce name_of xs → NamedOnce name_of ys
    → All (λ c. is_built_in c.name ≡ false) xs → defined xs ≡ defined ys → (c : Criterion) → IsIn c xs → IsIn c ys
defined_items xs ys once once' further same c i = by (list_any (has_name c.name) ys) refl
  where
    there : map.get (defined ys) c.name ≡ Some c
    there = ap (λ t. map.get t c.name) (sym same) ∙ get_named built_in_criteria xs c once i

    by : (b : Bool) → list_any (has_name c.name) ys ≡ b → IsIn c ys
    by true t =
        let d = any_in (has_name c.name) ys t in
        let it : d.0 ≡ c = same_Some d.0 c (sym (get_of built_in_criteria ys c.name d.0 once' d.1.0 d.1.1) ∙ there) in
        subst (λ x. IsIn x ys) it d.1.0
    by false t =
        let none : map.get (defined ys) c.name ≡ None = get_with built_in_criteria ys c.name (none_has c.name ys t)
        ∙ none_built_in c.name (in_all (λ x. is_built_in x.name ≡ false) xs further c i) in
        cc (sym none ∙ there)

-- ---- tests of all items

pub and_both : (a b : Bool) → (a && b) ≡ true → (a ≡ true) × (b ≡ true)
and_both true b t = (refl, t)
and_both false b t = absurd (false≢true t)

module _ {X : Type 0} (p : X → Bool) where
  all_pass : (xs : List X) → ((x : X) → IsIn x xs → p x ≡ true) → list_all p xs ≡ true
  all_pass [] h = refl
  all_pass (x ∷ xs) h = ap (λ b. b && list_all p xs) (h x (inl refl)) ∙ all_pass xs (λ y i. h y (inr i))

  pub passes : (xs : List X) → list_all p xs ≡ true → (x : X) → IsIn x xs → p x ≡ true
  passes [] t x i = absurd i
  passes (y ∷ xs) t x (inl e) = ap p e ∙ (and_both (p y) (list_all p xs) t).0
  passes (y ∷ xs) t x (inr i) = passes xs (and_both (p y) (list_all p xs) t).1 x i

-- ---- entries

module _ (held : List HeldEntry) (theirs : List Entry) where
  again_of : SameItems theirs (entries_of held) → list_all (comes_again theirs) held ≡ true
  again_of same = all_pass (comes_again theirs) held
      (λ h i. in_any (entry_eq h.entry) theirs h.entry (same.1 h.entry (map_in (λ (g : HeldEntry). g.entry) held h i))
      ((entry_eq-Decides h.entry h.entry).1 refl))

  held_of : SameItems theirs (entries_of held) → list_all (is_held held) theirs ≡ true
  held_of same = all_pass (is_held held) theirs (λ e i.
      (let h = in_map (λ (g : HeldEntry). g.entry) held e (same.0 e i) in
      in_any (λ (g : HeldEntry). entry_eq g.entry e) held h.0 h.1.0 ((entry_eq-Decides h.0.entry e).1 (sym h.1.1))))

  items_of : list_all (comes_again theirs) held ≡ true → list_all (is_held held) theirs ≡ true
      → SameItems theirs (entries_of held)
  items_of again here = (
    λ e i. (let h = any_in (λ (g : HeldEntry). entry_eq g.entry e) held (passes (is_held held) theirs here e i) in
        subst (λ x. IsIn x (entries_of held)) ((entry_eq-Decides h.0.entry e).0 h.1.1)
        (map_in (λ (g : HeldEntry). g.entry) held h.0 h.1.0)),
    λ e i. (let h = in_map (λ (g : HeldEntry). g.entry) held e i in
        let x = any_in (entry_eq h.0.entry) theirs (passes (comes_again theirs) held again h.0 h.1.0) in
        subst (λ y. IsIn y theirs) (sym (h.1.1 ∙ (entry_eq-Decides h.0.entry x.0).0 x.1.1)) x.1.0),
  )

pub same_items_are_same : SameItemsAreSame
same_items_are_same name held content criteria is table once further =
    let theirs = as_peers name content.entries in
    let again = list_all (comes_again theirs) held.entries in
    let here = list_all (is_held held.entries) theirs in
    let alike = criteria_eq (defined content.criteria) held.table in (
      λ t.
          (let first = and_both again (here && alike) t in
          let second = and_both here alike first.1 in
          let tables : defined content.criteria ≡ defined criteria =
          (criteria_eq-Decides (defined content.criteria) held.table).0 second.1 ∙ table in (
            (
              defined_items content.criteria criteria is.named_once once is.further tables,
              defined_items criteria content.criteria once is.named_once further (sym tables),
            ),
            items_of held.entries theirs first.0 second.0,
          )),
      λ h.
          (let tables : defined content.criteria ≡ held.table = same_defined content.criteria criteria is.named_once
          once h.0 ∙ sym table in
          ap (λ b. b && (here && alike)) (again_of held.entries theirs h.1)
          ∙ ap (λ b. b && alike) (held_of held.entries theirs h.1)
          ∙ (criteria_eq-Decides (defined content.criteria) held.table).1 tables),
    )
