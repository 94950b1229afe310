-- How the flow of a project grows edge by edge, and what it leads to in the end.
use Rattle.std.proofs.Common.{◌≡◌, ◌⊎◌, ◌↔◌, ℕ, ◌+◌, ◌<◌, ◌||◌, true, false, List, [], ◌∷◌, ◌++◌, Option, Some, None}
use Rattle.std.proofs.Common.{Bor, length, get_or, map, replicate, set, refl, sym, ap, subst, ◌∙◌, inl, inr, arith}
use Rattle.std.proofs.Common.{nat_lt, lt-ltb, take}
use Rattle.std.specs.Cmp.{nat_cmp_total}
use Rattle.std.specs.FinMap as table
use Rattle.std.specs.FinSet as places
use Rattle.std.specs.List.{All, Contains}
use Rattle.std.specs.Option.{option_copied}
use Rattle.std.proofs.lemmas.Bool.{cases_eq, cases_lt, false≢true, or_cases, or_left, or_right}
use Rattle.std.proofs.lemmas.List.{get_or-map, get_or-replicate, get_or-set_other, get_or-set_same, get_or_default}
use Rattle.std.proofs.lemmas.List.{get_or_past, length-map, length-replicate, length-set, map-append}
use Rattle.std.proofs.lemmas.List.Elements.{All-contains, All-nil, All-push, Contains-append_left, Contains-push}
use Rattle.std.proofs.lemmas.List.Elements.{Contains-push_cases}
use Rattle.std.proofs.lemmas.Option.{same_Some}
use Rattle.vet_base.specs.Criteria.{Criteria}
use Rattle.vet_base.specs.CriteriaSet.{Places, has}
use Rattle.vet_base.specs.Names.{NameSet}
use Rattle.vet_base.proofs.Tables.{len-keys}
use Rattle.vet_demand.proofs.Closing.{covers_at}
use Rattle.vet_demand.proofs.Lists.{in_none, one_more}
use Rattle.vet_demand.specs.Flow.{AreNeeds, ArePoliciesOf, Begins, Follows, GoesOn, IsFlow, PassesAt, PassesOn}
use Rattle.vet_demand.specs.Flow.{own_places}
use Rattle.vet_demand.specs.Needs.{IsNeeded, covers, no_node, node_at, own_at, passed_by, takes_at}
use Rattle.vet_demand.specs.Needs.IsNeeded.{own, passed, passed_on}
use Rattle.vet_demand.specs.Passed.{own_criteria, passed_criteria, policy_for, takes}
use Rattle.vet_demand.specs.Project.{IsWithin, ProjectValue}
use Rattle.vet_demand.specs.Spread.{AreSpread, IsLed, stands}
use Rattle.vet_demand.specs.Spread.IsLed.{at_start, led_on}
use Rattle.vet_demand.specs.Terms.{closed_places}
use Rattle.vet_demand.specs.declared.policies.KeyedPolicy.{KeyedPolicy}
use Rattle.vet_demand.specs.declared.policy.Policy.{Policy}
use Rattle.vet_demand.specs.declared.project.Edge.{Edge}
use Rattle.vet_demand.specs.declared.project.Node.{Node}

-- ---- as the code reads nodes and their policies

pub policies_count : (policies : List KeyedPolicy) (nodes : List Node) (found : List (Option (Bor Policy)))
    → ArePoliciesOf policies nodes found → length found ≡ length nodes
policies_count policies nodes found h = sym (length-map found option_copied) ∙ ap length h
    ∙ length-map nodes (policy_for policies)

pub policy_at : (policies : List KeyedPolicy) (nodes : List Node) (found : List (Option (Bor Policy))) (i : ℕ)
    (node : Node) (policy : Option (Bor Policy)) → ArePoliciesOf policies nodes found → i < length nodes
    → node ≡ get_or nodes i node → policy ≡ get_or found i policy
    → option_copied policy ≡ policy_for policies (node_at nodes i)
policy_at policies nodes found i node policy h low is at =
    ap option_copied at
    ∙ sym (get_or-map option_copied found i policy None
    (subst (λ n. i < n) (sym (policies_count policies nodes found h)) low))
    ∙ ap (λ (os : List (Option Policy)). get_or os i None) h
    ∙ get_or-map (policy_for policies) nodes i no_node None low

pub node_is : (nodes : List Node) (i : ℕ) (node : Node) → i < length nodes → node ≡ get_or nodes i node
    → node ≡ node_at nodes i
node_is nodes i node low is = is ∙ get_or_default nodes i node no_node low

module _ (policies : List KeyedPolicy) (nodes : List Node) (found : List (Option (Bor Policy)))
    (h : ArePoliciesOf policies nodes found) (i : ℕ) (node : Node) (policy : Option (Bor Policy))
    (low : i < length nodes) (is : node ≡ get_or nodes i node) (at : policy ≡ get_or found i policy) where
  pub takes_read : takes node.party (option_copied policy) ≡ takes_at policies nodes i
  takes_read = λ j. takes (node_is nodes i node low is j).party
      (policy_at policies nodes found i node policy h low is at j)

  pub own_read : (criteria : Criteria) → closed_places criteria (own_criteria node.party (option_copied policy))
      ≡ own_places policies criteria (node_at nodes i)
  own_read criteria = λ j. closed_places criteria (own_criteria (node_is nodes i node low is j).party
      (policy_at policies nodes found i node policy h low is at j))

  pub passed_read : (e : Edge) (to : Node) → i ≡ e.from → e.to < length nodes → to ≡ get_or nodes e.to to
      → passed_criteria e.kind node.party (option_copied policy) to.«package» ≡ passed_by policies nodes e
  passed_read e to from within there =
      (λ j. passed_criteria e.kind (node_is nodes i node low is j).party
      (policy_at policies nodes found i node policy h low is at j) (node_is nodes e.to to within there j).«package»)
      ∙ ap (λ u. passed_criteria e.kind (node_at nodes u).party (policy_for policies (node_at nodes u))
      (node_at nodes e.to).«package») from

-- what one node more needs by itself
pub own_next : (policies : List KeyedPolicy) (criteria : Criteria) (nodes : List Node) (i : ℕ)
    (needs more : List Places) (set : Places) → i < length nodes
    → needs ≡ map (own_places policies criteria) (take i nodes)
    → set ≡ own_places policies criteria (node_at nodes i) → more ≡ needs ++ set ∷ []
    → more ≡ map (own_places policies criteria) (take (i + 1) nodes)
own_next policies criteria nodes i needs more set low so_far here is =
    is ∙ (λ j. so_far j ++ here j ∷ [])
    ∙ sym (ap (map (own_places policies criteria)) (one_more nodes i no_node low)
    ∙ map-append (own_places policies criteria) (take i nodes) (node_at nodes i ∷ []))

module _ (policies : List KeyedPolicy) (criteria : Criteria) (nodes : List Node) where
  -- ---- what an edge adds

  Begins-still : (edges : List Edge) (e : Edge) (p v : ℕ) → Begins policies criteria nodes edges p v
      → Begins policies criteria nodes (edges ++ e ∷ []) p v
  Begins-still edges e p v (inl itself) = inl itself
  Begins-still edges e p v (inr (d, held, to, passes)) = inr (d, Contains-append_left edges (e ∷ []) d held, to, passes)

  Begins-new : (edges : List Edge) (e : Edge) (p v : ℕ) → e.to ≡ v → PassesAt policies criteria nodes p e
      → Begins policies criteria nodes (edges ++ e ∷ []) p v
  Begins-new edges e p v to passes = inr (e, Contains-push edges e, to, passes)

  Begins-cases : (edges : List Edge) (e : Edge) (p v : ℕ) → Begins policies criteria nodes (edges ++ e ∷ []) p v
      → Begins policies criteria nodes edges p v ⊎ ((e.to ≡ v) × PassesAt policies criteria nodes p e)
  Begins-cases edges e p v (inl itself) = inl (inl itself)
  Begins-cases edges e p v (inr (d, held, to, passes)) = elim (Contains-push_cases edges e d held) [
    | inl was ↦ inl (inr (d, was, to, passes))
    | inr same ↦ inr (ap (λ (x : Edge). x.to) same ∙ to, subst (PassesAt policies criteria nodes p) (sym same) passes)
  ]

  GoesOn-still : (edges : List Edge) (e : Edge) (u v : ℕ) → GoesOn policies nodes edges u v
      → GoesOn policies nodes (edges ++ e ∷ []) u v
  GoesOn-still edges e u v (d, held, from, to, passes) =
      (d, Contains-append_left edges (e ∷ []) d held, from, to, passes)

  GoesOn-new : (edges : List Edge) (e : Edge) (u v : ℕ) → e.from ≡ u → e.to ≡ v → PassesOn policies nodes e
      → GoesOn policies nodes (edges ++ e ∷ []) u v
  GoesOn-new edges e u v from to passes = (e, Contains-push edges e, from, to, passes)

  GoesOn-cases : (edges : List Edge) (e : Edge) (u v : ℕ) → GoesOn policies nodes (edges ++ e ∷ []) u v
      → GoesOn policies nodes edges u v ⊎ ((e.from ≡ u) × (e.to ≡ v) × PassesOn policies nodes e)
  GoesOn-cases edges e u v (d, held, from, to, passes) = elim (Contains-push_cases edges e d held) [
    | inl was ↦ inl (d, was, from, to, passes)
    | inr same ↦ inr (
      ap (λ (x : Edge). x.from) same ∙ from,
      ap (λ (x : Edge). x.to) same ∙ to,
      subst (PassesOn policies nodes) (sym same) passes,
    )
  ]

  -- ---- the flow

  pub IsFlow-start : (needs : List Places) (onward : List (List ℕ))
      → needs ≡ map (own_places policies criteria) nodes → onward ≡ replicate (length nodes) []
      → IsFlow policies criteria nodes [] needs onward
  IsFlow-start needs onward e f =
      let none : (u : ℕ) (d : List ℕ) → u < length nodes → get_or onward u d ≡ [] =
      λ u d l. ap (λ (o : List (List ℕ)). get_or o u d) f ∙ get_or-replicate {A = List ℕ} (length nodes) u [] d l in
      let itself : (v : ℕ) → v < length nodes → get_or needs v places.empty ≡ closed_places criteria
      (own_at policies nodes v) =
      λ v l. ap (λ (s : List Places). get_or s v places.empty) e ∙ get_or-map (own_places policies criteria)
      nodes v no_node places.empty l in
      let many : length onward ≡ length nodes = ap length f ∙ length-replicate (length nodes) [] in
      record {
        count = ap length e ∙ length-map nodes (own_places policies criteria);
        lists = many;
        below = λ k d l. subst (All (λ v. v < length nodes)) (sym (none k d (omega (arith, l, many))))
            (All-nil (λ v. v < length nodes));
        begin = λ p v l. (
          λ s. inl (ap (has p) (sym (itself v l)) ∙ s),
          λ b. elim b [ inl own_need ↦ ap (has p) (itself v l) ∙ own_need | inr by ↦ in_none by.0 by.1 ],
        );
        go_on = λ u v l. (
          λ w. in_none v (subst (λ (o : List ℕ). Contains o v) (none u [] l) w),
          λ g. in_none g.0 g.1,
        );
      }

  -- an edge that passes nothing
  IsFlow-same : (e : Edge) (needs : List Places) (onward : List (List ℕ))
      → ((p : ℕ) → PassesAt policies criteria nodes p e → ⊥) → (PassesOn policies nodes e → ⊥)
      → Follows policies criteria nodes e needs onward needs onward
  IsFlow-same e needs onward no_list no_way edges h = record {
    count = h.count;
    lists = h.lists;
    below = h.below;
    begin = λ p v l. (
      λ s. Begins-still edges e p v ((h.begin p v l).0 s),
      λ b. elim (Begins-cases edges e p v b) [ inl was ↦ (h.begin p v l).1 was | inr new ↦ absurd (no_list p new.1) ],
    );
    go_on = λ u v l. (
      λ w. GoesOn-still edges e u v ((h.go_on u v l).0 w),
      λ g. elim (GoesOn-cases edges e u v g) [ inl was ↦ (h.go_on u v l).1 was | inr new ↦ absurd (no_way new.2) ],
    );
  }

  pub Follows-not_taken : (e : Edge) (needs : List Places) (onward : List (List ℕ))
      → takes_at policies nodes e.to ≡ false → Follows policies criteria nodes e needs onward needs onward
  Follows-not_taken e needs onward none =
      IsFlow-same e needs onward (λ p passes. false≢true (sym none ∙ passes.0))
      (λ passes. false≢true (sym none ∙ passes.0))

  -- an edge that passes a list
  pub Follows-listed : (e : Edge) (needs : List Places) (onward : List (List ℕ)) (names : NameSet)
      → IsWithin (length nodes) e → takes_at policies nodes e.to ≡ true → passed_by policies nodes e ≡ Some names
      → Follows policies criteria nodes e needs onward
      (set needs e.to (places.union (get_or needs e.to places.empty) (closed_places criteria names))) onward
  Follows-listed e needs onward names within t is edges h =
      let old = get_or needs e.to places.empty in
      let more = closed_places criteria names in
      let here : get_or (set needs e.to (places.union old more)) e.to places.empty ≡ places.union old more =
      get_or-set_same needs e.to (places.union old more) places.empty (omega (arith, within.1, h.count)) in
      let either : (p : ℕ) → has p (places.union old more) ≡ (has p old || has p more) =
      λ p. places.contains-union nat_cmp_total old more p in
      record {
        count = length-set needs e.to (places.union old more) ∙ h.count;
        lists = h.lists;
        below = h.below;
        begin = λ p v l. elim (cases_eq v e.to) [
          | inl same ↦ subst (λ w. stands p (set needs e.to (places.union old more)) w
              ↔ Begins policies criteria nodes (edges ++ e ∷ []) p w) (sym same) (
                λ s. elim (or_cases (has p old) (has p more) (sym (either p) ∙ ap (has p) (sym here) ∙ s)) [
                  | inl was ↦ Begins-still edges e p e.to ((h.begin p e.to within.1).0 was)
                  | inr new ↦ Begins-new edges e p e.to refl (t, (names, is, new))
                ],
                λ b. ap (has p) here ∙ either p ∙ elim (Begins-cases edges e p e.to b) [
                  | inl was ↦ or_left (has p old) (has p more) ((h.begin p e.to within.1).1 was)
                  | inr new ↦ or_right (has p old) (has p more)
                      (ap (λ n. has p (closed_places criteria n)) (same_Some names new.1.1.0 (sym is ∙ new.1.1.1))
                      ∙ new.1.1.2)
                ],
              )
          | inr differs ↦ (let there = get_or-set_other needs e.to v (places.union old more) places.empty differs in (
            λ s. Begins-still edges e p v ((h.begin p v l).0 (ap (has p) (sym there) ∙ s)),
            λ b. ap (has p) there ∙ elim (Begins-cases edges e p v b) [
              | inl was ↦ (h.begin p v l).1 was
              | inr new ↦ absurd (differs (sym new.0))
            ],
          ))
        ];
        go_on = λ u v l. (
          λ w. GoesOn-still edges e u v ((h.go_on u v l).0 w),
          λ g. elim (GoesOn-cases edges e u v g) [
            | inl was ↦ (h.go_on u v l).1 was
            | inr new ↦ absurd (no_list names (sym is ∙ new.2.1))
          ],
        );
      }
    where
      no_list : (n : NameSet) → ◌≡◌ {A = Option NameSet} (Some n) None → ⊥
      no_list n q = cc q

  -- an edge that passes what its node needs
  pub Follows-on : (e : Edge) (needs : List Places) (onward : List (List ℕ)) → IsWithin (length nodes) e
      → takes_at policies nodes e.to ≡ true → passed_by policies nodes e ≡ None
      → Follows policies criteria nodes e needs onward needs (set onward e.from (get_or onward e.from [] ++ e.to ∷ []))
  Follows-on e needs onward within t is edges h =
      let old = get_or onward e.from [] in
      let new = old ++ e.to ∷ [] in
      let low : e.from < length onward = omega (arith, within.0, h.lists) in
      record {
        count = h.count;
        lists = length-set onward e.from new ∙ h.lists;
        below = λ k d l. elim (cases_eq k e.from) [
          | inl same ↦ subst (All (λ v. v < length nodes))
              (sym (ap (λ j. get_or (set onward e.from new) j d) same ∙ get_or-set_same onward e.from new d low))
              (All-push (λ v. v < length nodes) old e.to (h.below e.from [] low) within.1)
          | inr differs ↦ subst (All (λ v. v < length nodes)) (sym (get_or-set_other onward e.from k new d differs))
              (h.below k d (subst (λ n. k < n) (length-set onward e.from new) l))
        ];
        begin = λ p v l. (
          λ s. Begins-still edges e p v ((h.begin p v l).0 s),
          λ b. elim (Begins-cases edges e p v b) [
            | inl was ↦ (h.begin p v l).1 was
            | inr more ↦ absurd (no_list more.1.1.0 (sym more.1.1.1 ∙ is))
          ],
        );
        go_on = λ u v l. elim (cases_eq u e.from) [
          | inl same ↦ subst (λ w. Contains (get_or (set onward e.from new) w []) v
              ↔ GoesOn policies nodes (edges ++ e ∷ []) w v) (sym same) (
                λ w. elim (Contains-push_cases old e.to v
                    (subst (λ (o : List ℕ). Contains o v) (get_or-set_same onward e.from new [] low) w)) [
                      | inl was ↦ GoesOn-still edges e e.from v ((h.go_on e.from v within.0).0 was)
                      | inr to ↦ GoesOn-new edges e e.from v refl to (t, is)
                    ],
                λ g. subst (λ (o : List ℕ). Contains o v) (sym (get_or-set_same onward e.from new [] low))
                    (elim (GoesOn-cases edges e e.from v g) [
                      | inl was ↦ Contains-append_left old (e.to ∷ []) v ((h.go_on e.from v within.0).1 was)
                      | inr more ↦ subst (Contains new) more.1 (Contains-push old e.to)
                    ]),
              )
          | inr differs ↦ (let there = get_or-set_other onward e.from u new [] differs in (
            λ w. GoesOn-still edges e u v ((h.go_on u v l).0 (subst (λ (o : List ℕ). Contains o v) there w)),
            λ g. subst (λ (o : List ℕ). Contains o v) (sym there) (elim (GoesOn-cases edges e u v g) [
              | inl was ↦ (h.go_on u v l).1 was
              | inr more ↦ absurd (differs (sym more.0))
            ]),
          ))
        ];
      }
    where
      no_list : (n : NameSet) → ◌≡◌ {A = Option NameSet} (Some n) None → ⊥
      no_list n q = cc q

-- ---- what it leads to

module _ (policies : List KeyedPolicy) (criteria : Criteria) (project : ProjectValue)
    (within : All (IsWithin (length project.nodes)) project.edges) (begins : List Places) (onward : List (List ℕ))
    (flow : IsFlow policies criteria project.nodes project.edges begins onward) (p : ℕ)
    (low : nat_lt p (table.len criteria) ≡ true) where
  name : List ℕ
  name = get_or (table.keys criteria) p []

  covered : (names : NameSet) → has p (closed_places criteria names) ≡ covers criteria name names
  unfolding name
  covered names = covers_at criteria names p low

  needed : (v : ℕ) → IsLed (stands p begins) onward v → v < length project.nodes
      → IsNeeded policies criteria project name v
  needed v (at_start s) l = elim ((flow.begin p v l).0 s) [
    | inl itself ↦ own l (sym (covered (own_at policies project.nodes v)) ∙ itself)
    | inr by ↦ subst (IsNeeded policies criteria project name) by.2
        (passed by.0 by.1 by.3.0 by.3.1.0 by.3.1.1 (sym (covered by.3.1.0) ∙ by.3.1.2))
  ]
  needed v (led_on {u = u} led at) l =
      let inside : u < length project.nodes = place_within u v at in
      let by = (flow.go_on u v inside).0 at in
      subst (IsNeeded policies criteria project name) by.3
      (passed_on by.0 by.1 by.4.0 by.4.1 (subst (IsNeeded policies criteria project name) (sym by.2)
      (needed u led inside)))
    where
      place_within : (u v : ℕ) → Contains (get_or onward u []) v → u < length project.nodes
      place_within u v at = elim (cases_lt u (length onward)) [
        | inl inside ↦ omega (arith, inside, flow.lists)
        | inr past ↦ in_none v (subst (λ (o : List ℕ). Contains o v) (get_or_past onward u [] past) at)
      ]

  ends_within : (e : Edge) → Contains project.edges e → IsWithin (length project.nodes) e
  ends_within e held = All-contains (IsWithin (length project.nodes)) project.edges e within held

  led : (v : ℕ) → IsNeeded policies criteria project name v → IsLed (stands p begins) onward v
  led v (own l h) = at_start ((flow.begin p v l).1 (inl (covered (own_at policies project.nodes v) ∙ h)))
  led v (passed e held t names is h) =
      at_start ((flow.begin p e.to (ends_within e held).1).1 (inr (e, held, refl, (t, (names, is, covered names ∙ h)))))
  led v (passed_on e held t is at) =
      led_on (led e.from at) ((flow.go_on e.from e.to (ends_within e held).0).1 (e, held, refl, refl, (t, is)))

  pub led-iff : (v : ℕ) → v < length project.nodes → IsLed (stands p begins) onward v
      ↔ IsNeeded policies criteria project (get_or (table.keys criteria) p []) v
  unfolding name
  led-iff v l = (λ i. needed v i l, led v)

pub AreNeeds-spread : (policies : List KeyedPolicy) (criteria : Criteria) (project : ProjectValue)
    (begins : List Places) (onward : List (List ℕ)) (needs : List Places)
    → All (IsWithin (length project.nodes)) project.edges
    → IsFlow policies criteria project.nodes project.edges begins onward
    → AreSpread (length (table.keys criteria)) onward begins needs → AreNeeds policies criteria project needs
AreNeeds-spread policies criteria project begins onward needs within flow spread = record {
  count = spread.count ∙ flow.count;
  least = λ p v l m.
      let all = led-iff policies criteria project within begins onward flow p
      (lt-ltb p (table.len criteria) (subst (λ n. p < n) (sym (len-keys criteria)) l)) v m in
      let spreads = spread.led p v l in
      (λ s. all.0 (spreads.0 s), λ n. spreads.1 (all.1 n));
}
