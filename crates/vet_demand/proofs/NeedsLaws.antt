-- The function of needs tells the least needs.
use Rattle.std.proofs.Common.{◌≡◌, ◌⊎◌, ◌↔◌, ℕ, ◌<◌, ◌&&◌, Bool, true, false, List, [], ◌∷◌, filter, length, Option}
use Rattle.std.proofs.Common.{Some, None, refl, sym, ap, subst, ◌∙◌, inl, inr, eq-eqb, eqb-true}
use Rattle.std.specs.List.{Contains, range_with_len}
use Rattle.std.specs.Option.{option_map_or}
use Rattle.std.specs.Prelude.{is_none}
use Rattle.std.proofs.lemmas.Bool.{and_from, and_parts, or_cases, or_left, or_right}
use Rattle.vet_base.specs.Criteria.{Criteria}
use Rattle.vet_base.specs.Names.{NameSet}
use Rattle.vet_demand.proofs.Lists.{any_from, below_range, from_any, from_filter, in_none, in_range, to_filter}
use Rattle.vet_base.proofs.ListLemmas.{Contains-cons_cases, Contains-here, Contains-later}
use Rattle.vet_demand.specs.Needs.{IsNeeded, covers, is_needed, leads, own_at, passed_by, passes_listed, passes_on}
use Rattle.vet_demand.specs.Needs.IsNeeded.{own, passed, passed_on}
use Rattle.vet_demand.specs.Project.{ProjectValue}
use Rattle.vet_demand.specs.declared.policies.KeyedPolicy.{KeyedPolicy}
use Rattle.vet_demand.specs.declared.project.Edge.{Edge}

-- ---- edges that lead on

leads_more : (e : Edge) (rest : List Edge) (u v : ℕ) → leads rest u v ≡ true → leads (e ∷ rest) u v ≡ true
unfolding leads
leads_more e rest u v h = or_left (leads rest u v) (leads rest u e.from && leads rest e.to v) h

leads_over : (e : Edge) (rest : List Edge) (u v : ℕ) → leads rest u e.from ≡ true → leads rest e.to v ≡ true
    → leads (e ∷ rest) u v ≡ true
unfolding leads
leads_over e rest u v a b = or_right (leads rest u v) (leads rest u e.from && leads rest e.to v) (and_from _ _ a b)

leads_cases : (e : Edge) (rest : List Edge) (u v : ℕ) → leads (e ∷ rest) u v ≡ true → (leads rest u v ≡ true)
    ⊎ ((leads rest u e.from ≡ true) × (leads rest e.to v ≡ true))
unfolding leads
leads_cases e rest u v h = elim (or_cases (leads rest u v) (leads rest u e.from && leads rest e.to v) h) [
  | inl more ↦ inl more
  | inr over ↦ inr (and_parts _ _ over)
]

-- none of them leads to the place itself
leads_itself : (es : List Edge) (u : ℕ) → leads es u u ≡ true
unfolding leads
leads_itself [] u = eq-eqb u u refl
leads_itself (e ∷ rest) u = leads_more e rest u u (leads_itself rest u)

leads_none : (u v : ℕ) → leads [] u v ≡ true → u ≡ v
unfolding leads
leads_none u v h = eqb-true u v h

leads_on : (es : List Edge) (u v w : ℕ) → leads es u v ≡ true → leads es v w ≡ true → leads es u w ≡ true
leads_on [] u v w a b = subst (λ x. leads [] x w ≡ true) (sym (leads_none u v a)) b
leads_on (e ∷ rest) u v w a b = elim (leads_cases e rest u v a) [
  | inl first ↦ elim (leads_cases e rest v w b) [
    | inl second ↦ leads_more e rest u w (leads_on rest u v w first second)
    | inr second ↦ leads_over e rest u w (leads_on rest u v e.from first second.0) second.1
  ]
  | inr first ↦ elim (leads_cases e rest v w b) [
    | inl second ↦ leads_over e rest u w first.0 (leads_on rest e.to v w first.1 second)
    | inr second ↦ leads_over e rest u w first.0 second.1
  ]
]

leads_by : (es : List Edge) (e : Edge) → Contains es e → leads es e.from e.to ≡ true
leads_by [] e held = in_none e held
leads_by (d ∷ rest) e held = elim (Contains-cons_cases d rest e held) [
  | inl here ↦ leads_over d rest e.from e.to
      (subst (λ (x : Edge). leads rest x.from d.from ≡ true) here (leads_itself rest d.from))
      (subst (λ (x : Edge). leads rest d.to x.to ≡ true) here (leads_itself rest d.to))
  | inr there ↦ leads_more d rest e.from e.to (leads_by rest e there)
]

-- what holds where they start, and where each ends if it holds where it starts, holds where they lead
led : (P : ℕ → Type 0) (es : List Edge) → ((e : Edge) → Contains es e → P e.from → P e.to) → (u v : ℕ)
    → leads es u v ≡ true → P u → P v
led P [] closed u v h at = subst P (leads_none u v h) at
led P (e ∷ rest) closed u v h at =
    let more = led P rest (λ d held. closed d (Contains-later e d rest held)) in
    elim (leads_cases e rest u v h) [
      | inl first ↦ more u v first at
      | inr over ↦ more e.to v over.1 (closed e (Contains-here e rest) (more u e.from over.0 at))
    ]

-- ---- needs

some_list : (test : NameSet → Bool) (o : Option NameSet) → option_map_or test o false ≡ true → (names : NameSet)
    × (o ≡ Some names) × (test names ≡ true)
some_list test None h = cc h
some_list test (Some names) h = (names, refl, h)

none_there : (o : Option NameSet) → is_none o ≡ true → o ≡ None
none_there None h = refl
none_there (Some names) h = cc h

module _ (policies : List KeyedPolicy) (criteria : Criteria) (project : ProjectValue) (c : List ℕ) where
  on : List Edge
  on = filter (passes_on policies project.nodes) project.edges

  by_itself : ℕ → Bool
  by_itself u = covers criteria c (own_at policies project.nodes u)

  -- it is needed at a place by itself, or an edge passes it there
  data Source : ℕ → Type 0 where
    by_node : {u : ℕ} → u < length project.nodes → by_itself u ≡ true → Source u
    by_edge : (e : Edge) → Contains project.edges e → passes_listed policies criteria project.nodes c e ≡ true
        → Source e.to

  tells : (u v : ℕ) → Source u → leads on u v ≡ true → is_needed policies criteria project c v ≡ true
  unfolding on by_itself
  tells u v (by_node low h) l =
      or_left _ _ (any_from (λ u. by_itself u && leads on u v) (range_with_len 0 (length project.nodes)) u
      (in_range (length project.nodes) u low) (and_from _ _ h l))
  tells u v (by_edge e held h) l =
      or_right _ _ (any_from (λ e. passes_listed policies criteria project.nodes c e && leads on e.to v)
      project.edges e held (and_from _ _ h l))

  told : (v : ℕ) → is_needed policies criteria project c v ≡ true → (u : ℕ) × Source u × (leads on u v ≡ true)
  unfolding on by_itself
  told v h = elim (or_cases _ _ h) [
    | inl node ↦ (let r = from_any (λ u. by_itself u && leads on u v) (range_with_len 0 (length project.nodes)) node in
        let parts = and_parts _ _ r.2 in
        (r.0, by_node (below_range (length project.nodes) r.0 r.1) parts.0, parts.1))
    | inr edge ↦ (let r = from_any (λ e. passes_listed policies criteria project.nodes c e && leads on e.to v)
        project.edges edge in
        let parts = and_parts _ _ r.2 in
        (r.0.to, by_edge r.0 r.1 parts.0, parts.1))
  ]

  needed_at : (u : ℕ) → Source u → IsNeeded policies criteria project c u
  unfolding by_itself
  needed_at u (by_node low h) = own low h
  needed_at u (by_edge e held h) =
      let parts = and_parts _ _ h in
      let list = some_list (covers criteria c) (passed_by policies project.nodes e) parts.1 in
      passed e held parts.0 list.0 list.1 list.2

  sound : (v : ℕ) → is_needed policies criteria project c v ≡ true → IsNeeded policies criteria project c v
  unfolding on
  sound v h =
      let r = told v h in
      led (IsNeeded policies criteria project c) on
      (λ e held at. (let inside = from_filter (passes_on policies project.nodes) project.edges e held in
      let parts = and_parts _ _ inside.1 in
      passed_on e inside.0 parts.0 (none_there _ parts.1) at))
      r.0 v r.2 (needed_at r.0 r.1)

  complete : (v : ℕ) → IsNeeded policies criteria project c v → is_needed policies criteria project c v ≡ true
  unfolding on by_itself
  complete v (own low h) = tells v v (by_node low h) (leads_itself on v)
  complete v (passed e held t names is h) =
      tells e.to e.to
      (by_edge e held (and_from _ _ t (ap (λ o. option_map_or (covers criteria c) o false) is ∙ h)))
      (leads_itself on e.to)
  complete v (passed_on e held t is at) =
      let r = told e.from (complete e.from at) in
      tells r.0 e.to r.1
      (leads_on on r.0 e.from e.to r.2
      (leads_by on e (to_filter (passes_on policies project.nodes) project.edges e held
      (and_from _ _ t (ap is_none is)))))

  pub needs-iff : (v : ℕ) → (is_needed policies criteria project c v ≡ true) ↔ IsNeeded policies criteria project c v
  needs-iff v = (sound v, complete v)
