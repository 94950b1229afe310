-- The audited nodes of projects, and the pairs that are made of them.
use Rattle.std.proofs.Common.{◌≡◌, ◌≢◌, ◌==◌, ◌⊎◌, ◌↔◌, eq-eqb, ℕ, ◌+◌, ◌<◌, Bool, true, false, cond, List, [], ◌∷◌}
use Rattle.std.proofs.Common.{◌++◌, Option, length, get_or, take, refl, sym, ap, subst, ◌∙◌, inl, inr, arith, Less}
use Rattle.std.specs.FinMap as map
use Rattle.std.specs.List.{Contains}
use Rattle.std.proofs.lemmas.Bool.{cases_eq, false≢true}
use Rattle.std.proofs.lemmas.List.{get_or_default, get_or-take, length-take}
use Rattle.std.proofs.lemmas.List.Elements.{All-push, Contains-append_cases, Contains-append_left}
use Rattle.std.proofs.lemmas.List.Elements.{Contains-append_right, Contains-get_or}
use Rattle.std.proofs.lemmas.List.Quantifiers.{all_pairs_push}
use Rattle.vet_base.specs.Criteria.{Criteria}
use Rattle.vet_base.specs.CriteriaSet.{Places}
use Rattle.vet_demand.proofs.Lists.{in_none}
use Rattle.vet_demand.proofs.Merging.{IsOfOne, asked_more, asked_push}
use Rattle.vet_demand.proofs.PairsInOrder.{later_pair}
use Rattle.vet_demand.specs.Audited.{AuditedNode, AreAudited, AreAuditedBefore, AreAuditedIn, AreInAuditedOrder}
use Rattle.vet_demand.specs.Audited.{AreMerged, IsAsked, audited_cmp}
use Rattle.vet_demand.specs.Collected.{AddsInOrder, IsAuditedPair, IsDemandedBefore, IsPairOf}
use Rattle.vet_demand.specs.DemandOf.{IsDemandedBy, IsDemandedIn, IsLeastDemand, is_audited, pair_of}
use Rattle.vet_demand.specs.Pair.{IsInOrder, pair_cmp}
use Rattle.vet_demand.specs.Project.{AreInNodeOrder, ProjectValue, node_cmp}
use Rattle.vet_demand.specs.declared.pair.Pair.{Pair}
use Rattle.vet_demand.specs.declared.policies.KeyedPolicy.{KeyedPolicy}
use Rattle.vet_demand.specs.declared.policy.Policy.{Policy}
use Rattle.vet_demand.specs.declared.project.NamedProject.{NamedProject}
use Rattle.vet_demand.specs.declared.project.Node.{Node}

-- ---- the nodes of a project

module _ (policies : List KeyedPolicy) (criteria : Criteria) (project : ProjectValue) where
  before_more : (i : ℕ) (q : Pair) → IsDemandedBefore policies criteria project (i + 1) q
      ↔ (IsDemandedBefore policies criteria project i q ⊎ IsDemandedIn policies criteria project q i)
  before_more i q = (
    λ some. elim (cases_eq some.0 i) [
      | inl same ↦ inr (subst (IsDemandedIn policies criteria project q) same some.2)
      | inr differs ↦ inl (some.0, omega (arith, some.1, differs), some.2)
    ],
    λ h. elim h [
      | inl some ↦ (some.0, omega (arith, some.1), some.2)
      | inr here ↦ (i, omega arith, here)
    ],
  )

  pub audited_none : AreAuditedBefore policies criteria project 0 []
  audited_none = record {
    in_order = λ i j d l m. absurd (omega (arith, m));
    left = λ j k a d l m n. absurd (omega (arith, l));
    same = λ q. (λ w. in_none w.0 w.1, λ some. absurd (omega (arith, some.1)));
  }

  pub audited_all : (n : ℕ) (audited : List AuditedNode) → n ≡ length project.nodes
      → AreAuditedBefore policies criteria project n audited → AreAuditedIn policies criteria project audited
  audited_all n audited all h = record {
    in_order = h.in_order;
    same = λ q. (
      λ w. (let some = (h.same q).0 w in (some.0, some.2)),
      λ one. (h.same q).1 (one.0, (let l = one.1.within in omega (arith, l, all)), one.1),
    );
  }

  module _ (up : AreInNodeOrder project.nodes) (i : ℕ) (node : Node) (policy : Option Policy) (set : Places)
      (low : i < length project.nodes) (at : node ≡ get_or project.nodes i node)
      (tells : (q : Pair) → IsAuditedPair node policy (map.keys criteria) set q
      ↔ IsDemandedIn policies criteria project q i) (old new : List AuditedNode)
      (h : AreAuditedBefore policies criteria project i old) where
    -- one that isn't audited
    pub audited_skip : is_audited node.party policy ≡ false → new ≡ old
        → AreAuditedBefore policies criteria project (i + 1) new
    audited_skip other is = subst (AreAuditedBefore policies criteria project (i + 1)) (sym is) (record {
      in_order = h.in_order;
      left = λ j k a d l m n. h.left j k a d l (omega (arith, m)) n;
      same = λ q. (
        λ w. (before_more i q).1 (inl ((h.same q).0 w)),
        λ some. elim ((before_more i q).0 some) [
          | inl was ↦ (h.same q).1 was
          | inr here ↦ absurd (false≢true (sym other ∙ ((tells q).1 here).0))
        ],
      );
    })

    -- one that is
    pub audited_put : is_audited node.party policy ≡ true → (a : AuditedNode) → a.node ≡ node → a.needs ≡ set
        → new ≡ old ++ a ∷ []
        → AreAuditedBefore policies criteria project (i + 1) new
    audited_put says a of_node needs is =
        let keys = map.keys criteria in
        let node_at : (d : Node) → node ≡ get_or project.nodes i d =
        λ d. at ∙ get_or_default project.nodes i node d low in
        let of_pair : (q : Pair) → IsOfOne keys q a ≡ IsPairOf node keys set (length keys) q =
        λ q. λ t. IsPairOf (of_node t) keys (needs t) (length keys) q in
        subst (AreAuditedBefore policies criteria project (i + 1)) (sym is) (record {
          in_order = all_pairs_push (λ b c. audited_cmp b c ≡ Less) old a h.in_order
              (λ k d l. subst (λ n. node_cmp (get_or old k d).node n ≡ Less) (sym (of_node ∙ at))
              (h.left k i d node l (omega arith) low));
          left = λ j k b d l m n. All-push (λ (c : AuditedNode). node_cmp c.node (get_or project.nodes k d) ≡ Less)
              old a
              (λ e c o. h.left e k c d o (omega (arith, m)) n)
              (subst (λ y. node_cmp y (get_or project.nodes k d) ≡ Less) (sym (of_node ∙ node_at d))
              (up i k d (omega (arith, m)) n)) j b l;
          same = λ q. (
            λ w. elim ((asked_push keys old a q).0 w) [
              | inl was ↦ (before_more i q).1 (inl ((h.same q).0 was))
              | inr here ↦ (before_more i q).1 (inr ((tells q).0 (says, subst (λ (X : Type 0). X) (of_pair q) here)))
            ],
            λ some. elim ((before_more i q).0 some) [
              | inl was ↦ (asked_push keys old a q).1 (inl ((h.same q).1 was))
              | inr here ↦ (asked_push keys old a q).1
                  (inr (subst (λ (X : Type 0). X) (sym (of_pair q)) ((tells q).1 here).1))
            ],
          );
        })

    -- either
    pub audited_next : (told : Bool) → told ≡ is_audited node.party policy
        → new ≡ cond told (old ++ (record { node = node; needs = set }) ∷ []) old
        → AreAuditedBefore policies criteria project (i + 1) new
    audited_next true told is = audited_put (sym told) (record { node = node; needs = set }) refl refl is
    audited_next false told is = audited_skip (sym told) is

-- ---- some projects

pub some_projects : (n : ℕ) (none : Bool) → none ≡ (n == 0) → none ≡ false → n ≢ 0
some_projects n none is other same = false≢true (sym other ∙ is ∙ eq-eqb n 0 same)

module _ (policies : List KeyedPolicy) (criteria : Criteria) where
  pub projects_none : (projects : List NamedProject) → projects ≡ [] → AreAudited policies criteria projects []
  projects_none projects none = subst (λ ps. AreAudited policies criteria ps []) (sym none) (record {
    in_order = λ i j d l m. absurd (omega (arith, m));
    same = λ q. (λ w. in_none w.0 w.1, λ h. in_none h.0 h.1);
  })

  pub projects_one : (projects : List NamedProject) (named : NamedProject) (audited : List AuditedNode)
      → length projects ≡ 1 → named ≡ get_or projects 0 named
      → AreAuditedIn policies criteria named.project audited → AreAudited policies criteria projects audited
  projects_one projects named audited one at h =
      let low : 0 < length projects = omega (arith, one) in record {
        in_order = h.in_order;
        same = λ q. (
          λ w. (named, (0, low, sym at), (h.same q).0 w),
          λ d. (let only : named ≡ d.0 = at ∙ get_or_default projects 0 named d.0 low
              ∙ (let first : d.1.0 ≡ 0 = omega (arith, one, d.1.1) in ap (λ k. get_or projects k d.0) (sym first)
              ∙ d.1.2) in
              (h.same q).1 (subst (λ (n : NamedProject). IsDemandedBy policies criteria n.project q) (sym only) d.2)),
        );
      }

  pub projects_both : (projects front back : List NamedProject) (first second all : List AuditedNode)
      → projects ≡ front ++ back
      → AreAudited policies criteria front first → AreAudited policies criteria back second
      → AreMerged first second all → AreAudited policies criteria projects all
  projects_both projects front back first second all parts a b h =
      subst (λ ps. AreAudited policies criteria ps all) (sym parts) (record {
        in_order = h.in_order;
        same = λ q. (
          λ w. elim ((h.same (map.keys criteria) q).0 w) [
            | inl one ↦ (let d = (a.same q).0 one in (d.0, Contains-append_left front back d.0 d.1, d.2))
            | inr one ↦ (let d = (b.same q).0 one in (d.0, Contains-append_right front back d.0 d.1, d.2))
          ],
          λ d. elim (Contains-append_cases front back d.0 d.1) [
            | inl here ↦ (h.same (map.keys criteria) q).1 (inl ((a.same q).1 (d.0, here, d.2)))
            | inr here ↦ (h.same (map.keys criteria) q).1 (inr ((b.same q).1 (d.0, here, d.2)))
          ],
        );
      })

-- ---- the pairs of audited nodes

module _ (names : List (List ℕ)) (audited : List AuditedNode) (up : AreInAuditedOrder audited) (i : ℕ)
    (one : AuditedNode) (low : i < length audited) (at : one ≡ get_or audited i one)
    (mid new : List Pair) (so_far : (q : Pair) → Contains mid q ↔ IsAsked names (take i audited) q)
    (adds : AddsInOrder one.node names one.needs (length names) mid new) where
  earlier : (q : Pair) → IsAsked names (take i audited) q → (c : List ℕ) → pair_cmp q (pair_of one.node c) ≡ Less
  earlier q asked c =
      let a = asked.0 in
      let m = asked.1.0 in
      let in_front : m < i = omega (arith, asked.1.1, length-take i audited) in
      let a_is : get_or audited m a ≡ a = sym (get_or-take i audited m a in_front) ∙ asked.1.2 in
      let before : audited_cmp a one ≡ Less =
      (λ t. audited_cmp (sym a_is t) ((at ∙ get_or_default audited i one a low) t)) ∙ up m i a in_front low in
      subst (λ p. pair_cmp p (pair_of one.node c) ≡ Less) asked.2.3
      (later_pair a.node one.node (get_or names asked.2.0 []) c before)

  pub pairs_rise : IsInOrder mid → IsInOrder new
  pairs_rise rises = adds.rises rises
      (λ k d l c. earlier (get_or mid k d) ((so_far (get_or mid k d)).0 (Contains-get_or mid k d l)) c)

  pub pairs_same : (q : Pair) → Contains new q ↔ IsAsked names (take (i + 1) audited) q
  pairs_same q =
      let more = asked_more names audited i one q low in (
        λ w. elim ((adds.adds q).0 w) [
          | inl was ↦ more.1 (inl ((so_far q).0 was))
          | inr here ↦ more.1 (inr (subst (IsOfOne names q) at here))
        ],
        λ h. elim (more.0 h) [
          | inl was ↦ (adds.adds q).1 (inl ((so_far q).1 was))
          | inr here ↦ (adds.adds q).1 (inr (subst (IsOfOne names q) (sym at) here))
        ],
      )

-- no pairs yet
pub pairs_start : (names : List (List ℕ)) (pairs : List Pair) → pairs ≡ []
    → IsInOrder pairs × ((q : Pair) → Contains pairs q ↔ IsAsked names [] q)
pairs_start names pairs none =
    subst (λ ps. IsInOrder ps × ((q : Pair) → Contains ps q ↔ IsAsked names [] q)) (sym none) (
      (λ i j d l m. absurd (omega (arith, m))),
      (λ q. (λ w. in_none q w, λ h. in_none h.0 h.1)),
    )

-- they are the least demand
pub least_demand : (projects : List NamedProject) (policies : List KeyedPolicy) (criteria : Criteria)
    (names : List (List ℕ)) (audited : List AuditedNode) (pairs : List Pair)
    → names ≡ map.keys criteria → AreAudited policies criteria projects audited → IsInOrder pairs
    → ((q : Pair) → Contains pairs q ↔ IsAsked names audited q)
    → IsLeastDemand projects policies criteria pairs
least_demand projects policies criteria names audited pairs keys are up same = record {
  in_order = up;
  same = λ q. (
    λ w. (are.same q).0 (subst (λ ns. IsAsked ns audited q) keys ((same q).0 w)),
    λ d. (same q).1 (subst (λ ns. IsAsked ns audited q) (sym keys) ((are.same q).1 d)),
  );
}
