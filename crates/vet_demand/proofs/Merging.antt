-- Two lists of audited nodes in one.
use Rattle.std.proofs.Common.{◌≡◌, ◌⊎◌, ◌↔◌, ℕ, zero, suc, Bor, ◌+◌, ◌<◌, ◌≤◌, ◌||◌, List, [], ◌∷◌, ◌++◌, length}
use Rattle.std.proofs.Common.{get_or, take, refl, sym, ap, subst, ◌∙◌, inl, inr, arith, Ordering, Less, Equal, Greater}
use Rattle.std.specs.Cmp.{nat_cmp_total}
use Rattle.std.specs.Cmp.Lexicographic.{slice_cmp}
use Rattle.std.specs.FinMap.{nat_cmp-IsAntisymmetric, slice_cmp-IsAntisymmetric}
use Rattle.std.specs.FinSet as places
use Rattle.std.specs.Ordering.{nat_cmp, ordering_reverse, ordering_then}
use Rattle.std.proofs.lemmas.Bool.{cases_eq, or_cases, or_left, or_right}
use Rattle.std.proofs.lemmas.List.{get_or_default, take_all}
use Rattle.std.proofs.lemmas.List.Elements.{All-push, Contains-append_left, Contains-push, Contains-push_cases}
use Rattle.std.proofs.lemmas.List.Quantifiers.{all_pairs_push}
use Rattle.vet_base.specs.CriteriaSet.{Places, has}
use Rattle.vet_base.specs.VersionOrder.{version_cmp}
use Rattle.vet_base.specs.VersionOrderLaws.{version_cmp-IsAntisymmetric}
use Rattle.vet_base.specs.OrderLaws.{then_first, then_second}
use Rattle.vet_demand.proofs.Lists.{one_more}
use Rattle.vet_demand.specs.Audited.{AuditedNode, AreBefore, AreHeads, AreInAuditedOrder, AreMerged, IsAfter, IsAsked}
use Rattle.vet_demand.specs.Audited.{IsHead, IsMerging, PutsHead, audited_cmp, audited_nodes}
use Rattle.vet_demand.specs.Collected.{IsPairOf}
use Rattle.vet_demand.specs.DemandOf.{pair_of}
use Rattle.vet_demand.specs.Project.{node_cmp}
use Rattle.vet_demand.specs.ProjectLaws.{node_total}
use Rattle.vet_demand.specs.declared.pair.Pair.{Pair}
use Rattle.vet_demand.specs.declared.project.Node.{Node}

-- ---- two lists as one

pub length-beside : (nodes : List (Bor Node)) (needs : List Places) → length nodes ≡ length needs
    → length (audited_nodes nodes needs) ≡ length nodes
length-beside [] needs h = refl
length-beside (n ∷ nodes) [] h = absurd (omega (arith, h))
length-beside (n ∷ nodes) (s ∷ needs) h = ap suc (length-beside nodes needs (omega (arith, h)))

pub beside-push : (nodes : List (Bor Node)) (needs : List Places) (node : Bor Node) (set : Places)
    → length nodes ≡ length needs
    → audited_nodes (nodes ++ node ∷ []) (needs ++ set ∷ []) ≡ audited_nodes nodes needs ++
    (record { node = node.now; needs = set }) ∷ []
beside-push [] [] node set h = refl
beside-push [] (s ∷ needs) node set h = absurd (omega (arith, h))
beside-push (n ∷ nodes) [] node set h = absurd (omega (arith, h))
beside-push (n ∷ nodes) (s ∷ needs) node set h =
    ap (λ (l : List AuditedNode). (record { node = n.now; needs = s }) ∷ l)
    (beside-push nodes needs node set (omega (arith, h)))

pub beside-at : (nodes : List (Bor Node)) (needs : List Places) (i : ℕ) (n : Bor Node) (s : Places)
    (d : AuditedNode) → length nodes ≡ length needs → i < length nodes
    → get_or (audited_nodes nodes needs) i d ≡ record { node = (get_or nodes i n).now; needs = get_or needs i s }
beside-at [] needs i n s d h low = absurd (omega (arith, low))
beside-at (m ∷ nodes) [] i n s d h low = absurd (omega (arith, h))
beside-at (m ∷ nodes) (t ∷ needs) zero n s d h low = refl
beside-at (m ∷ nodes) (t ∷ needs) (suc i) n s d h low =
    beside-at nodes needs i n s d (omega (arith, h)) (omega (arith, low))

pub beside-is : (nodes : List (Bor Node)) (needs : List Places) (i : ℕ) (n : Bor Node) (s : Places)
    → length nodes ≡ length needs → i < length nodes → n ≡ get_or nodes i n
    → s ≡ get_or needs i s → ◌≡◌ {A = AuditedNode} (record { node = n.now; needs = s })
    (get_or (audited_nodes nodes needs) i (record { node = n.now; needs = s }))
beside-is nodes needs i n s h low at here =
    let x : AuditedNode = record { node = n.now; needs = s } in
    (λ t. record { node = (at t).now; needs = here t }) ∙ sym (beside-at nodes needs i n s x h low)

-- how nodes at two places compare
by_order : (first second : List AuditedNode) (i j : ℕ) (order : Ordering) → i < length first → j < length second
    → ((a d : AuditedNode) → audited_cmp (get_or first i a) (get_or second j d) ≡ order)
    → AreHeads first second i j order
by_order first second i j Less low within h = (low, λ a d l. h a d)
by_order first second i j Equal low within h = (low, (within, h))
by_order first second i j Greater low within h = (within, λ a d l. h a d)

module _ (f s : List (Bor Node)) (fs ss : List Places) (pf : length f ≡ length fs) (ps : length s ≡ length ss)
    (i j : ℕ) where
  abbrev First : List AuditedNode
  First = audited_nodes f fs

  abbrev Second : List AuditedNode
  Second = audited_nodes s ss

  pub end_second : (i < length f) ⊎ (j < length s) → length s ≤ j
      → AreHeads (audited_nodes f fs) (audited_nodes s ss) i j Less
  end_second left past = (
    elim left [ inl l ↦ omega (arith, l, length-beside f fs pf) | inr l ↦ absurd (omega (arith, l, past)) ],
    λ a d l. absurd (omega (arith, l, past, length-beside s ss ps)),
  )

  pub end_first : length f ≤ i → j < length s → AreHeads (audited_nodes f fs) (audited_nodes s ss) i j Greater
  end_first past low = (
    omega (arith, low, length-beside s ss ps),
    λ a d l. absurd (omega (arith, l, past, length-beside f fs pf)),
  )

  pub heads_are : (order : Ordering) (n m : Bor Node) → i < length f → j < length s → n ≡ get_or f i n
      → m ≡ get_or s j m → order ≡ node_cmp n.now m.now
      → AreHeads (audited_nodes f fs) (audited_nodes s ss) i j order
  heads_are order n m low within at there is =
      by_order First Second i j order (omega (arith, low, length-beside f fs pf))
      (omega (arith, within, length-beside s ss ps))
      (λ a d. (λ t. audited_cmp (beside-at f fs i n places.empty a pf low t)
      (beside-at s ss j m places.empty d ps within t))
      ∙ (λ t. node_cmp (sym at t).now (sym there t).now) ∙ sym is)

  pub less_low : (order : Ordering) → AreHeads (audited_nodes f fs) (audited_nodes s ss) i j order
      → order ≡ Less → i < length f
  less_low order heads is = (let h = subst (AreHeads First Second i j) is heads in
      omega (arith, h.0, length-beside f fs pf))

  pub equal_low : (order : Ordering) → AreHeads (audited_nodes f fs) (audited_nodes s ss) i j order → order ≡ Equal
      → (i < length f) × (j < length s)
  equal_low order heads is = (let h = subst (AreHeads First Second i j) is heads in
      (omega (arith, h.0, length-beside f fs pf), omega (arith, h.1.0, length-beside s ss ps)))

  pub greater_low : (order : Ordering) → AreHeads (audited_nodes f fs) (audited_nodes s ss) i j order
      → order ≡ Greater → j < length s
  greater_low order heads is = (let h = subst (AreHeads First Second i j) is heads in
      omega (arith, h.0, length-beside s ss ps))

  -- what is put behind others
  pub puts_first : (old new : List AuditedNode) (order : Ordering) (n : Bor Node) (set : Places) → order ≡ Less
      → i < length f → n ≡ get_or f i n → set ≡ get_or fs i set
      → new ≡ old ++ (record { node = n.now; needs = set }) ∷ []
      → PutsHead (audited_nodes f fs) (audited_nodes s ss) i j old new order
  puts_first old new order n set is low at here pushed =
      let x : AuditedNode = record { node = n.now; needs = set } in
      subst (PutsHead First Second i j old new) (sym is) (x, beside-is f fs i n set pf low at here, pushed)

  pub puts_second : (old new : List AuditedNode) (order : Ordering) (n : Bor Node) (set : Places) → order ≡ Greater
      → j < length s → n ≡ get_or s j n → set ≡ get_or ss j set
      → new ≡ old ++ (record { node = n.now; needs = set }) ∷ []
      → PutsHead (audited_nodes f fs) (audited_nodes s ss) i j old new order
  puts_second old new order n set is low at here pushed =
      let x : AuditedNode = record { node = n.now; needs = set } in
      subst (PutsHead First Second i j old new) (sym is) (x, beside-is s ss j n set ps low at here, pushed)

  pub puts_both : (old new : List AuditedNode) (order : Ordering) (n : Bor Node) (a b set : Places) → order ≡ Equal
      → i < length f → j < length s → n ≡ get_or f i n → a ≡ get_or fs i a
      → b ≡ get_or ss j b → set ≡ places.union a b → new ≡ old ++ (record { node = n.now; needs = set }) ∷ []
      → PutsHead (audited_nodes f fs) (audited_nodes s ss) i j old new order
  puts_both old new order n a b set is low within at here there both pushed =
      let x : AuditedNode = record { node = n.now; needs = set } in
      let first_at = beside-at f fs i n a x pf low in
      let second_at = beside-at s ss j n b x ps within in
      let node_is : x.node ≡ (get_or First i x).node =
      (λ t. (at t).now) ∙ sym (ap (λ (y : AuditedNode). y.node) first_at) in
      let needs_is : x.needs ≡ places.union (get_or First i x).needs (get_or Second j x).needs =
      both ∙ (λ t. places.union ((here ∙ sym (ap (λ (y : AuditedNode). y.needs) first_at)) t)
      ((there ∙ sym (ap (λ (y : AuditedNode). y.needs) second_at)) t)) in
      subst (PutsHead First Second i j old new) (sym is) (x, (node_is, needs_is), pushed)

-- ---- facts with one more case

pub first_more : {N O A B X M : Type 0} → N ↔ (O ⊎ X) → O ↔ (A ⊎ B) → M ↔ (A ⊎ X) → N ↔ (M ⊎ B)
first_more new old more = (
  λ n. elim (new.0 n) [
    | inl o ↦ elim (old.0 o) [ inl a ↦ inl (more.1 (inl a)) | inr b ↦ inr b ]
    | inr x ↦ inl (more.1 (inr x))
  ],
  λ h. elim h [
    | inl m ↦ elim (more.0 m) [ inl a ↦ new.1 (inl (old.1 (inl a))) | inr x ↦ new.1 (inr x) ]
    | inr b ↦ new.1 (inl (old.1 (inr b)))
  ],
)

second_more : {N O A B X M : Type 0} → N ↔ (O ⊎ X) → O ↔ (A ⊎ B) → M ↔ (B ⊎ X) → N ↔ (A ⊎ M)
second_more new old more = (
  λ n. elim (new.0 n) [
    | inl o ↦ elim (old.0 o) [ inl a ↦ inl a | inr b ↦ inr (more.1 (inl b)) ]
    | inr x ↦ inr (more.1 (inr x))
  ],
  λ h. elim h [
    | inl a ↦ new.1 (inl (old.1 (inl a)))
    | inr m ↦ elim (more.0 m) [ inl b ↦ new.1 (inl (old.1 (inr b))) | inr x ↦ new.1 (inr x) ]
  ],
)

both_more : {N O A B X Y Z K M : Type 0} → N ↔ (O ⊎ X) → O ↔ (A ⊎ B) → X ↔ (Y ⊎ Z) → K ↔ (A ⊎ Y)
    → M ↔ (B ⊎ Z) → N ↔ (K ⊎ M)
both_more new old both first second = (
  λ n. elim (new.0 n) [
    | inl o ↦ elim (old.0 o) [ inl a ↦ inl (first.1 (inl a)) | inr b ↦ inr (second.1 (inl b)) ]
    | inr x ↦ elim (both.0 x) [ inl y ↦ inl (first.1 (inr y)) | inr z ↦ inr (second.1 (inr z)) ]
  ],
  λ h. elim h [
    | inl k ↦ elim (first.0 k) [ inl a ↦ new.1 (inl (old.1 (inl a))) | inr y ↦ new.1 (inr (both.1 (inl y))) ]
    | inr m ↦ elim (second.0 m) [ inl b ↦ new.1 (inl (old.1 (inr b))) | inr z ↦ new.1 (inr (both.1 (inr z))) ]
  ],
)

-- ---- one node more

-- the pairs of one node
abbrev pub IsOfOne : List (List ℕ) → Pair → AuditedNode → Type 0
IsOfOne names q a = IsPairOf a.node names a.needs (length names) q

pub asked_push : (names : List (List ℕ)) (xs : List AuditedNode) (x : AuditedNode) (q : Pair)
    → IsAsked names (xs ++ x ∷ []) q ↔ (IsAsked names xs q ⊎ IsOfOne names q x)
asked_push names xs x q = (
  λ w. elim (Contains-push_cases xs x w.0 w.1) [
    | inl was ↦ inl (w.0, was, w.2)
    | inr same ↦ inr (subst (IsOfOne names q) (sym same) w.2)
  ],
  λ h. elim h [
    | inl was ↦ (was.0, Contains-append_left xs (x ∷ []) was.0 was.1, was.2)
    | inr one ↦ (x, Contains-push xs x, one)
  ],
)

pub asked_more : (names : List (List ℕ)) (xs : List AuditedNode) (i : ℕ) (d : AuditedNode) (q : Pair) → i < length xs
    → IsAsked names (take (i + 1) xs) q ↔ (IsAsked names (take i xs) q ⊎ IsOfOne names q (get_or xs i d))
asked_more names xs i d q low =
    subst (λ l. IsAsked names l q ↔ (IsAsked names (take i xs) q ⊎ IsOfOne names q (get_or xs i d)))
    (sym (one_more xs i d low)) (asked_push names (take i xs) (get_or xs i d) q)

before_push : (old others : List AuditedNode) (x : AuditedNode) (i : ℕ) → AreBefore old others i
    → ((k : ℕ) (d : AuditedNode) → i ≤ k → k < length others → audited_cmp x (get_or others k d) ≡ Less)
    → AreBefore (old ++ x ∷ []) others i
before_push old others x i was one j k a d l m n =
    All-push (λ b. audited_cmp b (get_or others k d) ≡ Less) old x (λ h e o. was h k e d o m n) (one k d m n) j a l

before_later : (old others : List AuditedNode) (i : ℕ) → AreBefore old others i → AreBefore old others (i + 1)
before_later old others i was j k a d l m n = was j k a d l (omega (arith, m)) n

-- ---- nodes that tie

module _ (m n : Node) (tied : node_cmp m n ≡ Equal) where
  name_is : m.«package» ≡ n.«package»
  name_is = slice_cmp-IsAntisymmetric nat_cmp-IsAntisymmetric m.«package» n.«package» (then_first _ _ tied)

  version_is : m.version ≡ n.version
  version_is = version_cmp-IsAntisymmetric m.version n.version
      (then_second (slice_cmp nat_cmp m.«package» n.«package») _ tied)

  -- they stand to each node in the same way, and have the same pairs
  tied_cmp : (z : Node) → node_cmp m z ≡ node_cmp n z
  tied_cmp z = λ i. ordering_then (slice_cmp nat_cmp (name_is i) z.«package») (version_cmp (version_is i) z.version)

  tied_pair : (c : List ℕ) → pair_of m c ≡ pair_of n c
  tied_pair c = λ i. record { «package» = name_is i; version = version_is i; criterion = c }

-- a node that needs what either of two needs has the pairs of both
joined_pairs : (names : List (List ℕ)) (q : Pair) (x a b : AuditedNode) → x.node ≡ a.node
    → x.needs ≡ places.union a.needs b.needs
    → audited_cmp a b ≡ Equal → IsOfOne names q x ↔ (IsOfOne names q a ⊎ IsOfOne names q b)
joined_pairs names q x a b node needs tied =
    let either : (p : ℕ) → has p x.needs ≡ (has p a.needs || has p b.needs) = λ p. ap (has p) needs
    ∙ places.contains-union nat_cmp_total a.needs b.needs p in
    let pair_a : (c : List ℕ) → pair_of x.node c ≡ pair_of a.node c = λ c. ap (λ n. pair_of n c) node in
    let pair_b : (c : List ℕ) → pair_of x.node c ≡ pair_of b.node c =
    λ c. pair_a c ∙ tied_pair a.node b.node tied c in (
      λ h. elim (or_cases (has h.0 a.needs) (has h.0 b.needs) (sym (either h.0) ∙ h.2)) [
        | inl here ↦ inl (h.0, h.1, here, sym (pair_a (get_or names h.0 [])) ∙ h.3)
        | inr here ↦ inr (h.0, h.1, here, sym (pair_b (get_or names h.0 [])) ∙ h.3)
      ],
      λ s. elim s [
        | inl h ↦ (
          h.0,
          h.1,
          either h.0 ∙ or_left (has h.0 a.needs) (has h.0 b.needs) h.2,
          pair_a (get_or names h.0 []) ∙ h.3,
        )
        | inr h ↦ (
          h.0,
          h.1,
          either h.0 ∙ or_right (has h.0 a.needs) (has h.0 b.needs) h.2,
          pair_b (get_or names h.0 []) ∙ h.3,
        )
      ],
    )

-- ---- a step

module _ (first second : List AuditedNode) (up_first : AreInAuditedOrder first)
    (up_second : AreInAuditedOrder second) (i j : ℕ) (old new : List AuditedNode)
    (h : IsMerging first second i j old) where
  -- one of the first list
  pub first_next : (x : AuditedNode) → AreHeads first second i j Less → x ≡ get_or first i x → new ≡ old ++ x ∷ []
      → IsMerging first second (i + 1) j new
  first_next x heads at is =
      let low = heads.0 in
      let x_is : (d : AuditedNode) → x ≡ get_or first i d = λ d. at ∙ get_or_default first i x d low in
      let later : (k : ℕ) (d : AuditedNode) → i + 1 ≤ k → k < length first → audited_cmp x (get_or first k d) ≡ Less =
      λ k d m n. subst (λ y. audited_cmp y (get_or first k d) ≡ Less) (sym (x_is d))
      (up_first i k d (omega (arith, m)) n) in
      let other : (k : ℕ) (d : AuditedNode) → j ≤ k → k < length second → audited_cmp x (get_or second k d) ≡ Less =
      λ k d m n. elim (cases_eq k j) [
        | inl same ↦ subst (λ y. audited_cmp y (get_or second k d) ≡ Less) (sym at)
            (ap (λ l. audited_cmp (get_or first i x) (get_or second l d)) same ∙ heads.1 x d (omega (arith, same, n)))
        | inr differs ↦ (let next : j < k = omega (arith, m, differs) in
            subst (λ y. audited_cmp y (get_or second k d) ≡ Less) (sym at)
            (node_total.trans (get_or first i x).node (get_or second j d).node (get_or second k d).node
            (heads.1 x d (omega (arith, next, n))) (up_second j k d next n)))
      ] in
      subst (IsMerging first second (i + 1) j) (sym is) (record {
        in_order = all_pairs_push (λ a b. audited_cmp a b ≡ Less) old x h.in_order
            (λ k d l. subst (λ y. audited_cmp (get_or old k d) y ≡ Less) (sym at)
            (h.first_left k i d x l (omega arith) low));
        first_left = before_push old first x (i + 1) (before_later old first i h.first_left) later;
        second_left = before_push old second x j h.second_left other;
        same = λ names q. first_more (asked_push names old x q) (h.same names q)
            (subst (λ y. IsAsked names (take (i + 1) first) q
            ↔ (IsAsked names (take i first) q ⊎ IsOfOne names q y)) (sym at) (asked_more names first i x q low));
      })

  -- one of the second list
  pub second_next : (x : AuditedNode) → AreHeads first second i j Greater → x ≡ get_or second j x
      → new ≡ old ++ x ∷ [] → IsMerging first second i (j + 1) new
  second_next x heads at is =
      let low = heads.0 in
      let x_is : (d : AuditedNode) → x ≡ get_or second j d = λ d. at ∙ get_or_default second j x d low in
      let later : (k : ℕ) (d : AuditedNode) → j + 1 ≤ k → k < length second → audited_cmp x (get_or second k d) ≡ Less =
      λ k d m n. subst (λ y. audited_cmp y (get_or second k d) ≡ Less) (sym (x_is d))
      (up_second j k d (omega (arith, m)) n) in
      let turned : (d : AuditedNode) → i < length first → audited_cmp (get_or second j x) (get_or first i d) ≡ Less =
      λ d n. node_total.antisymm (get_or second j x).node (get_or first i d).node
      ∙ ap ordering_reverse (heads.1 d x n) in
      let other : (k : ℕ) (d : AuditedNode) → i ≤ k → k < length first → audited_cmp x (get_or first k d) ≡ Less =
      λ k d m n. elim (cases_eq k i) [
        | inl same ↦ subst (λ y. audited_cmp y (get_or first k d) ≡ Less) (sym at)
            (ap (λ l. audited_cmp (get_or second j x) (get_or first l d)) same ∙ turned d (omega (arith, same, n)))
        | inr differs ↦ (let next : i < k = omega (arith, m, differs) in
            subst (λ y. audited_cmp y (get_or first k d) ≡ Less) (sym at)
            (node_total.trans (get_or second j x).node (get_or first i d).node (get_or first k d).node
            (turned d (omega (arith, next, n))) (up_first i k d next n)))
      ] in
      subst (IsMerging first second i (j + 1)) (sym is) (record {
        in_order = all_pairs_push (λ a b. audited_cmp a b ≡ Less) old x h.in_order
            (λ k d l. subst (λ y. audited_cmp (get_or old k d) y ≡ Less) (sym at)
            (h.second_left k j d x l (omega arith) low));
        first_left = before_push old first x i h.first_left other;
        second_left = before_push old second x (j + 1) (before_later old second j h.second_left) later;
        same = λ names q. second_more (asked_push names old x q) (h.same names q)
            (subst (λ y. IsAsked names (take (j + 1) second) q
            ↔ (IsAsked names (take j second) q ⊎ IsOfOne names q y)) (sym at) (asked_more names second j x q low));
      })

  -- one of each, which tie
  pub both_next : (x : AuditedNode) → AreHeads first second i j Equal → x.node ≡ (get_or first i x).node
      → x.needs ≡ places.union (get_or first i x).needs (get_or second j x).needs → new ≡ old ++ x ∷ []
      → IsMerging first second (i + 1) (j + 1) new
  both_next x heads node needs is =
      let low = heads.0 in
      let within = heads.1.0 in
      let a = get_or first i x in
      let b = get_or second j x in
      let tied : audited_cmp a b ≡ Equal = heads.1.1 x x in
      let later : (k : ℕ) (d : AuditedNode) → i + 1 ≤ k → k < length first → audited_cmp x (get_or first k d) ≡ Less =
      λ k d m n. ap (λ y. node_cmp y (get_or first k d).node) node
      ∙ subst (λ y. audited_cmp y (get_or first k d) ≡ Less) (sym (get_or_default first i x d low))
      (up_first i k d (omega (arith, m)) n) in
      let other : (k : ℕ) (d : AuditedNode) → j + 1 ≤ k → k < length second → audited_cmp x (get_or second k d) ≡ Less =
      λ k d m n. ap (λ y. node_cmp y (get_or second k d).node) node
      ∙ tied_cmp a.node b.node tied (get_or second k d).node
      ∙ subst (λ y. audited_cmp y (get_or second k d) ≡ Less) (sym (get_or_default second j x d within))
      (up_second j k d (omega (arith, m)) n) in
      subst (IsMerging first second (i + 1) (j + 1)) (sym is) (record {
        in_order = all_pairs_push (λ c d. audited_cmp c d ≡ Less) old x h.in_order
            (λ k d l. ap (node_cmp (get_or old k d).node) node ∙ h.first_left k i d x l (omega arith) low);
        first_left = before_push old first x (i + 1) (before_later old first i h.first_left) later;
        second_left = before_push old second x (j + 1) (before_later old second j h.second_left) other;
        same = λ names q. both_more (asked_push names old x q) (h.same names q)
            (joined_pairs names q x a b node needs tied)
            (asked_more names first i x q low) (asked_more names second j x q within);
      })

  -- whichever comes next
  pub merging_next : (x : AuditedNode) (order : Ordering) (m n : ℕ) → AreHeads first second i j order
      → IsHead first second i j x order → IsAfter i j m n order
      → new ≡ old ++ x ∷ [] → IsMerging first second m n new
  merging_next x Less m n heads at after is = subst (λ k. IsMerging first second k n new) (sym after.0)
      (subst (λ k. IsMerging first second (i + 1) k new) (sym after.1) (first_next x heads at is))
  merging_next x Equal m n heads at after is =
      subst (λ k. IsMerging first second k n new) (sym after.0) (subst (λ k. IsMerging first second (i + 1) k new)
      (sym after.1) (both_next x heads at.0 at.1 is))
  merging_next x Greater m n heads at after is = subst (λ k. IsMerging first second k n new) (sym after.0)
      (subst (λ k. IsMerging first second i k new) (sym after.1) (second_next x heads at is))

-- the places stay within the lists, and go on
pub after_within : (first second : List AuditedNode) (i j m n : ℕ) (order : Ordering) → i ≤ length first
    → j ≤ length second → AreHeads first second i j order → IsAfter i j m n order
    → (m ≤ length first) × (n ≤ length second) × (i + j < m + n)
after_within first second i j m n Less a b heads after =
    (omega (arith, heads.0, after.0), omega (arith, b, after.1), omega (arith, after.0, after.1))
after_within first second i j m n Equal a b heads after =
    (omega (arith, heads.0, after.0), omega (arith, heads.1.0, after.1), omega (arith, after.0, after.1))
after_within first second i j m n Greater a b heads after =
    (omega (arith, a, after.0), omega (arith, heads.0, after.1), omega (arith, after.0, after.1))

-- ---- the start and the end

pub merging_none : (first second : List AuditedNode) → IsMerging first second 0 0 []
merging_none first second = record {
  in_order = λ i j d l m. absurd (omega (arith, m));
  first_left = λ j k a d l m n. absurd (omega (arith, l));
  second_left = λ j k a d l m n. absurd (omega (arith, l));
  same = λ names q. (λ w. inl w, λ h. elim h [ inl w ↦ w | inr w ↦ w ]);
}

pub merging_all : (first second : List AuditedNode) (i j : ℕ) (all : List AuditedNode) → length first ≤ i
    → length second ≤ j → IsMerging first second i j all
    → AreMerged first second all
merging_all first second i j all m n h = record {
  in_order = h.in_order;
  same = λ names q. subst (λ l. IsAsked names all q ↔ (IsAsked names l q ⊎ IsAsked names second q)) (take_all i first m)
      (subst (λ l. IsAsked names all q ↔ (IsAsked names (take i first) q ⊎ IsAsked names l q)) (take_all j second n)
      (h.same names q));
}
