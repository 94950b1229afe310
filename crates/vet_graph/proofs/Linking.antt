-- How the index of a package's steps grows.
use Rattle.std.proofs.Common.{◌≡◌, ◌≢◌, ℕ, ◌+◌, ◌<◌, cond, List, [], ◌∷◌, ◌++◌, Option, Some, None, length, get_or, set}
use Rattle.std.proofs.Common.{replicate, refl, sym, ◌∙◌, ap, inl, inr, arith, unwrap_or}
use Rattle.std.proofs.lemmas.Bool.{cases_Bool, cases_lt, false≢true}
use Rattle.std.proofs.lemmas.List.{get_or_append_left, get_or_push, get_or-replicate, get_or-set_same}
use Rattle.std.proofs.lemmas.List.{get_or-set_other, get_or_default, length-set, length-replicate, length_push}
use Rattle.std.proofs.lemmas.List.Elements.{All-nil, All-push, All-weaker, Contains-append_left, Contains-push}
use Rattle.vet_base.specs.Version.{VersionValue}
use Rattle.vet_base.specs.VersionOrder.{version_eq}
use Rattle.vet_base.specs.VersionOrderLaws.{version_eq-Decides}
use Rattle.vet_graph.specs.declared.guarded.GuardedStep.{GuardedStep}
use Rattle.vet_graph.specs.declared.links.Links.{Links}
use Rattle.vet_graph.specs.Links.{AreFiled, AreFrom, AreHeads, IsLinked, Knows, lists_in, origin_at}
use Rattle.vet_graph.specs.Search.{no_step, version_at}

-- ---- heads

-- what is known already stays so
pub Knows-already : (numbers : VersionValue → Option ℕ) (v : VersionValue) (h : ℕ) → numbers v ≡ Some h
    → Knows v h numbers numbers
Knows-already numbers v h e w = elim (cases_Bool (version_eq v w)) [
  | inl tied ↦ rw tied (rw (← (version_eq-Decides v w).0 tied) e)
  | inr other ↦ rw other refl
]

pub AreHeads-none : (guarded : List GuardedStep) (numbers : VersionValue → Option ℕ)
    → ((v : VersionValue) → numbers v ≡ None) → AreHeads guarded numbers [] 0
AreHeads-none guarded numbers none = record {
  count = refl;
  known = λ p l. absurd (omega arith);
  named = λ v h e. absurd (let q = sym (none v) ∙ e in cc q);
}

-- the head of a version leads to it
head_leads : (guarded : List GuardedStep) (numbers : VersionValue → Option ℕ) (n h : ℕ) (o : Option ℕ)
    → numbers (version_at guarded n) ≡ o → h ≡ unwrap_or o n
    → ((v : VersionValue) (k : ℕ) → numbers v ≡ Some k → (k < n) × (version_at guarded k ≡ v))
    → (h < n + 1) × (version_at guarded h ≡ version_at guarded n)
head_leads guarded numbers n h None e is named = rw is (omega arith, refl)
head_leads guarded numbers n h (Some k) e is named = let r = named (version_at guarded n) k e in rw is
    (omega (arith, r.0), r.1)

-- the head of one step more
AreHeads-more : (guarded : List GuardedStep) (old new : VersionValue → Option ℕ) (heads : List ℕ) (n h : ℕ)
    → AreHeads guarded old heads n
    → h ≡ unwrap_or (old (version_at guarded n)) n → Knows (version_at guarded n) h old new
    → AreHeads guarded new (heads ++ h ∷ []) (n + 1)
AreHeads-more guarded old new heads n h a is knows =
    let v = version_at guarded n in
    let met : (h < n + 1) × (version_at guarded h ≡ v) = head_leads guarded old n h (old v) refl is a.named in
    let below : (p : ℕ) → p < n → get_or (heads ++ h ∷ []) p 0 ≡ get_or heads p 0 = λ p l. get_or_append_left heads
    (h ∷ []) 0 p (rw a.count l) in
    record {
      count = length_push heads h ∙ ap (λ k. k + 1) a.count;
      known = λ p l. elim (cases_lt p n) [
        | inl low ↦ elim (cases_Bool (version_eq v (version_at guarded p))) [
          | inl tied ↦ (let same : v ≡ version_at guarded p = (version_eq-Decides v (version_at guarded p)).0 tied in
              let found : old v ≡ Some (get_or heads p 0) = rw (← same) at (a.known p low) in
              knows (version_at guarded p) ∙ rw tied
              (ap (λ (k : ℕ). Some k) (is ∙ ap (λ o. unwrap_or o n) found ∙ sym (below p low))))
          | inr other ↦ knows (version_at guarded p) ∙ rw other
              (a.known p low ∙ ap (λ (k : ℕ). Some k) (sym (below p low)))
        ]
        | inr high ↦ (let here : p ≡ n = omega arith in
            rw here (knows v ∙ rw ((version_eq-Decides v v).1 refl)
            (ap (λ (k : ℕ). Some k) (sym (get_or_push heads h 0 n a.count)))))
      ];
      named = λ w k e. elim (cases_Bool (version_eq v w)) [
        | inl tied ↦ (let same : v ≡ w = (version_eq-Decides v w).0 tied in
            let found : Some h ≡ Some k = sym (knows w ∙ rw tied refl) ∙ e in
            let number : h ≡ k = cc found in
            (rw number at met.0, rw number at (met.1 ∙ same)))
        | inr other ↦ (let found : old w ≡ Some k = sym (knows w ∙ rw other refl) ∙ e in
            let r = a.named w k found in (omega (arith, r.0), r.1))
      ];
    }

-- the head of the version of one step more
pub AreHeads-next : (guarded : List GuardedStep) (old new : VersionValue → Option ℕ) (heads : List ℕ) (n h : ℕ)
    (v : VersionValue) → AreHeads guarded old heads n → v ≡ version_at guarded n
    → h ≡ unwrap_or (old v) n → Knows v h old new → AreHeads guarded new (heads ++ h ∷ []) (n + 1)
AreHeads-next guarded old new heads n h v a same is knows =
    AreHeads-more guarded old new heads n h a (is ∙ ap (λ w. unwrap_or (old w) n) same)
    (λ w. knows w ∙ ap (λ u. cond (version_eq u w) (Some h) (old w)) same)

-- ---- filing

AreFrom-none : (guarded : List GuardedStep) (from : Option VersionValue) → AreFrom guarded from 0 []
AreFrom-none guarded from = record { only = All-nil _; each = λ p l. absurd (omega arith) }

-- one step more starts here
AreFrom-push : (guarded : List GuardedStep) (from : Option VersionValue) (n : ℕ) (places : List ℕ)
    → AreFrom guarded from n places → origin_at guarded n ≡ from → AreFrom guarded from (n + 1) (places ++ n ∷ [])
AreFrom-push guarded from n places h e = record {
  only = All-push (λ p. (p < n + 1) × (origin_at guarded p ≡ from)) places n
      (All-weaker (λ p. (p < n) × (origin_at guarded p ≡ from)) (λ p. (p < n + 1) × (origin_at guarded p ≡ from))
      (λ p q. (omega (arith, q.0), q.1)) places h.only)
      (omega arith, e);
  each = λ p l o. elim (cases_lt p n) [
    | inl low ↦ Contains-append_left places (n ∷ []) p (h.each p low o)
    | inr high ↦ (let here : p ≡ n = omega arith in rw here (Contains-push places n))
  ];
}

-- one step more starts elsewhere
AreFrom-skip : (guarded : List GuardedStep) (from : Option VersionValue) (n : ℕ) (places : List ℕ)
    → AreFrom guarded from n places → origin_at guarded n ≢ from → AreFrom guarded from (n + 1) places
AreFrom-skip guarded from n places h e = record {
  only = All-weaker (λ p. (p < n) × (origin_at guarded p ≡ from)) (λ p. (p < n + 1) × (origin_at guarded p ≡ from))
      (λ p q. (omega (arith, q.0), q.1)) places h.only;
  each = λ p l o. elim (cases_lt p n) [
    | inl low ↦ h.each p low o
    | inr high ↦ (let here : p ≡ n = omega arith in absurd (e (rw here at o)))
  ];
}

pub AreFiled-none : (guarded : List GuardedStep) (heads first : List ℕ) (after : List (List ℕ)) → first ≡ []
    → after ≡ replicate (length guarded) [] → AreFiled guarded heads first after 0
AreFiled-none guarded heads first after e f = record {
  count = rw f (length-replicate (length guarded) []);
  from_nothing = rw e (AreFrom-none guarded None);
  from_heads = λ h l is. let empty : get_or after h [] ≡ [] = ap (λ (a : List (List ℕ)). get_or a h []) f
      ∙ get_or-replicate {A = List ℕ} (length guarded) h [] [] l in
      rw empty (AreFrom-none guarded (Some (version_at guarded h)));
}

-- a step from nothing is filed
pub AreFiled-first : (guarded : List GuardedStep) (heads first : List ℕ) (after : List (List ℕ)) (n : ℕ)
    → AreFiled guarded heads first after n → origin_at guarded n ≡ None
    → AreFiled guarded heads (first ++ n ∷ []) after (n + 1)
AreFiled-first guarded heads first after n h e = record {
  count = h.count;
  from_nothing = AreFrom-push guarded None n first h.from_nothing e;
  from_heads = λ k l is. AreFrom-skip guarded (Some (version_at guarded k)) n (get_or after k []) (h.from_heads k l is)
      (λ o. (let q = sym e ∙ o in cc q));
}

-- a step from a version to which no step leads is passed over
pub AreFiled-nowhere : (guarded : List GuardedStep) (numbers : VersionValue → Option ℕ) (heads first : List ℕ)
    (after : List (List ℕ)) (n : ℕ) (v : VersionValue) → AreHeads guarded numbers heads (length guarded)
    → AreFiled guarded heads first after n → origin_at guarded n ≡ Some v → numbers v ≡ None
    → AreFiled guarded heads first after (n + 1)
AreFiled-nowhere guarded numbers heads first after n v a h e none = record {
  count = h.count;
  from_nothing = AreFrom-skip guarded None n first h.from_nothing (λ o. (let q = sym e ∙ o in cc q));
  from_heads = λ k l is. AreFrom-skip guarded (Some (version_at guarded k)) n (get_or after k []) (h.from_heads k l is)
      (λ o. (let q : Some v ≡ Some (version_at guarded k) = sym e ∙ o in
      let same : v ≡ version_at guarded k = cc q in
      let found : None ≡ Some (get_or heads k 0) = sym none ∙ ap numbers same ∙ a.known k l in cc found));
}

-- a step is filed under the head of the version where it starts
pub AreFiled-after : (guarded : List GuardedStep) (numbers : VersionValue → Option ℕ) (heads first : List ℕ)
    (after : List (List ℕ)) (n : ℕ) (v : VersionValue) (at : ℕ) → AreHeads guarded numbers heads (length guarded)
    → AreFiled guarded heads first after n → origin_at guarded n ≡ Some v → numbers v ≡ Some at
    → AreFiled guarded heads first (set after at (get_or after at [] ++ n ∷ [])) (n + 1)
AreFiled-after guarded numbers heads first after n v at a h e found =
    let met : (at < length guarded) × (version_at guarded at ≡ v) = a.named v at found in
    record {
      count = length-set after at (get_or after at [] ++ n ∷ []) ∙ h.count;
      from_nothing = AreFrom-skip guarded None n first h.from_nothing (λ o. (let q = sym e ∙ o in cc q));
      from_heads = λ k l is. elim (cases_Bool (version_eq v (version_at guarded k))) [
        | inl tied ↦ (let same : v ≡ version_at guarded k = (version_eq-Decides v (version_at guarded k)).0 tied in
            let both : Some at ≡ Some (get_or heads k 0) = sym found ∙ ap numbers same ∙ a.known k l in
            let number : at ≡ get_or heads k 0 = cc both in
            let here : k ≡ at = sym is ∙ sym number in
            rw (here, get_or-set_same after at (get_or after at [] ++ n ∷ []) [] (rw h.count met.0))
            (AreFrom-push guarded (Some (version_at guarded at)) n (get_or after at [])
            (h.from_heads at met.0 (rw here at is)) (e ∙ ap (λ (w : VersionValue). Some w) (sym met.1))))
        | inr other ↦
            (let elsewhere : k ≢ at = (λ q. false≢true
            (sym other ∙ (version_eq-Decides v (version_at guarded k)).1
            (sym met.1 ∙ ap (version_at guarded) (sym q)))) in
            rw (get_or-set_other after at k (get_or after at [] ++ n ∷ []) [] elsewhere)
            (AreFrom-skip guarded (Some (version_at guarded k)) n (get_or after k []) (h.from_heads k l is)
            (λ o. (let q : Some v ≡ Some (version_at guarded k) = sym e ∙ o in
            let same : v ≡ version_at guarded k = cc q in
            false≢true (sym other ∙ (version_eq-Decides v (version_at guarded k)).1 same)))))
      ];
    }

-- heads and files are links
pub IsLinked-from : (guarded : List GuardedStep) (numbers : VersionValue → Option ℕ) (links : Links)
    → AreHeads guarded numbers links.heads.items (length guarded)
    → AreFiled guarded links.heads.items links.first.items (lists_in links.after.items) (length guarded)
    → IsLinked guarded links
IsLinked-from guarded numbers links a f = record {
  count = a.count;
  within = λ p l. (a.named (version_at guarded p) (get_or links.heads.items p 0) (a.known p l)).0;
  leads = λ p l. (a.named (version_at guarded p) (get_or links.heads.items p 0) (a.known p l)).1;
  same =
      λ p q l m e. (let found : Some (get_or links.heads.items p 0) ≡ Some (get_or links.heads.items q 0) = sym
      (a.known p l) ∙ ap numbers e ∙ a.known q m in cc found);
  filed = f;
}

-- the step at a place
pub at_place : (guarded : List GuardedStep) (place : ℕ) (s : GuardedStep) → place < length guarded
    → get_or guarded place s ≡ get_or guarded place no_step
at_place guarded place s l = get_or_default guarded place s no_step l
