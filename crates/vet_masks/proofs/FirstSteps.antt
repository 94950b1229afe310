-- Chains, and the exempt step with which they may start.
use Rattle.std.proofs.Common.{◌≡◌, ◌≢◌, ◌&&◌, ◌<◌, ℕ, zero, suc, Bool, true, false, not, List, [], ◌∷◌, ◌++◌}
use Rattle.std.proofs.Common.{Option, Some, None}
use Rattle.std.proofs.Common.{get_or, length, length-append, refl, sym, ap, subst, ◌∙◌, arith, inl, inr}
use Rattle.std.specs.List.{All, AllPairs, Contains}
use Rattle.std.proofs.lemmas.Bool.{cases_Bool, false≢true}
use Rattle.std.proofs.lemmas.List.{get_or_append_left, get_or_push}
use Rattle.std.proofs.lemmas.List.Elements.{All-nil, All-cons, All-contains, All-head, All-tail, All-weaker}
use Rattle.std.proofs.lemmas.List.Elements.{Contains-push}
use Rattle.vet_base.specs.Version.{VersionValue}
use Rattle.vet_entries.specs.declared.step.Step.{Step}
use Rattle.vet_graph.specs.Chain.{EndsReviewed, IsChain, Leads}
use Rattle.vet_masks.specs.declared.rule.Rule.{Rule}
use Rattle.vet_masks.specs.Classes.{StartsExempt, is_taken_by}
use Rattle.vet_masks.specs.Rules.{AreEnough, rule_of, skips}

pub takes_reviewed : (e k : Bool) → e ≡ false → not (e && k) ≡ true
takes_reviewed false k h = refl
takes_reviewed true k h = absurd (false≢true (sym h))

takes_unskipped : (e k : Bool) → k ≡ false → not (e && k) ≡ true
takes_unskipped true k h = ap not h
takes_unskipped false k h = refl

pub reviewed_from : (e k : Bool) → k ≡ true → not (e && k) ≡ true → e ≡ false
reviewed_from false k h t = refl
reviewed_from true k h t = absurd (false≢true (sym (ap not h) ∙ t))

-- a walk has a last step, which leads to where the walk does
last-step : (at : Option VersionValue) (s : Step) (chain : List Step) (v : VersionValue) → Leads at (s ∷ chain) v
    → (front : List Step) × (t : Step) × (s ∷ chain ≡ front ++ t ∷ []) × (t.target ≡ v)
last-step at s [] v l = ([], s, refl, (let e = l.1 in cc e))
last-step at s (t ∷ rest) v l =
    let r = last-step (Some s.target) t rest v l.1 in
    (s ∷ r.0, r.1, ap (λ c. s ∷ c) r.2, r.3)

last-target : (at : Option VersionValue) (front : List Step) (s : Step) (v : VersionValue)
    → Leads at (front ++ s ∷ []) v → s.target ≡ v
last-target at [] s v l = let e = l.1 in cc e
last-target at (t ∷ front) s v l = last-target (Some t.target) front s v l.1

-- no step before the last leads where the last does
before-elsewhere : (front : List Step) (s : Step) → AllPairs (λ t u. t.target ≢ u.target) (front ++ s ∷ [])
    → All (λ t. t.target ≢ s.target) front
before-elsewhere front s once k d l same =
    once k (length front) d l (rw length-append (omega arith))
    (rw (get_or_append_left front (s ∷ []) d k l, get_or_push front s d (length front) refl) same)

-- an exempt first step of a chain that ends in a review leads elsewhere
first-elsewhere : (steps : List Step) (c : ℕ) (v : VersionValue) (s : Step) (chain front : List Step) (t : Step)
    → IsChain steps c v (s ∷ chain) → s ∷ chain ≡ front ++ t ∷ [] → t.exempt ≡ false → s.exempt ≡ true → s.target ≢ v
first-elsewhere steps c v s chain [] t h e reviewed exempt same =
    let first : s ≡ t = ap (λ xs. get_or xs 0 s) e in
    false≢true (sym reviewed ∙ ap (λ (x : Step). x.exempt) (sym first) ∙ exempt)
first-elsewhere steps c v s chain (u ∷ front) t h e reviewed exempt same =
    let first : s ≡ u = ap (λ xs. get_or xs 0 s) e in
    let whole : IsChain steps c v ((u ∷ front) ++ t ∷ []) = subst (IsChain steps c v) e h in
    All-head (λ x. x.target ≢ t.target) u front (before-elsewhere (u ∷ front) t whole.once)
    (ap (λ (x : Step). x.target) (sym first) ∙ same ∙ sym (last-target None (u ∷ front) t v whole.leads))

skips-unnumbered : (i : ℕ) → skips (rule_of i) None ≡ true
skips-unnumbered zero = refl
skips-unnumbered (suc i) = refl

-- a chain of steps that a search takes, which skips the exempt ones to where it leads, ends in a review
pub ends-reviewed : (steps : List Step) (number : VersionValue → Option ℕ) (r : Rule) (c : ℕ) (v : VersionValue)
    (chain : List Step) → IsChain steps c v chain → skips r (number v) ≡ true
    → All (λ s. is_taken_by number r s ≡ true) chain → EndsReviewed chain
ends-reviewed steps number r c v [] h k all = absurd (let l = h.leads in cc l)
ends-reviewed steps number r c v (s ∷ chain) h k all =
    let last = last-step None s chain v h.leads in
    let P : List Step → Type 0 = λ ss. All (λ t. is_taken_by number r t ≡ true) ss in (
      last.0,
      last.1,
      last.2,
      reviewed_from last.1.exempt (skips r (number last.1.target)) (ap (λ w. skips r (number w)) last.3 ∙ k)
          (All-contains (λ t. is_taken_by number r t ≡ true) (last.0 ++ last.1 ∷ []) last.1 (subst P last.2 all)
          (Contains-push last.0 last.1)),
    )

module _ (steps : List Step) (starts : All StartsExempt steps) (number : VersionValue → Option ℕ) (count searches : ℕ)
    (enough : AreEnough count searches)
    (numbered : (s : Step) → Contains steps s → s.exempt ≡ true
    → (n : ℕ) × (number s.target ≡ Some n) × (n < count)) where
  -- behind the first step of a chain, none is exempt
  later : (at : VersionValue) (chain : List Step) (v : VersionValue) → All (Contains steps) chain
      → Leads (Some at) chain v → All (λ s. s.exempt ≡ false) chain
  later at [] v k l = All-nil _
  later at (s ∷ chain) v k l =
      All-cons (λ t. t.exempt ≡ false) s chain
      (elim (cases_Bool s.exempt) [
        | inl exempt ↦ (let none : None ≡ Some at =
            sym (All-contains StartsExempt steps s starts (All-head (Contains steps) s chain k) exempt) ∙ l.0 in
            absurd (cc none))
        | inr reviewed ↦ reviewed
      ])
      (later s.target chain v (All-tail (Contains steps) s chain k) l.1)

  -- a search that takes the first step of a chain takes the chain
  takes-chain : (r : Rule) (c : ℕ) (v : VersionValue) (s : Step) (chain : List Step) → IsChain steps c v (s ∷ chain)
      → is_taken_by number r s ≡ true → All (λ t. is_taken_by number r t ≡ true) (s ∷ chain)
  takes-chain r c v s chain h first =
      All-cons (λ t. is_taken_by number r t ≡ true) s chain first
      (All-weaker (λ t. t.exempt ≡ false) (λ t. is_taken_by number r t ≡ true)
      (λ t e. takes_reviewed t.exempt (skips r (number t.target)) e) chain
      (later s.target chain v (All-tail (Contains steps) s chain h.of_package) h.leads.1))

  -- some search takes it
  pub some-takes : (c : ℕ) (v : VersionValue) (chain : List Step) → IsChain steps c v chain
      → (i : ℕ) × (i < searches) × All (λ s. is_taken_by number (rule_of i) s ≡ true) chain
  some-takes c v [] h = absurd (let l = h.leads in cc l)
  some-takes c v (s ∷ chain) h = elim (cases_Bool s.exempt) [
    | inl exempt ↦ (let n = numbered s (All-head (Contains steps) s chain h.of_package) exempt in
        let r = enough.each n.0 n.2 in (
          r.0,
          r.1,
          takes-chain (rule_of r.0) c v s chain h
              (takes_unskipped s.exempt _ (ap (skips (rule_of r.0)) n.1 ∙ r.2)),
        ))
    | inr reviewed ↦ (0, enough.some, takes-chain (rule_of 0) c v s chain h (takes_reviewed s.exempt _ reviewed))
  ]

  -- and where it ends in a review, some search that skips the exempt steps to where it leads
  pub review-takes : (c : ℕ) (v : VersionValue) → ((n : ℕ) → number v ≡ Some n → n < count)
      → ((s : Step) → Contains steps s → (n : ℕ) → number s.target ≡ Some n → number v ≡ Some n → s.target ≡ v)
      → (chain : List Step) → IsChain steps c v chain → EndsReviewed chain
      → (i : ℕ) × (i < searches) × (skips (rule_of i) (number v) ≡ true)
      × All (λ s. is_taken_by number (rule_of i) s ≡ true) chain
  review-takes c v low apart [] h e = absurd (let l = h.leads in cc l)
  review-takes c v low apart (s ∷ chain) h e = elim (cases_Bool s.exempt) [
    | inl exempt ↦ by exempt (number v) refl
    | inr reviewed ↦ (
      0,
      enough.some,
      refl,
      takes-chain (rule_of 0) c v s chain h (takes_reviewed s.exempt _ reviewed),
    )
  ]
    where
      by : s.exempt ≡ true → (o : Option ℕ) → number v ≡ o → (i : ℕ) × (i < searches)
          × (skips (rule_of i) (number v) ≡ true) × All (λ t. is_taken_by number (rule_of i) t ≡ true) (s ∷ chain)
      by exempt None is =
          let n = numbered s (All-head (Contains steps) s chain h.of_package) exempt in
          let r = enough.each n.0 n.2 in (
            r.0,
            r.1,
            ap (skips (rule_of r.0)) is ∙ skips-unnumbered r.0,
            takes-chain (rule_of r.0) c v s chain h
                (takes_unskipped s.exempt _ (ap (skips (rule_of r.0)) n.1 ∙ r.2)),
          )
      by exempt (Some m) is =
          let among = All-head (Contains steps) s chain h.of_package in
          let n = numbered s among exempt in
          let r = enough.apart m n.0 (low m is) n.2
          (λ same. first-elsewhere steps c v s chain e.0 e.1 h e.2 e.3 exempt
          (apart s among n.0 n.1 (is ∙ ap (λ (x : ℕ). Some x) same))) in (
            r.0,
            r.1,
            ap (skips (rule_of r.0)) is ∙ r.2,
            takes-chain (rule_of r.0) c v s chain h
                (takes_unskipped s.exempt _ (ap (skips (rule_of r.0)) n.1 ∙ r.3)),
          )
