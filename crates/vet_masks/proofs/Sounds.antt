-- What was reached has chains.
use Rattle.std.proofs.Common.{◌≡◌, ◌≢◌, ℕ, Bool, true, false, List, [], ◌∷◌, ◌++◌, Option, Some, None}
use Rattle.std.proofs.Common.{◌⊎◌, refl, sym, ap, subst, ◌∙◌, arith, inl, inr}
use Rattle.std.specs.List.{All, Contains}
use Rattle.std.proofs.lemmas.Bool.{cases_eq, false≢true}
use Rattle.std.proofs.lemmas.List.Elements.{All-nil, All-cons, All-push, All-weaker, All-head, All-tail}
use Rattle.std.proofs.lemmas.List.Quantifiers.{all_pairs_push}
use Rattle.vet_masks.specs.Masks.{IsOpenChain, IsSound, Leads, Numbered, Stands}

Leads-push : (at : Option ℕ) (chain : List Numbered) (v : ℕ) (s : Numbered) → Leads at chain v → s.origin ≡ Some v
    → Leads at (chain ++ s ∷ []) s.target
Leads-push at [] v s l o = (o ∙ sym l, refl)
Leads-push at (t ∷ chain) v s l o = (l.0, Leads-push (Some t.target) chain v s l.1 o)

module _ (steps : List Numbered) (open_step : Numbered → Bool) where
  push : (chain : List Numbered) (v : ℕ) (s : Numbered) → IsOpenChain steps open_step v chain → Contains steps s
      → open_step s ≡ true → s.origin ≡ Some v → All (λ t. t.target ≢ s.target) chain
      → IsOpenChain steps open_step s.target (chain ++ s ∷ [])
  push chain v s h c e o n = record {
    of_package = All-push (Contains steps) chain s h.of_package c;
    each_open = All-push (λ t. open_step t ≡ true) chain s h.each_open e;
    leads = Leads-push None chain v s h.leads o;
    once = all_pairs_push (λ t u. t.target ≢ u.target) chain s h.once (λ k d l. n k d l);
  }

  one : (s : Numbered) → Contains steps s → open_step s ≡ true → s.origin ≡ None
      → IsOpenChain steps open_step s.target (s ∷ [])
  one s c e o = record {
    of_package = All-cons (Contains steps) s [] c (All-nil _);
    each_open = All-cons (λ t. open_step t ≡ true) s [] e (All-nil _);
    leads = (o, refl);
    once = λ i j d l m. absurd (omega arith);
  }

  -- the chain of a version that is reached newly
  fresh : (r new : ℕ → Bool) (at : Option ℕ) (s : Numbered) → IsSound steps open_step r → Contains steps s
      → open_step s ≡ true → s.origin ≡ at → Stands r at → r s.target ≡ false
      → ((n : ℕ) → r n ≡ true → new n ≡ true) → new s.target ≡ true
      → (chain : List Numbered) × IsOpenChain steps open_step s.target chain × All (λ t. new t.target ≡ true) chain
  fresh r new None s h c e o st f grows here = (
    s ∷ [],
    one s c e o,
    All-cons (λ t. new t.target ≡ true) s [] here (All-nil _),
  )
  fresh r new (Some v) s h c e o st f grows here =
      let old = h v st in (
        old.0 ++ s ∷ [],
        push old.0 v s old.1 c e o
            (All-weaker (λ t. r t.target ≡ true) (λ t. t.target ≢ s.target)
            (λ t w q. false≢true (sym f ∙ sym (ap r q) ∙ w)) old.0 old.2),
        All-push (λ t. new t.target ≡ true) old.0 s
            (All-weaker (λ t. r t.target ≡ true) (λ t. new t.target ≡ true) (λ t w. grows t.target w) old.0 old.2) here,
      )

  -- where one more version may be reached, all are reached soundly
  pub sound-more : (r new : ℕ → Bool) (at : Option ℕ) (s : Numbered) → IsSound steps open_step r → Contains steps s
      → open_step s ≡ true → s.origin ≡ at → Stands r at
      → ((n : ℕ) → r n ≡ true → new n ≡ true) → ((n : ℕ) → n ≢ s.target → new n ≡ true → r n ≡ true)
      → IsSound steps open_step new
  sound-more r new at s h c e o st grows only v w = elim (cases_eq v s.target) [
    | inl same ↦ elim (cases (r v)) [
      | inl old ↦ keep v old
      | inr none ↦ subst (λ n. (chain : List Numbered) × IsOpenChain steps open_step n chain
          × All (λ t. new t.target ≡ true) chain) (sym same)
          (fresh r new at s h c e o st (rw same at none) grows (rw same at w))
    ]
    | inr other ↦ keep v (only v other w)
  ]
    where
      cases : (b : Bool) → (b ≡ true) ⊎ (b ≡ false)
      cases true = inl refl
      cases false = inr refl

      keep : (v : ℕ) → r v ≡ true → (chain : List Numbered) × IsOpenChain steps open_step v chain
          × All (λ t. new t.target ≡ true) chain
      keep v old = (let k = h v old in (
        k.0,
        k.1,
        All-weaker (λ t. r t.target ≡ true) (λ t. new t.target ≡ true) (λ t q. grows t.target q) k.0 k.2,
      ))

  -- the same versions are reached
  pub sound-same : (r new : ℕ → Bool) → IsSound steps open_step r → ((n : ℕ) → new n ≡ r n)
      → IsSound steps open_step new
  sound-same r new h same v w = (let k = h v (sym (same v) ∙ w) in (
    k.0,
    k.1,
    All-weaker (λ t. r t.target ≡ true) (λ t. new t.target ≡ true) (λ t q. same t.target ∙ q) k.0 k.2,
  ))

  -- where each open step from what was reached leads into it, each walk of open steps ends in it
  pub walk_ends : (r : ℕ → Bool)
      → ((at : Option ℕ) → Stands r at → (s : Numbered) → Contains steps s → open_step s ≡ true → s.origin ≡ at
      → r s.target ≡ true)
      → (at : Option ℕ) (chain : List Numbered) (v : ℕ) → Stands r at → Leads at chain v → All (Contains steps) chain
      → All (λ s. open_step s ≡ true) chain → Stands r (Some v)
  walk_ends r closed at [] v st l c e = rw l at st
  walk_ends r closed at (s ∷ chain) v st l c e =
      walk_ends r closed (Some s.target) chain v
      (closed at st s (All-head (Contains steps) s chain c) (All-head (λ t. open_step t ≡ true) s chain e) l.0)
      l.1 (All-tail (Contains steps) s chain c) (All-tail (λ t. open_step t ≡ true) s chain e)
