-- What a search says of each kind of chain.
use Rattle.std.proofs.Common.{◌≡◌, ◌≢◌, ℕ, Bool, true, false, List, [], ◌∷◌, ◌++◌, None, Some, Option, length, inl, inr}
use Rattle.std.proofs.Common.{length-append, refl, ap, sym, subst, ◌∙◌, ◌↔◌, IsTrue, arith, get_or, Result, Bor}
use Rattle.std.specs.Prelude.{IfOk}
use Rattle.std.specs.List.{All, AllPairs, Contains}
use Rattle.std.proofs.lemmas.List.Elements.{All-nil, All-cons, All-head, All-tail, All-map, All-weaker, All-push}
use Rattle.std.proofs.lemmas.List.Elements.{All-contains, Contains-push}
use Rattle.std.proofs.lemmas.Bool.{not-true, not_from_false, and_left, and_right, and_cases, cases_Bool, false≢true}
use Rattle.std.proofs.lemmas.List.{get_or_append_left, get_or_push}
use Rattle.std.proofs.lemmas.Result.{IfOk-weaker}
use Rattle.vet_base.specs.CriteriaSet.{has}
use Rattle.vet_base.specs.Version.{VersionValue}
use Rattle.vet_base.specs.VersionOrder.{version_eq}
use Rattle.vet_base.specs.VersionOrderLaws.{version_eq-Decides}
use Rattle.vet_entries.specs.declared.step.Step.{Step}
use Rattle.vet_graph.specs.declared.guarded.GuardedStep.{GuardedStep}
use Rattle.vet_graph.specs.declared.skip.Skip.{Skip}
use Rattle.vet_graph.specs.declared.skip.Skip.TheVariants.{Nothing, Exempt, ExemptTo}
use Rattle.vet_graph.specs.declared.search.Terms.{Terms}
use Rattle.vet_graph.specs.Chain.{Condemned, EndsReviewed, HasChain, HasCleanChain, HasNoExempt, IsAny, IsChain}
use Rattle.vet_graph.specs.Chain.{IsClean, Leads}
use Rattle.vet_graph.specs.Class.{IsConflicting, IsExempted, IsFull, IsPartial}
use Rattle.vet_graph.specs.Search.{AreGuardedAt, IsReached, may_take, steps_in}
use Rattle.vet_graph.proofs.Reach.{All-unmapped, Contains-unmapped}

-- each chain is one of guarded steps
guarded_chain : (guarded : List GuardedStep) (chain : List Step) → All (Contains (steps_in guarded)) chain
    → (carried : List GuardedStep) × All (Contains guarded) carried × (steps_in carried ≡ chain)
guarded_chain guarded [] h = ([], All-nil _, refl)
guarded_chain guarded (s ∷ chain) h =
    let first = Contains-unmapped (λ (g : GuardedStep). g.step) guarded s
    (All-head (Contains (steps_in guarded)) s chain h) in
    let rest = guarded_chain guarded chain (All-tail (Contains (steps_in guarded)) s chain h) in
    (first.0 ∷ rest.0, All-cons (Contains guarded) first.0 rest.0 first.1 rest.1, λ i. first.2 i ∷ rest.2 i)

-- what is clean isn't barred, and the other way round
unbarred-from_clean : (guarded : List GuardedStep) (condemned : Condemned) (c : ℕ) (chain : List GuardedStep)
    → AreGuardedAt c condemned guarded → All (Contains guarded) chain → IsClean condemned c (steps_in chain)
    → All (λ g. has c g.condemned ≡ false) chain
unbarred-from_clean guarded condemned c chain are among clean k d l =
    All-contains (λ g. has c g.condemned ≡ condemned c g.step.target) guarded (get_or chain k d) are (among k d l)
    ∙ All-unmapped (λ s. condemned c s.target ≡ false) (λ g. g.step) chain clean k d l

clean-from_unbarred : (guarded : List GuardedStep) (condemned : Condemned) (c : ℕ) (chain : List GuardedStep)
    → AreGuardedAt c condemned guarded → All (Contains guarded) chain → All (λ g. has c g.condemned ≡ false) chain
    → IsClean condemned c (steps_in chain)
clean-from_unbarred guarded condemned c chain are among unbarred =
    All-map (λ s. condemned c s.target ≡ false) (λ g. g.step) chain
    (λ k d l. sym
    (All-contains (λ g. has c g.condemned ≡ condemned c g.step.target) guarded (get_or chain k d) are (among k d l))
    ∙ unbarred k d l)

-- the terms of each search
abbrev on_terms : ℕ → Bool → Skip → Terms
on_terms c barred skip = record { place = c; barred = barred; skip = skip }

-- a search on these terms finds the clean chains that take no skipped step
clean-iff : (guarded : List GuardedStep) (condemned : Condemned) (c : ℕ) (skip : Skip) (v : VersionValue)
    (P : List Step → Type 0) → AreGuardedAt c condemned guarded
    → ((chain : List Step) → IsChain (steps_in guarded) c v chain → All (λ s. may_take skip s ≡ true) chain ↔ P chain)
    → IsReached guarded (on_terms c true skip) v ↔ HasCleanChain (steps_in guarded) condemned c v P
clean-iff guarded condemned c skip v P are same = (
  λ r. (
    steps_in r.0,
    r.2,
    clean-from_unbarred guarded condemned c r.0 are r.1 r.3,
    (same (steps_in r.0) r.2).0
        (All-map (λ s. may_take skip s ≡ true) (λ g. g.step) r.0 r.4),
  ),
  λ h. let carried = guarded_chain guarded h.0 h.1.of_package in (
    carried.0,
    carried.1,
    rw carried.2 h.1,
    unbarred-from_clean guarded condemned c carried.0 are carried.1 (rw carried.2 h.2),
    All-unmapped (λ s. may_take skip s ≡ true) (λ g. g.step) carried.0 (rw carried.2 ((same h.0 h.1).1 h.3)),
  ),
)

-- a search that nothing bars finds a chain of any kind
chain-iff : (guarded : List GuardedStep) (c : ℕ) (v : VersionValue) → IsReached guarded
    (on_terms c false Nothing) v ↔ HasChain (steps_in guarded) c v
chain-iff guarded c v = (
  λ r. (steps_in r.0, r.2),
  λ h. let carried =
      guarded_chain guarded h.0 h.1.of_package in (
        carried.0,
        carried.1,
        rw carried.2 h.1,
        (λ k d l. refl),
        (λ k d l. refl),
      ),
)

-- a version that is condemned is conflicting where some chain leads to it
pub conflicting-iff : (guarded : List GuardedStep) (condemned : Condemned) (c : ℕ) (v : VersionValue)
    → condemned c v ≡ true → IsReached guarded (on_terms c false Nothing) v ↔ IsConflicting
    (steps_in guarded) condemned c v
conflicting-iff guarded condemned c v e = (λ r. (e, (chain-iff guarded c v).0 r), λ h. (chain-iff guarded c v).1 h.1)

pub exempted-iff : (guarded : List GuardedStep) (condemned : Condemned) (c : ℕ) (v : VersionValue)
    → AreGuardedAt c condemned guarded → IsReached guarded (on_terms c true Nothing) v ↔ IsExempted
    (steps_in guarded) condemned c v
exempted-iff guarded condemned c v are = clean-iff guarded condemned c Nothing v IsAny are
    (λ chain h. (λ m. tt, λ p. λ k d l. refl))

pub full-iff : (guarded : List GuardedStep) (condemned : Condemned) (c : ℕ) (v : VersionValue)
    → AreGuardedAt c condemned guarded → IsReached guarded (on_terms c true Exempt) v ↔ IsFull
    (steps_in guarded) condemned c v
full-iff guarded condemned c v are = clean-iff guarded condemned c Exempt v HasNoExempt are
    (λ chain h. (λ m. λ k d l. not-true _ (m k d l), λ p. λ k d l. not_from_false _ (p k d l)))

-- a walk of some steps has a last one, which leads to where the walk does
last_step : (at : Option VersionValue) (s : Step) (chain : List Step) (v : VersionValue) → Leads at (s ∷ chain) v
    → (front : List Step) × (t : Step) × (s ∷ chain ≡ front ++ t ∷ []) × (t.target ≡ v)
last_step at s [] v l = ([], s, refl, (let e = l.1 in cc e))
last_step at s (t ∷ rest) v l =
    let r = last_step (Some s.target) t rest v l.1 in
    (s ∷ r.0, r.1, ap (λ c. s ∷ c) r.2, r.3)

-- where the last step leads is where the walk does
last_target : (at : Option VersionValue) (front : List Step) (s : Step) (v : VersionValue)
    → Leads at (front ++ s ∷ []) v → s.target ≡ v
last_target at [] s v l = let e = l.1 in cc e
last_target at (t ∷ front) s v l = last_target (Some t.target) front s v l.1

-- a step that isn't exempt, or leads elsewhere, may be taken
taken-reviewed : (v : Bor VersionValue) (s : Step) → s.exempt ≡ false → may_take (ExemptTo v) s ≡ true
taken-reviewed v s e = not_from_false _ (and_left _ _ e)

other-version : (a b : VersionValue) → a ≢ b → version_eq a b ≡ false
other-version a b n = elim
    (cases_Bool (version_eq a b)) [ inl e ↦ absurd (n ((version_eq-Decides a b).0 e)) | inr e ↦ e ]

taken-elsewhere : (v : Bor VersionValue) (s : Step) → s.target ≢ v.now → may_take (ExemptTo v) s ≡ true
taken-elsewhere v s n = not_from_false _ (and_right s.exempt _ (other-version s.target v.now n))

-- a step to v that may be taken isn't exempt
reviewed-from_taken : (v : Bor VersionValue) (s : Step) → s.target ≡ v.now → may_take (ExemptTo v) s ≡ true
    → s.exempt ≡ false
reviewed-from_taken v s at h =
    elim (and_cases s.exempt (version_eq s.target v.now) (not-true _ h)) [
      | inl e ↦ e
      | inr e ↦ absurd
          (false≢true (sym e ∙ (version_eq-Decides s.target v.now).1 at))
    ]

-- no step before the last leads where the last does
All-elsewhere : (front : List Step) (s : Step) → AllPairs (λ t u. t.target ≢ u.target) (front ++ s ∷ [])
    → All (λ t. t.target ≢ s.target) front
All-elsewhere front s once k d l same =
    once k (length front) d l (rw length-append (omega arith))
    (rw (get_or_append_left front (s ∷ []) d k l, get_or_push front s d (length front) refl) same)

reviewed-from_reached : (steps : List Step) (c : ℕ) (v : Bor VersionValue) (chain : List Step)
    → IsChain steps c v.now chain → All (λ s. may_take (ExemptTo v) s ≡ true) chain → EndsReviewed chain
reviewed-from_reached steps c v [] h m = let l = h.leads in cc l
reviewed-from_reached steps c v (s ∷ chain) h m =
    let r = last_step None s chain v.now h.leads in (
      r.0,
      r.1,
      r.2,
      reviewed-from_taken v r.1 r.3
          (All-contains (λ t. may_take (ExemptTo v) t ≡ true) (r.0 ++ r.1 ∷ []) r.1
          (let P : List Step → Type 0 = λ ss. All (λ t. may_take (ExemptTo v) t ≡ true) ss in subst P r.2 m)
          (Contains-push r.0 r.1)),
    )

taken-from_reviewed : (steps : List Step) (c : ℕ) (v : Bor VersionValue) (front : List Step) (s : Step)
    → IsChain steps c v.now (front ++ s ∷ []) → s.exempt ≡ false → All (λ t. may_take (ExemptTo v) t ≡ true)
    (front ++ s ∷ [])
taken-from_reviewed steps c v front s h e =
    let at : s.target ≡ v.now = last_target None front s v.now h.leads in
    All-push (λ t. may_take (ExemptTo v) t ≡ true) front s
    (All-weaker (λ t. t.target ≢ s.target) (λ t. may_take (ExemptTo v) t ≡ true)
    (λ t n. taken-elsewhere v t (rw at at n)) front (All-elsewhere front s h.once))
    (taken-reviewed v s e)

pub partial-iff : (guarded : List GuardedStep) (condemned : Condemned) (c : ℕ) (v : Bor VersionValue)
    → AreGuardedAt c condemned guarded → IsReached guarded (on_terms c true (ExemptTo v)) v.now ↔ IsPartial
    (steps_in guarded) condemned c v.now
partial-iff guarded condemned c v are =
    clean-iff guarded condemned c (ExemptTo v) v.now EndsReviewed are
    (λ chain h. (
      reviewed-from_reached (steps_in guarded) c v chain h,
      λ e. rw e.2
          (taken-from_reviewed (steps_in guarded) c v e.0 e.1 (rw e.2 at h) e.3),
    ))

-- an answer to a question answers each that has the same answer
pub answered : {E : Type 0} (P Q : Type 0) (result : Result Bool E) → P ↔ Q → IfOk result (λ b. IsTrue b ↔ P)
    → IfOk result (λ b. IsTrue b ↔ Q)
answered P Q result same h =
    IfOk-weaker result (λ b. IsTrue b ↔ P) (λ b. IsTrue b ↔ Q) (λ b k. (λ t. same.0 (k.0 t), λ q. k.1 (same.1 q))) h
