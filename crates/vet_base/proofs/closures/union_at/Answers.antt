use Rattle.std.proofs.Common.{◌≡◌, ℕ, ◌<◌, ◌||◌, true, ap, sym, ◌∙◌, arith, get_or, length, inl, inr}
use Rattle.std.specs.Cmp.{nat_cmp_total}
use Rattle.std.specs.Ordering.{nat_cmp}
use Rattle.std.specs.FinSet as set
use Rattle.vet_base.specs.declared.limits.TheConstants.{MOST_CRITERIA as most}
use Rattle.std.proofs.lemmas.List.{get_or_default}
use Rattle.std.proofs.lemmas.Bool.{cases_lt, false≢true}
use Rattle.vet_base.specs.CriteriaSet.{has}
use Rattle.vet_base.proofs.Closed.{one_more_found, none_more_found}
use Rattle.vet_base.proofs.closures.union_at.Goals as goal
use Rattle.vet_base.proofs.closures.union_at.Goals.{then-has, else-has}

pub places-init : goal.places-init
places-init c q = (
  λ h. absurd (false≢true (sym (set.contains-empty nat_cmp q) ∙ ap (has q) (sym c.empty-joined.ensures) ∙ h)),
  λ h. absurd (omega (arith, h.1)),
)

pub places-preserved : goal.places-preserved
places-preserved c q =
    let n = c.places.place in
    let closed = c.args.sets.now in
    let held = λ (p : ℕ). (has p c.args.places.now ≡ true) × (has q (get_or closed p set.empty) ≡ true) in
    let old = c.places.invariant q in
    elim c.if-has.branch [
      | then-has w ↦ (let long : length closed ≡ most = search in
          let found = get_or closed n set.empty in
          let here : get_or closed n w.index-sets-place.result ≡ found =
          get_or_default closed n w.index-sets-place.result set.empty (omega (arith, c.places-test.true, long))
          in
          let is : has q c.if-has.joined ≡ (has q c.places.joined || has q found) =
          ap (has q) (w.joined-is ∙ w.union-joined.ensures ∙ ap (set.union c.places.joined) here)
          ∙ set.contains-union nat_cmp_total c.places.joined found q in
          rw is (one_more_found held (has q c.places.joined) n old (has q found)
          (λ h. (sym c.has.ensures.value ∙ w.if-has.true, h), λ h. h.1)))
      | else-has w ↦ rw w.joined-is
          (none_more_found held (has q c.places.joined) n old
          (λ h. false≢true (sym w.if-has.false ∙ c.has.ensures.value ∙ h.0)))
    ]

pub returns : goal.returns
returns c q = (
  λ h. (let at = (c.places.invariant q).0 h in (at.0, at.2.0, at.2.1)),
  λ h. (c.places.invariant q).1 (h.0, low h.0 h.1, (h.1, h.2)),
)
  where
    low : (p : ℕ) → has p c.args.places.now ≡ true → p < c.places.place
    low p h = elim (cases_lt p c.places.place) [
      | inl less ↦ less
      | inr high ↦ absurd (false≢true (sym (c.reaches.ensures.none c.places-test.false p high) ∙ h))
    ]
