use Rattle.std.proofs.Common.{◌≡◌, sym, ap, ◌∙◌, arith, inl, inr}
use Rattle.std.specs.FinSet as set
use Rattle.std.specs.Ordering.{nat_cmp}
use Rattle.std.proofs.lemmas.Bool.{and_from, and_parts, cases_lt, false≢true}
use Rattle.vet_base.specs.CriteriaSet.{has}
use Rattle.vet_masks.proofs.Sizes.{has-union_cases, has-union_left, has-union_right}
use Rattle.vet_masks.proofs.classes.PackageClasses.reached.Goals as goal

pub searches-init : goal.searches-init
searches-init c q = (
  λ e. absurd (false≢true (sym (ap (has q) c.empty-criteria.ensures ∙ set.contains-empty nat_cmp q) ∙ e)),
  λ w. absurd (omega (arith, w.1)),
)

pub searches-preserved : goal.searches-preserved
searches-preserved c q =
    let p = c.args.self.now in
    let n = c.args.number in
    let i = c.searches.place in
    let one = c.reached_by.ensures q in
    let both = set.union c.searches.criteria c.reached_by.result in
    let is : has q c.union-criteria.result ≡ has q both = ap (has q) c.union-criteria.ensures in (
      λ e. elim (has-union_cases c.searches.criteria c.reached_by.result q (sym is ∙ e)) [
        | inl before ↦ (let w = (c.searches.invariant q).0 before in (w.0, omega (arith, w.1), w.2, w.3))
        | inr here ↦ (let parts = and_parts _ _ (sym one ∙ here) in (i, omega arith, parts.0, parts.1))
      ],
      λ w. is ∙ elim (cases_lt w.0 i) [
        | inl low ↦ has-union_left c.searches.criteria c.reached_by.result q
            ((c.searches.invariant q).1 (w.0, low, w.2, w.3))
        | inr high ↦ (let same : w.0 ≡ i = omega (arith, high, w.1) in
            has-union_right c.searches.criteria c.reached_by.result q (one
            ∙ and_from _ _ (rw same at w.2) (rw same at w.3)))
      ],
    )
