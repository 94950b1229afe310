use Rattle.std.proofs.Common.{◌≡◌, ◌<◌, true, false, get_or, length, sym, ap, ◌∙◌, arith}
use Rattle.std.specs.FinSet as set
use Rattle.std.proofs.lemmas.Bool.{false≢true}
use Rattle.std.proofs.lemmas.List.{get_or_default}
use Rattle.vet_base.specs.CriteriaSet.{has}
use Rattle.vet_masks.proofs.Classing.{chain-iff, condemned-at, none-conflicting}
use Rattle.vet_masks.proofs.classes.PackageClasses.is_conflicting.Goals as goal

pub returns-in_default : goal.returns-in_default
returns-in_default c steps condemned h v e = (
  λ t. absurd (false≢true t),
  λ w. absurd (none-conflicting steps condemned c.args.self.now h v c.args.number e c.args.place
      (rw c.in_default.is at h.found.any) w),
)

pub returns-then-has : goal.returns-then-has
returns-then-has c steps condemned h v e =
    let p = c.args.self.now in
    let n = c.args.number in
    let place = c.args.place in
    let any = c.in-Some.any in
    let reached = rw c.in-Some.is at h.found.any in
    let below = h.found.index.numbering.below v n e in
    let low : n < length p.condemned.items = omega (arith, below, h.found.judged.count) in
    let low_any : n < length any.items = omega (arith, below, reached.count) in
    let known : has place (get_or p.condemned.items n set.empty) ≡ true =
    ap (has place) (get_or_default p.condemned.items n set.empty c.index.result.now low ∙ sym c.index.ensures)
    ∙ sym c.has.ensures.value ∙ c.if-has.true in
    let there : has place (get_or any.items n set.empty) ≡ c.has-then-has.result =
    ap (has place) (get_or_default any.items n set.empty c.index-then-has.result.now low_any
    ∙ sym c.index-then-has.ensures) ∙ sym c.has-then-has.ensures.value in
    let chains = chain-iff steps condemned p h v n e place any reached in (
      λ t. (sym (condemned-at steps condemned p h v n e place) ∙ known, chains.0 (there ∙ t)),
      λ w. sym there ∙ chains.1 w.1,
    )

pub returns-else-has : goal.returns-else-has
returns-else-has c steps condemned h v e =
    let p = c.args.self.now in
    let n = c.args.number in
    let place = c.args.place in
    let low : n < length p.condemned.items =
    omega (arith, h.found.index.numbering.below v n e, h.found.judged.count) in
    let known : has place (get_or p.condemned.items n set.empty) ≡ false =
    ap (has place) (get_or_default p.condemned.items n set.empty c.index.result.now low ∙ sym c.index.ensures)
    ∙ sym c.has.ensures.value ∙ c.if-has.false in (
      λ t. absurd (false≢true (sym c.if-has.false ∙ t)),
      λ w. absurd (false≢true (sym known ∙ condemned-at steps condemned p h v n e place ∙ w.0)),
    )
