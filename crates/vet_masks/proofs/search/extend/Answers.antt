use Rattle.std.proofs.Common.{◌≡◌, get_or, length, not, take, false, refl, ap, ◌∙◌, ◌&&◌, subst, arith}
use Rattle.std.proofs.lemmas.List.{length-map, length-take-le}
use Rattle.std.specs.FinSet as set
use Rattle.vet_base.specs.CriteriaSet.{has}
use Rattle.vet_base.specs.declared.limits.TheConstants.{MOST_CRITERIA as most}
use Rattle.vet_graph.specs.Search.{may_take}
use Rattle.vet_masks.specs.Index.{ends_of}
use Rattle.vet_masks.specs.Masks.{IsReaching, bars_at, is_open, is_taken_at, numbered_by}
use Rattle.vet_masks.specs.Reached.{AreBarredAlike, AreTakenAlike, used_below}
use Rattle.vet_masks.specs.Vouched.{barred_by}
use Rattle.vet_masks.proofs.Barring.{bars-alike, taken-alike}
use Rattle.vet_masks.proofs.Extended.{barred-onward, few_looks, first-steps, spent-before, taken-onward}
use Rattle.vet_masks.proofs.Extended.{used_below-most}
use Rattle.vet_masks.proofs.Extending.{reaches-onward}
use Rattle.vet_masks.proofs.Indexing.{numbers_in}
use Rattle.vet_masks.proofs.Used.{looks-bound}
use Rattle.vet_masks.proofs.search.extend.Goals as goal

pub reach-requires-clause-held : goal.reach-requires-clause-held
reach-requires-clause-held c = omega (
  arith,
  ap length c.as_slice-3.ensures.value,
  c.requires.answer.1.count,
  c.in_ok-index.ensures.more,
)

pub reach-requires-clause-reaches : goal.reach-requires-clause-reaches
reach-requires-clause-reaches c =
    let steps = c.args.looks.now.steps in
    let n = c.args.first in
    let front = take n steps in
    let old = c.args.reached.now in
    let index = c.in_ok-index.index in
    let keeps = c.in_ok-index.ensures.keeps in
    let named = c.requires.answer.1.index.named in
    let taken = may_take c.args.skip.now in
    let bars = bars_at index c.as_slice.result.now in
    let takes = is_taken_at index c.as_slice-2.result.now in
    let barred : AreBarredAlike front c.requires.answer.0 bars = barred-onward front old.index index named keeps
    c.requires.answer.0 c.args.barred.now c.as_slice.result.now c.requires.answer.2
    (λ v m p e. ap (λ bs. has p (get_or bs m set.empty)) c.as_slice.ensures.value
    ∙ c.in_ok-bars.ensures.bars v m p e) in
    let same : AreTakenAlike front taken takes = taken-onward front old.index index named keeps c.as_slice-2.result.now
    taken (λ s m e. ap (λ fs. not (s.exempt && get_or fs m false)) c.as_slice-2.ensures.value
    ∙ c.in_ok-skipped.ensures.skips s m e) in
    let long : length front ≡ n = length-take-le n steps c.requires.first in
    rw (c.extended.ensures.steps, c.as_slice-3.ensures.value)
    (subst (λ k. IsReaching (numbered_by index steps) (is_open bars takes) k old.held.items) long
    (reaches-onward front steps (first-steps steps n c.requires.first) (numbers_in old.index) (numbers_in index)
    keeps named c.requires.answer.0 bars barred taken takes same old.held.items c.requires.answer.1.reaches))

pub overflow_sub-result : goal.overflow_sub-result
overflow_sub-result c = omega (
  arith,
  c.count.ensures,
  c.count-before.ensures,
  c.in_ok-held.ensures.least,
  c.in_ok-index.ensures.count,
  c.requires.first,
)

pub overflow_add-result : goal.overflow_add-result
overflow_add-result c =
    let steps = c.args.looks.now.steps in
    let front = take c.args.first steps in
    let index = c.in_ok-index.index in
    let before = few_looks c.args.reached.now.looks (length front) (used_below most front) (used_below-most most front)
    (looks-bound front c.requires.answer.0 (may_take c.args.skip.now) c.args.reached.now c.requires.answer.1) in
    omega (
      arith,
      before,
      length-take-le c.args.first steps c.requires.first,
      c.ranges.first.fits,
      c.count.ensures,
      c.count-before.ensures,
      c.in_ok-held.ensures.least,
      c.in_ok-held.ensures.bound,
      c.in_ok-index.ensures.count,
      ap length c.extended.ensures.steps,
      ap length c.in_ok-index.ensures.index.ends,
      length-map steps (ends_of (numbers_in index)),
      index.ends.ok,
      index.ends.small,
      c.requires.count,
    )

pub returns-clause-answer : goal.returns-clause-answer
returns-clause-answer c =
    let steps = c.args.looks.now.steps in
    let n = c.args.first in
    let old = c.args.reached.now in
    let index = c.in_ok-index.index in
    let indexed = c.in_ok-index.ensures.index in
    let taken = may_take c.args.skip.now in
    let bars = bars_at index c.as_slice.result.now in
    let takes = is_taken_at index c.as_slice-2.result.now in
    let barred = barred_by c.args.barred.now in
    let held = c.in_ok-held.held.items in
    let told = rw c.extended.ensures.steps at c.in_ok-held.ensures.reaches in
    let alike : AreBarredAlike steps bars barred = bars-alike index c.as_slice.result.now c.args.barred.now steps
    indexed.named (λ v m p e. ap (λ bs. has p (get_or bs m set.empty)) c.as_slice.ensures.value
    ∙ c.in_ok-bars.ensures.bars v m p e) in
    let same : AreTakenAlike steps takes taken = taken-alike index c.as_slice-2.result.now taken steps indexed.named
    (λ s m e. ap (λ fs. not (s.exempt && get_or fs m false)) c.as_slice-2.ensures.value
    ∙ c.in_ok-skipped.ensures.skips s m e) in
    let spends = rw c.as_slice-3.ensures.value at c.in_ok-held.ensures.count in
    record {
      index = indexed;
      count = c.in_ok-held.ensures.length;
      reaches = reaches-onward steps steps (λ p d l. (l, refl)) (numbers_in index) (numbers_in index) (λ v k e. e)
          indexed.named bars barred alike takes taken same held told;
      looks = omega (
        arith,
        c.count.ensures,
        c.count-before.ensures,
        c.in_ok-held.ensures.least,
        c.in_ok-index.ensures.count,
        c.requires.first,
        c.requires.answer.1.looks,
        length-take-le n steps c.requires.first,
        spent-before steps n old.index index old.held.items c.requires.answer.1.index indexed
            c.in_ok-index.ensures.keeps,
        spends,
      );
    }

pub returns-clause-looks : goal.returns-clause-looks
returns-clause-looks c = omega (
  arith,
  c.count.ensures,
  c.count-before.ensures,
  c.in_ok-held.ensures.least,
  c.in_ok-index.ensures.count,
  c.requires.first,
)
