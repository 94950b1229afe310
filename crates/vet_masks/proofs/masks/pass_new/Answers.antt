use Rattle.std.proofs.Common.{◌+◌, ◌∙◌, sym, ap, subst, arith}
use Rattle.std.specs.FinSet as set
use Rattle.std.specs.Ordering.{nat_cmp}
use Rattle.std.proofs.lemmas.Bool.{false≢true}
use Rattle.vet_base.specs.CriteriaSet.{has}
use Rattle.vet_masks.specs.Masks.{IsDone, bars_at, given_by, is_taken_at, numbered_by, open_by}
use Rattle.vet_masks.specs.Masks.{origin_at}
use Rattle.vet_masks.proofs.Indexing.{origin-below, origin-same}
use Rattle.vet_masks.proofs.Passing.{done-grows, done-next, open-used, paid-some, stands-given}
use Rattle.vet_masks.proofs.masks.pass_new.Goals as goal

pub given_to-given-requires-clause-low : goal.given_to-given-requires-clause-low
given_to-given-requires-clause-low c n e =
    let index = c.args.index.now in
    let steps = c.args.looks.now.steps in
    let h = c.requires.search.indexed in
    rw c.requires.search.passed
    (origin-below steps index h c.args.place c.requires.place n
    (origin-same steps index h c.args.place c.requires.place ∙ e))

pub returns-then-not-exceeds-clause-passing : goal.returns-then-not-exceeds-clause-passing
returns-then-not-exceeds-clause-passing c =
    let index = c.args.index.now in
    let steps = c.args.looks.now.steps in
    let h = c.requires.search.indexed in
    let place = c.args.place in
    let passed = c.args.masks.now.passed.items in
    let origin = origin-same steps index h place c.requires.place in
    done-next (numbered_by index steps) (open_by index c.args.terms.now) c.args.masks.now.held.items passed index.used
    place c.requires.passing
    (open-used steps index h (bars_at index c.args.terms.now.bars.now) (is_taken_at index c.args.terms.now.skipped.now)
    place c.requires.place)
    (λ q g o. absurd (false≢true (sym (set.contains-empty nat_cmp q) ∙ sym (ap (has q) c.empty.ensures)
    ∙ c.exceeds.ensures.none c.if-not-exceeds.true q
    (ap (has q) (c.given_to-given.ensures ∙ ap (given_by index.used passed) (sym origin)) ∙ g))))

pub pass_one-requires-clause-stands : goal.pass_one-requires-clause-stands
pass_one-requires-clause-stands c q g =
    let index = c.args.index.now in
    let steps = c.args.looks.now.steps in
    let passed = c.args.masks.now.passed.items in
    let origin = origin-same steps index c.requires.search.indexed c.args.place c.requires.place in
    stands-given index.used passed c.args.masks.now.held.items c.requires.search.within
    (origin_at (numbered_by index steps) c.args.place) q
    (sym (ap (has q) (c.given_to-given.ensures ∙ ap (given_by index.used passed) (sym origin))) ∙ g)

pub returns-in_err-pass_one-clause-count : goal.returns-in_err-pass_one-clause-count
returns-in_err-pass_one-clause-count c =
    let index = c.args.index.now in
    let steps = c.args.looks.now.steps in
    let passed = c.args.masks.now.passed.items in
    let at = c.exceeds.ensures.some c.if-not-exceeds.false in
    let origin = origin-same steps index c.requires.search.indexed c.args.place c.requires.place in
    omega (
      arith,
      c.pass_one.ensures.count,
      paid-some index.used passed (origin_at (numbered_by index steps) c.args.place) at.0 at.1
          (sym (ap (has at.0) (c.given_to-given.ensures ∙ ap (given_by index.used passed) (sym origin))) ∙ at.2)
          (set.contains-empty nat_cmp at.0),
    )

pub returns-clause-passing : goal.returns-clause-passing
returns-clause-passing c =
    let index = c.args.index.now in
    let steps = c.args.looks.now.steps in
    let h = c.requires.search.indexed in
    let place = c.args.place in
    let passed = c.args.masks.now.passed.items in
    let told = c.in_ok-pass_one.ensures in
    let open_step = open_by index c.args.terms.now in
    let more = c.pass_one.new.masks.held.items in
    let origin = origin-same steps index h place c.requires.place in
    subst (λ ps. IsDone (numbered_by index steps) open_step more ps (place + 1)) (sym told.onward.passed)
    (done-next (numbered_by index steps) open_step more passed index.used place
    (done-grows (numbered_by index steps) open_step c.args.masks.now.held.items passed more place told.onward.grows
    c.requires.passing)
    (open-used steps index h (bars_at index c.args.terms.now.bars.now) (is_taken_at index c.args.terms.now.skipped.now)
    place c.requires.place)
    (λ q g. told.leads q
    (ap (has q) (c.given_to-given.ensures ∙ ap (given_by index.used passed) (sym origin)) ∙ g)))

pub returns-clause-count : goal.returns-clause-count
returns-clause-count c =
    let index = c.args.index.now in
    let steps = c.args.looks.now.steps in
    let passed = c.args.masks.now.passed.items in
    let at = c.exceeds.ensures.some c.if-not-exceeds.false in
    let origin = origin-same steps index c.requires.search.indexed c.args.place c.requires.place in
    omega (
      arith,
      c.in_ok-pass_one.ensures.count,
      paid-some index.used passed (origin_at (numbered_by index steps) c.args.place) at.0 at.1
          (sym (ap (has at.0) (c.given_to-given.ensures ∙ ap (given_by index.used passed) (sym origin))) ∙ at.2)
          (set.contains-empty nat_cmp at.0),
    )
