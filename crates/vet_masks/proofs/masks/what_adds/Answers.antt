use Rattle.std.proofs.Common.{◌≡◌, ◌&&◌, ℕ, Bool, true, false, not, get_or, refl, sym, ap, ◌∙◌, subst}
use Rattle.std.specs.FinSet as set
use Rattle.std.specs.Ordering.{nat_cmp}
use Rattle.std.proofs.lemmas.Option.{get_or_from_slice_get}
use Rattle.vet_base.specs.CriteriaSet.{has}
use Rattle.vet_entries.specs.declared.step.Step.{Step}
use Rattle.vet_masks.specs.Index.{number_of}
use Rattle.vet_masks.specs.Masks.{IsAdded, bars_at, is_taken_at, no_step, open_by}
use Rattle.vet_masks.proofs.Indexing.{numbered-at, numbers_in, step_at, target-at, target-below}
use Rattle.vet_masks.proofs.masks.what_adds.Goals as goal
use Rattle.vet_masks.proofs.masks.what_adds.Goals.{then-takes, else-takes}

taken : (g s b t : Bool) → t ≡ true → ((g && s) && not b) ≡ (g && (s && (not b && t)))
taken true true true true h = refl
taken true true false true h = refl
taken true false b true h = refl
taken false s b true h = refl
taken g s b false h = absurd (cc h)

skipped : (g s b t : Bool) → t ≡ false → false ≡ (g && (s && (not b && t)))
skipped true true true t h = refl
skipped true true false t h = sym h
skipped true false b t h = refl
skipped false s b t h = refl

pub takes-requires : goal.takes-requires
takes-requires c =
    let index = c.args.index.now in
    let steps = c.args.looks.now.steps in
    rw (
      target-at steps index c.requires.index c.args.place c.requires.place c.index.result.now c.index.ensures,
      c.requires.skipped,
    ) (target-below steps index c.requires.index c.args.place c.requires.place)

pub bar-requires : goal.bar-requires
bar-requires c =
    let index = c.args.index.now in
    let steps = c.args.looks.now.steps in
    rw (
      target-at steps index c.requires.index c.args.place c.requires.place c.index.result.now c.index.ensures,
      c.requires.bars,
    ) (target-below steps index c.requires.index c.args.place c.requires.place)

pub returns-clause-within : goal.returns-clause-within
returns-clause-within c =
    let index = c.args.index.now in
    let steps = c.args.looks.now.steps in
    rw (target-at steps index c.requires.index c.args.place c.requires.place c.index.result.now c.index.ensures)
    (target-below steps index c.requires.index c.args.place c.requires.place)

pub returns-clause-adds : goal.returns-clause-adds
returns-clause-adds c d =
    let index = c.args.index.now in
    let steps = c.args.looks.now.steps in
    let p = c.args.place in
    let s : Step = step_at steps index c.requires.index p c.requires.place in
    let t = c.index.result.now.target in
    let given = c.args.given.now in
    let flags = c.args.terms.now.skipped.now in
    let seen : s ≡ c.look-step.result.now = get_or_from_slice_get steps p c.look-step.result.now no_step.step
    c.look-step.ensures.step in
    let is : t ≡ number_of (numbers_in index) s.target =
    target-at steps index c.requires.index p c.requires.place c.index.result.now c.index.ensures in
    let bar = λ (q : ℕ). bars_at index c.args.terms.now.bars.now q s.target in
    let takes : is_taken_at index flags s ≡ c.takes.result =
    (λ i. not ((seen i).exempt && get_or flags ((sym is) i) false)) ∙ sym c.takes.ensures in
    let told : (q : ℕ) → has q c.if-takes.criteria ≡
    (has q given && (has q s.criteria && (not (bar q) && is_taken_at index flags s)))
    = λ q. elim c.if-takes.branch [
      | then-takes w ↦ ap (has q) w.criteria-is ∙ w.less-criteria.ensures q
          ∙ (λ i. c.common-criteria.ensures q i && not (has q (w.bar.ensures i)))
          ∙ (λ i. (has q given && has q ((sym seen i).criteria)) && not (has q (get_or c.args.terms.now.bars.now (is i)
          set.empty)))
          ∙ taken (has q given) (has q s.criteria) (bar q) (is_taken_at index flags s) (takes ∙ w.if-takes.true)
      | else-takes w ↦ ap (has q) (w.criteria-is ∙ w.empty-criteria.ensures) ∙ set.contains-empty nat_cmp q
          ∙ skipped (has q given) (has q s.criteria) (bar q) (is_taken_at index flags s) (takes ∙ w.if-takes.false)
    ] in
    subst (IsAdded (open_by index c.args.terms.now) given (record { target = t; criteria = c.if-takes.criteria }))
    (sym (numbered-at steps index c.requires.index p c.requires.place d))
    (record { target = sym is; criteria = told })
