use Rattle.std.proofs.Common.{◌≡◌, ◌<◌, true, false, sym, ap, ◌∙◌, subst, arith, get_or, length, []}
use Rattle.std.proofs.Common.{set as setn, inl, inr}
use Rattle.std.specs.FinSet as set
use Rattle.std.specs.List.{Contains}
use Rattle.std.proofs.lemmas.Bool.{and_from, and_parts, cases_eq, false≢true, not_from_false}
use Rattle.std.proofs.lemmas.List.{get_or_default, get_or-map, get_or-set_same, get_or-set_other, length-map}
use Rattle.std.specs.BTreeMap.{get}
use Rattle.vet_base.specs.CriteriaSet.{has}
use Rattle.vet_base.specs.VersionOrder.{version_cmp}
use Rattle.vet_base.specs.declared.limits.TheConstants.{MOST_CRITERIA as most}
use Rattle.vet_demand.specs.Spread.{lists_in}
use Rattle.vet_masks.specs.Masks.{AreReady, IsDone, numbered, numbered_by, open_by, reached, size}
use Rattle.vet_masks.proofs.Passing.{done-passed, filed-at, ready-at}
use Rattle.vet_masks.proofs.Sizes.{size-lt, spent-more}
use Rattle.vet_masks.proofs.Taken.{true_or_false}
use Rattle.vet_masks.proofs.masks.pass_on.Goals as goal

pub pass_all-requires-clause-stands : goal.pass_all-requires-clause-stands
pass_all-requires-clause-stands c =
    let index = c.args.index.now in
    let steps = c.args.looks.now.steps in
    let from = c.args.from in
    let lists = index.after.items in
    let held = c.args.masks.now.held.items in
    let there : get_or held from set.empty ≡ c.index.result.now =
    get_or_default held from set.empty c.index.result.now (rw c.requires.search.held c.requires.from)
    ∙ sym c.index.ensures in
    let same : get_or (lists_in lists) from [] ≡ c.as_slice.result.now =
    get_or-map (λ l. l.items) lists from c.index-3.result.now [] c.requires.from
    ∙ ap (λ l. l.items) (sym c.index-3.ensures) ∙ sym c.as_slice.ensures.value in
    subst (AreReady (numbered_by index steps) c.less.result held) same
    (ready-at steps index c.requires.search.indexed from c.less.result held
    (λ q g. ap (has q) there ∙ (and_parts _ _ (sym (c.less.ensures q) ∙ g)).0))

pub returns-clause-passing : goal.returns-clause-passing
returns-clause-passing c =
    let index = c.args.index.now in
    let steps = c.args.looks.now.steps in
    let from = c.args.from in
    let lists = index.after.items in
    let passed = c.args.masks.now.passed.items in
    let open_step = open_by index c.args.terms.now in
    let more = c.pass_all.new.masks.held.items in
    let told = c.in_ok-pass_all.ensures in
    let low : from < length passed = rw c.requires.search.passed c.requires.from in
    let there : get_or passed from set.empty ≡ c.index-2.result.now =
    get_or_default passed from set.empty c.index-2.result.now low ∙ sym c.index-2.ensures in
    let same : get_or (lists_in lists) from [] ≡ c.as_slice.result.now =
    get_or-map (λ l. l.items) lists from c.index-3.result.now [] c.requires.from
    ∙ ap (λ l. l.items) (sym c.index-3.ensures) ∙ sym c.as_slice.ensures.value in
    let long : length (numbered_by index steps) ≡ length steps = length-map steps (numbered
    (get version_cmp index.numbers)) in
    subst (λ ps. IsDone (numbered_by index steps) open_step more ps (length steps)) (sym told.onward.passed)
    (subst (IsDone (numbered_by index steps) open_step more (setn passed from c.index.result.now)) long
    (done-passed (numbered_by index steps) open_step c.args.masks.now.held.items passed more from c.index.result.now
    c.as_slice.result.now low told.onward.grows
    (subst (IsDone (numbered_by index steps) open_step c.args.masks.now.held.items passed) (sym long)
    c.requires.passing)
    (λ p l e. subst (λ ps. Contains ps p) same (filed-at steps index c.requires.search.indexed from p (rw long at l) e))
    (λ q h. elim (true_or_false (has q c.index-2.result.now)) [
      | inl before ↦ inl (ap (has q) there ∙ before)
      | inr new ↦ inr (told.leads q (c.less.ensures q ∙ and_from _ _ h (not_from_false _ new)))
    ])))

pub returns-clause-count : goal.returns-clause-count
returns-clause-count c u =
    let index = c.args.index.now in
    let held = c.args.masks.now.held.items in
    let passed = c.args.masks.now.passed.items in
    let from = c.args.from in
    let lists = index.after.items in
    let low : from < length passed = rw c.requires.search.passed c.requires.from in
    let at = c.exceeds.ensures.some c.if-not-exceeds.false in
    let here : get_or passed from set.empty ≡ c.index-2.result.now =
    get_or_default passed from set.empty c.index-2.result.now low ∙ sym c.index-2.ensures in
    let there : get_or held from set.empty ≡ c.index.result.now =
    get_or_default held from set.empty c.index.result.now (rw c.requires.search.held c.requires.from)
    ∙ sym c.index.ensures in
    let more : size most (get_or passed from set.empty) < size most c.index.result.now =
    rw here (size-lt most at.0 c.index-2.result.now c.index.result.now at.1 at.3 at.2
    (λ q h. sym (ap (has q) there) ∙ c.requires.search.within q from (ap (has q) here ∙ h))) in
    let same : get_or (lists_in lists) from [] ≡ c.as_slice.result.now =
    get_or-map (λ l. l.items) lists from c.index-3.result.now [] c.requires.from
    ∙ ap (λ l. l.items) (sym c.index-3.ensures) ∙ sym c.as_slice.ensures.value in
    let spends = spent-more u passed from c.index.result.now index.ends.items low more in
    rw c.in_ok-pass_all.ensures.onward.passed
    (omega (
      arith,
      spends,
      c.in_ok-pass_all.ensures.count,
      ap length same,
      ap length (c.requires.search.indexed.filed from),
    ))

pub returns-clause-waiting : goal.returns-clause-waiting
returns-clause-waiting c w =
    let held = c.args.masks.now.held.items in
    let passed = c.args.masks.now.passed.items in
    let from = c.args.from in
    let now = c.index.result.now in
    let low : from < length passed = rw c.requires.search.passed c.requires.from in
    let there : get_or held from set.empty ≡ now =
    get_or_default held from set.empty now (rw c.requires.search.held c.requires.from) ∙ sym c.index.ensures in
    c.in_ok-pass_all.ensures.onward.waiting (λ n q a b. elim (cases_eq n from) [
      | inl same ↦ absurd (false≢true
          (sym (sym (ap (has q) (get_or-set_same passed from now set.empty low))
          ∙ subst (λ k. reached (setn passed from now) q k ≡ false) same b)
          ∙ sym (ap (has q) there) ∙ subst (λ k. reached held q k ≡ true) same a))
      | inr other ↦ w n q a (sym (ap (has q) (get_or-set_other passed from n now set.empty other)) ∙ b) other
    ])
