use Rattle.std.proofs.Common.{◌≡◌, ◌<◌, sym, ap, ◌∙◌, arith, inl, inr, get_or, set as setn, length}
use Rattle.std.specs.FinSet as set
use Rattle.std.proofs.lemmas.Bool.{cases_eq}
use Rattle.std.proofs.lemmas.List.{get_or_default, set-get_or, length-set}
use Rattle.vet_base.specs.declared.limits.TheConstants.{MOST_CRITERIA as most}
use Rattle.vet_base.specs.CriteriaSet.{has}
use Rattle.vet_masks.specs.Masks.{reached, size}
use Rattle.vet_masks.proofs.Taken.{grows-then, only}
use Rattle.vet_masks.proofs.Sizes.{filled-set, size-lt, union-within, has-union_left, has-union_right}
use Rattle.vet_masks.proofs.masks.take.Goals as goal

pub returns-then-not-exceeds-clause-held : goal.returns-then-not-exceeds-clause-held
returns-then-not-exceeds-clause-held c =
    let xs = c.args.masks.now.held.items in
    let t = c.args.added.target in
    let here : get_or xs t set.empty ≡ c.index.result.now =
    get_or_default xs t set.empty c.index.result.now c.requires.held ∙ sym c.index.ensures in
    sym (set-get_or xs t set.empty)
    ∙ ap (setn xs t) (sym (union-within (get_or xs t set.empty) c.args.added.criteria
    (λ q h. ap (has q) here ∙ c.exceeds.ensures.none c.if-not-exceeds.true q h)))

pub returns-clause-onward : goal.returns-clause-onward
returns-clause-onward c =
    let xs = c.args.masks.now.held.items in
    let t = c.args.added.target in
    let here : get_or xs t set.empty ≡ c.index.result.now =
    get_or_default xs t set.empty c.index.result.now c.requires.held ∙ sym c.index.ensures in
    let at = c.exceeds.ensures.some c.if-not-exceeds.false in
    let more : size most (get_or xs t set.empty) < size most c.union.result =
    rw (here, c.union.ensures) (size-lt most at.0 c.index.result.now
    (set.union c.index.result.now c.args.added.criteria) at.1 at.3
    (has-union_right c.index.result.now c.args.added.criteria at.0 at.2)
    (has-union_left c.index.result.now c.args.added.criteria)) in
    let told = c.in_ok-wait.ensures in
    let is : c.union.result ≡ set.union (get_or xs t set.empty) c.args.added.criteria =
    c.union.ensures ∙ ap (λ s. set.union s c.args.added.criteria) (sym here) in
    let held : setn c.wait.new.masks.held.items t c.union.result
    ≡ setn xs t (set.union (get_or xs t set.empty) c.args.added.criteria) =
    (λ i. setn (told.held i) t (is i)) in
    record {
      count = length-set c.wait.new.masks.held.items t c.union.result ∙ ap length told.held;
      passed = told.passed;
      grows = rw held (grows-then xs t c.args.added.criteria c.requires.held);
      waiting = λ w n q a b. elim (cases_eq n t) [
        | inl same ↦ rw same (told.waits w)
        | inr apart ↦ told.kept n (w n q
            (only xs t c.args.added.criteria c.requires.held q n apart (sym (ap (λ hs. reached hs q n) held) ∙ a))
            (sym (ap (λ ps. reached ps q n) told.passed) ∙ b))
      ];
      within = λ m e w. told.within m (rw e at c.requires.held) w;
      room = rw told.held
          (omega (arith, more, filled-set xs t c.union.result c.requires.held, told.room));
    }
