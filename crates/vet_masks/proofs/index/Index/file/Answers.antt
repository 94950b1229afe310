use Rattle.std.proofs.Common.{◌≡◌, ◌++◌, ◌∷◌, ◌||◌, [], cond, is_some, unwrap_or, length, get_or, take, sym, ap, ◌∙◌}
use Rattle.std.proofs.Common.{subst, arith}
use Rattle.std.proofs.lemmas.List.{take_more, length-take-le}
use Rattle.std.proofs.lemmas.Option.{get_or_from_slice_get}
use Rattle.std.specs.BTreeMap.{get}
use Rattle.std.specs.Cmp.{nat_cmp_total}
use Rattle.std.specs.FinSet as set
use Rattle.vet_base.specs.CriteriaSet.{has}
use Rattle.vet_base.specs.VersionOrder.{version_cmp}
use Rattle.vet_entries.specs.declared.step.Step.{Step}
use Rattle.vet_masks.specs.Index.{IsIndex, IsNamed, IsNumbering, IsOrigin, Numbers, ends_of, is_from}
use Rattle.vet_masks.specs.Masks.{no_step}
use Rattle.vet_masks.proofs.Indexing.{IsIndex-more, numbers_in, origin-keeps, origin-low, origin-named, origin-number}
use Rattle.vet_masks.proofs.index.Index.file.Goals as goal

pub put_after-requires : goal.put_after-requires
put_after-requires c =
    let nums = get version_cmp c.number.new.self.numbers in
    let o = c.look-step.result.now.origin in
    origin-low nums (length c.number.new.self.after.items) c.in_ok-target.ensures.numbering o c.in_ok-origin.origin
    (origin-keeps (get version_cmp c.origin.new.self.numbers) nums c.in_ok-target.ensures.keeps o
    c.in_ok-origin.origin c.in_ok-origin.ensures.origin)

pub returns-clause-index : goal.returns-clause-index
returns-clause-index c =
    let old = c.args.self.now in
    let new = c.put_after.new.self in
    let nums = get version_cmp c.number.new.self.numbers in
    let s : Step = c.look-step.result.now in
    let o = c.in_ok-origin.origin in
    let place = c.args.place in
    let steps = c.args.looks.now.steps in
    let told = c.in_ok-target.ensures in
    let before = c.in_ok-origin.ensures in
    let after = c.in_ok-put_after.ensures in
    let origin : IsOrigin nums s.origin o = origin-keeps (get version_cmp c.origin.new.self.numbers) nums told.keeps
    s.origin o before.origin in
    let same : numbers_in new ≡ nums = ap (get version_cmp) after.numbers in
    let ends : record { origin = o; target = c.in_ok-target.target; exempt = s.exempt } ≡ ends_of (numbers_in new) s
    = λ i. record {
      origin = (origin-number nums s.origin o origin ∙ ap (λ (ns : Numbers). (ends_of ns s).origin) (sym same)) i;
      target = (sym (ap (λ k. unwrap_or k 0) told.number) ∙ ap (λ (ns : Numbers). (ends_of ns s).target) (sym same)) i;
      exempt = s.exempt;
    } in
    let long : place ≡ length (take place steps) = omega (arith, length-take-le place steps, c.requires.place) in
    let seen : get_or steps place no_step.step ≡ s = get_or_from_slice_get steps place s no_step.step
    c.look-step.ensures.step in
    subst (λ xs. IsIndex xs new)
    (sym (take_more steps place no_step.step c.requires.place ∙ ap (λ x. take place steps ++ x ∷ []) seen))
    (IsIndex-more (take place steps) s old new c.requires.index
    (subst (λ (ns : Numbers). IsNumbering ns (length new.after.items)) (sym same)
    (subst (IsNumbering nums) (sym after.count) told.numbering))
    (λ v k e. ap (λ (ns : Numbers). ns v) same ∙ told.keeps v k (before.keeps v k e))
    (subst (λ (ns : Numbers). IsNamed ns s) (sym same)
    (record { target = ap is_some told.number; origin = origin-named nums s.origin o origin }))
    (ap (λ es. es.items) after.ends ∙ c.in_ok-push.ensures.items
    ∙ (λ i. (ap (λ es. es.items) (told.ends ∙ before.ends)) i ++ ends i ∷ []))
    (λ n. after.after n
    ∙ (λ i. (told.after n ∙ before.after n) i ++ cond (is_from n ((ends i).origin)) (long i ∷ []) []))
    (λ q. ap (has q) (after.used ∙ c.union-self.ensures)
    ∙ set.contains-union nat_cmp_total c.number.new.self.used s.criteria q
    ∙ ap (λ u. has q u || has q s.criteria) (told.used ∙ before.used)))
