use Rattle.std.proofs.Common.{◌≡◌, ap, sym, ◌∙◌, arith, get_or, length}
use Rattle.std.specs.FinSet as set
use Rattle.vet_base.specs.declared.limits.TheConstants.{MOST_CRITERIA as most}
use Rattle.vet_base.specs.CriteriaSet.{meet}
use Rattle.std.proofs.lemmas.List.{get_or_default, get_or_past}
use Rattle.vet_base.proofs.Meeting.{leading_none, leading_more, leading_same, leading_all}
use Rattle.vet_base.proofs.closures.Closures.leading_to.Goals as goal
use Rattle.vet_base.proofs.closures.Closures.leading_to.Goals.{then-meets, else-meets}

pub loop-place-init : goal.loop-place-init
loop-place-init c table are = c.empty-leading.ensures ∙ leading_none table c.args.set.now

pub loop-place-preserved : goal.loop-place-preserved
loop-place-preserved c table are =
    let places = c.args.set.now in
    let n = c.loop-place.place in
    let long : length c.args.self.now.closed ≡ most = search in
    let closed = c.args.self.now.closed in
    let here : get_or closed n c.index-self-place.result ≡ get_or closed n set.empty =
    get_or_default closed n c.index-self-place.result set.empty (omega (arith, c.loop-place-test.true, long)) in
    let tells = c.meets.ensures.value ∙ ap (λ s. meet s places) (here ∙ are n) in
    elim c.if-meets.branch [
      | then-meets w ↦ w.leading-is ∙ w.with-leading.ensures
          ∙ ap (λ s. set.insert s n) (c.loop-place.invariant table are)
          ∙ leading_more table places n (sym tells ∙ w.if-meets.true)
      | else-meets w ↦ w.leading-is ∙ c.loop-place.invariant table are
          ∙ leading_same table places n (sym tells ∙ w.if-meets.false)
    ]

pub returns : goal.returns
returns c table are =
    let long : length c.args.self.now.closed ≡ most = search in
    c.loop-place.invariant table are
    ∙ leading_all table c.args.set.now c.loop-place.place
    (λ p high. sym (are p)
    ∙ get_or_past c.args.self.now.closed p set.empty (omega (arith, high, long, c.loop-place-test.false)))
