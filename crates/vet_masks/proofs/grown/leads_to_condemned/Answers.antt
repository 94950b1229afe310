use Rattle.std.proofs.Common.{◌≡◌, get_or, take, sym, subst, ◌∙◌}
use Rattle.std.specs.FinSet as set
use Rattle.std.specs.List.{All}
use Rattle.std.proofs.lemmas.List.{get_or_default, take_all, take_more}
use Rattle.std.proofs.lemmas.List.Elements.{All-push}
use Rattle.vet_masks.specs.declared.index.Ends.{Ends}
use Rattle.vet_masks.specs.Index.{no_ends}
use Rattle.vet_masks.proofs.grown.leads_to_condemned.Goals as goal

pub steps-preserved : goal.steps-preserved
steps-preserved c =
    let ends = c.args.ends.now in
    let p = c.steps.place in
    let IsClean = λ (e : Ends). get_or c.args.condemned.now e.target set.empty ≡ set.empty in
    let target = (get_or ends p no_ends).target in
    let here : IsClean (get_or ends p no_ends) =
    get_or_default c.args.condemned.now target set.empty c.index-condemned-ends.result
    (c.requires p no_ends c.steps-test.true)
    ∙ sym c.index-condemned-ends.is ∙ c.is_empty.ensures.0 c.if-not-is_empty.false in
    subst (All IsClean) (sym (take_more ends p no_ends c.steps-test.true))
    (All-push IsClean (take p ends) (get_or ends p no_ends) c.steps.invariant here)

pub returns-clause-none : goal.returns-clause-none
returns-clause-none c none = rw (take_all c.steps.place c.args.ends.now c.steps-test.false) at c.steps.invariant
