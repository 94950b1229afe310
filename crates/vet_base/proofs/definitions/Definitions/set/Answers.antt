use Rattle.std.proofs.Common.{[], ap, sym, ◌∙◌, Ok, Err}
use Rattle.std.specs.FinMap as map
use Rattle.std.proofs.lemmas.Bool.{false≢true}
use Rattle.std.proofs.lemmas.Result.{on_ok_weaker}
use Rattle.vet_base.specs.Definitions.{by_name}
use Rattle.vet_base.proofs.Rising.{R, searched_in}
use Rattle.vet_base.proofs.Kept.{kept_after_set, view_after_set, kept_after_insert, view_after_insert, either_end}
use Rattle.vet_base.proofs.Tables.{not_held}
use Rattle.vet_base.proofs.definitions.Definitions.set.Goals as goal

pub invariant_of-self : goal.invariant_of-self
invariant_of-self c =
    let found = searched_in _ _ _ (Ok c.in-Ok.place) c.deref.ensures.value c.self.invariant.rising
    c.in-Ok.ensures.bound c.in-Ok.ensures.position in
    kept_after_set _ _ c.self.invariant _ c.self.view_is c.in-Ok.place c.args.criterion found.0 (found.1 [])

pub returns-in-Ok-clause-ok : goal.returns-in-Ok-clause-ok
returns-in-Ok-clause-ok c =
    let found = searched_in _ _ _ (Ok c.in-Ok.place) c.deref.ensures.value c.self.invariant.rising
    c.in-Ok.ensures.bound c.in-Ok.ensures.position in
    view_after_set _ _ c.self.invariant _ c.self.view_is c.in-Ok.place c.args.criterion found.0 (found.1 [])

pub invariant_of-self-in-Err : goal.invariant_of-self-in-Err
invariant_of-self-in-Err c =
    let lacks = searched_in _ _ _ (Err c.in-Err.place) c.deref.ensures.value c.self.invariant.rising
    c.in-Err.ensures.bound c.in-Err.ensures.position in
    let h = c.in_ok-name-in-Err.ensures.cases in
    let copy = sym h.3 ∙ sym h.4.3 ∙ h.4.4 ∙ h.4.2 ∙ h.2 in
    let new = kept_after_insert _ _ c.self.invariant _ c.self.view_is c.in-Err.place c.args.criterion lacks
    c.requires.room in
    either_end c.put.result c.put.ensures.names c.put.ensures.criteria c.put.ensures.names_stay
    c.put.ensures.criteria_stay
    (λ a b. rw (a, b, copy) new)
    (λ a b. rw (a, b) c.self.invariant)

pub returns-in_ok-name-in-Err-clause-ok : goal.returns-in_ok-name-in-Err-clause-ok
returns-in_ok-name-in-Err-clause-ok c =
    let lacks = searched_in _ _ _ (Err c.in-Err.place) c.deref.ensures.value c.self.invariant.rising
    c.in-Err.ensures.bound c.in-Err.ensures.position in
    on_ok_weaker c.put.result (λ a. ap (λ cs. map.from_sorted {R = R} (by_name cs)) a
    ∙ view_after_insert _ _ c.self.invariant _ c.self.view_is c.in-Err.place c.args.criterion lacks)
    c.put.ensures.criteria

pub returns-in_err-name-in-Err-clause-held : goal.returns-in_err-name-in-Err-clause-held
returns-in_err-name-in-Err-clause-held c held =
    let lacks = searched_in _ _ _ (Err c.in-Err.place) c.deref.ensures.value c.self.invariant.rising
    c.in-Err.ensures.bound c.in-Err.ensures.position in
    absurd (false≢true (sym (not_held _ _ c.self.invariant _ _ c.in-Err.place c.self.view_is lacks) ∙ held))

pub returns-in_ok-name-in-Err-clause-held : goal.returns-in_ok-name-in-Err-clause-held
returns-in_ok-name-in-Err-clause-held c held =
    let lacks = searched_in _ _ _ (Err c.in-Err.place) c.deref.ensures.value c.self.invariant.rising
    c.in-Err.ensures.bound c.in-Err.ensures.position in
    absurd (false≢true (sym (not_held _ _ c.self.invariant _ _ c.in-Err.place c.self.view_is lacks) ∙ held))
