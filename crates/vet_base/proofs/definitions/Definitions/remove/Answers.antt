use Rattle.std.proofs.Common.{[], ap, sym, ◌∙◌, Ok, Err}
use Rattle.std.specs.FinMap as map
use Rattle.std.proofs.lemmas.Bool.{false≢true}
use Rattle.vet_base.specs.Definitions.{by_name}
use Rattle.vet_base.proofs.Rising.{R, searched_in}
use Rattle.vet_base.proofs.Tables.{not_held}
use Rattle.vet_base.proofs.Kept.{kept_after_remove, view_after_remove}
use Rattle.vet_base.proofs.definitions.Definitions.remove.Goals as goal

pub returns-in_default : goal.returns-in_default
returns-in_default c =
    let lacks = searched_in _ _ _ (Err c.in_default.field-0) c.deref.ensures.value c.self.invariant.rising
    c.in_default.ensures.bound c.in_default.ensures.position in
    absurd (false≢true (sym (not_held _ _ c.self.invariant _ _ c.in_default.field-0 c.self.view_is lacks) ∙ c.requires))

pub invariant_of-self : goal.invariant_of-self
invariant_of-self c =
    let found = searched_in _ _ _ (Ok c.in-Ok.place) c.deref.ensures.value c.self.invariant.rising
    c.in-Ok.ensures.bound c.in-Ok.ensures.position in
    rw (c.remove.ensures.items, c.remove-2.ensures.items)
    (kept_after_remove _ _ c.self.invariant _ c.self.view_is c.in-Ok.place c.args.name.now found.0 (found.1 []))

pub returns : goal.returns
returns c =
    let found = searched_in _ _ _ (Ok c.in-Ok.place) c.deref.ensures.value c.self.invariant.rising
    c.in-Ok.ensures.bound c.in-Ok.ensures.position in
    ap (λ cs. map.from_sorted {R = R} (by_name cs)) c.remove-2.ensures.items
    ∙ view_after_remove _ _ c.self.invariant _ c.self.view_is c.in-Ok.place c.args.name.now found.0 (found.1 [])
