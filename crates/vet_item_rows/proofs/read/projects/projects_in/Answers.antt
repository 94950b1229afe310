use Rattle.std.proofs.Common.{◌++◌, ◌∷◌, ◌∙◌, [], ap, refl, subst, sym}
use Rattle.std.proofs.lemmas.List.{append_assoc}
use Rattle.vet_item_rows.specs.ReadBack.{EachStandsFor}
use Rattle.vet_item_rows.specs.ReadProjects.{TellsGathered}
use Rattle.vet_item_rows.proofs.Reading.{each_between, passed_on, read_more}
use Rattle.vet_item_rows.proofs.read.projects.projects_in.Goals as goal

pub returns-in_err-project_in : goal.returns-in_err-project_in
returns-in_err-project_in c xs each =
    let parts = c.groups.invariant.2 ∙ ap (λ gs. c.groups.yielded ++ gs) c.in-Some.ensures.steps.0 in
    let one = each_between TellsGathered c.groups.yielded c.in-Some.group c.next.new.self.rest.items xs
    (subst (λ gs. EachStandsFor TellsGathered gs xs) parts each) in
    rw (passed_on c.from_residual.result c.in_err-project_in.field-0.0 c.from_residual.ensures.1
    (c.in_err-project_in.ensures one.0 one.1)) refl

pub groups-preserved : goal.groups-preserved
groups-preserved c = (
  tt,
  tt,
  c.groups.invariant.2 ∙ ap (λ gs. c.groups.yielded ++ gs) c.in-Some.ensures.steps.0
      ∙ sym (append_assoc c.groups.yielded (c.in-Some.group ∷ []) c.next.new.self.rest.items),
  rw c.in_ok-push.ensures.items
      (read_more TellsGathered c.groups.yielded c.in-Some.group c.groups.projects.items c.in_ok-project_in.field-0
      c.groups.invariant.3 c.in_ok-project_in.ensures),
)
