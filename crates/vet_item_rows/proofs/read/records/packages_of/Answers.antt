use Rattle.std.proofs.Common.{◌++◌, ◌∷◌, ◌∙◌, [], ap, refl, subst, sym}
use Rattle.std.proofs.lemmas.List.{append_assoc}
use Rattle.vet_item_rows.specs.ReadBack.{EachStandsFor}
use Rattle.vet_item_rows.specs.ReadRecords.{IsGroupOfPackage}
use Rattle.vet_item_rows.proofs.Reading.{each_between, passed_on, read_more}
use Rattle.vet_item_rows.proofs.read.records.packages_of.Goals as goal

pub returns-in_err-package_of : goal.returns-in_err-package_of
returns-in_err-package_of c xs each =
    let parts = c.groups.invariant.2 ∙ ap (λ gs. c.groups.yielded ++ gs) c.in-Some.ensures.steps.0 in
    let one = each_between IsGroupOfPackage c.groups.yielded c.in-Some.group c.next.new.self.rest.items xs
    (subst (λ gs. EachStandsFor IsGroupOfPackage gs xs) parts each) in
    rw (passed_on c.from_residual.result c.in_err-package_of.field-0.0 c.from_residual.ensures.1
    (c.in_err-package_of.ensures one.0 one.1)) refl

pub groups-preserved : goal.groups-preserved
groups-preserved c = (
  tt,
  tt,
  c.groups.invariant.2 ∙ ap (λ gs. c.groups.yielded ++ gs) c.in-Some.ensures.steps.0
      ∙ sym (append_assoc c.groups.yielded (c.in-Some.group ∷ []) c.next.new.self.rest.items),
  rw c.in_ok-push.ensures.items
      (read_more IsGroupOfPackage c.groups.yielded c.in-Some.group c.groups.packages.items c.in_ok-package_of.field-0
      c.groups.invariant.3 c.in_ok-package_of.ensures),
)
