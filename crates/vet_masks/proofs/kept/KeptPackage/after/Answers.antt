use Rattle.std.proofs.Common.{◌≡◌, sym, ap, subst, ◌∙◌}
use Rattle.vet_entries.specs.Condemned.{condemned_by}
use Rattle.vet_masks.specs.Classes.{AreClasses, IsFound}
use Rattle.vet_masks.specs.Kept.{IsGrown}
use Rattle.vet_masks.proofs.kept.KeptPackage.after.Goals as goal

pub extended-requires-clause-found : goal.extended-requires-clause-found
extended-requires-clause-found c =
    let p = c.args.self.now.classes in
    let f = c.requires.kept.2.classes.found in
    let old = c.requires.kept.1 in
    let told : IsGrown c.as_slice.result.now (condemned_by c.as_slice-2.result.now) c.args.self.now =
    (c.goes_on.ensures.0 c.if-not-goes_on.false).1 in
    let grown = rw c.as_slice.ensures.value at told in
    let same : condemned_by c.as_slice-2.result.now ≡ condemned_by c.as_slice-3.result.now =
    ap condemned_by (c.as_slice-2.ensures.value ∙ sym c.as_slice-3.ensures.value) in (
      old,
      subst (λ front. IsFound front old p) (sym (grown.first ∙ f.seen)) f,
      λ v n q e. sym (f.judged.judged v n q e) ∙ grown.judged.judged v n q e ∙ (λ i. same i q v),
    )

pub returns-clause-kept : goal.returns-clause-kept
returns-clause-kept c =
    let same : condemned_by c.in_ok-merged.merged.items ≡ condemned_by c.args.violations.now =
    λ i q v. c.in_ok-merged.ensures.ok q v i in
    record {
      classes = subst (λ condemned. AreClasses c.args.steps.items condemned c.in_ok-classes.classes)
          (ap condemned_by c.as_slice-3.ensures.value ∙ same) c.in_ok-classes.ensures.classes;
      violations = same;
    }
