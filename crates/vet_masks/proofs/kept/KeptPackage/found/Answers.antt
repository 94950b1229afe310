use Rattle.std.proofs.Common.{◌≡◌, [], length, take, refl, sym, ap, subst, ◌∙◌, arith}
use Rattle.vet_entries.specs.Condemned.{condemned_by}
use Rattle.vet_masks.specs.Classes.{AreClasses, IsFound}
use Rattle.vet_masks.proofs.kept.KeptPackage.found.Goals as goal

pub extended-requires-clause-first : goal.extended-requires-clause-first
extended-requires-clause-first c =
    omega (arith, ap length (c.nothing-nothing.ensures.found (condemned_by c.as_slice.result.now)).seen)

pub extended-requires-clause-found : goal.extended-requires-clause-found
extended-requires-clause-found c =
    let condemned = condemned_by c.as_slice.result.now in
    let nothing = c.nothing-nothing.result in
    let f : IsFound [] condemned nothing = c.nothing-nothing.ensures.found condemned in
    let none : [] ≡ take (length nothing.looks.steps) c.args.steps.items =
    sym (ap (λ steps. take (length steps) c.args.steps.items) f.seen) in
    (condemned, subst (λ front. IsFound front condemned nothing) none f, λ v n q e. refl)

pub returns-clause-kept : goal.returns-clause-kept
returns-clause-kept c =
    let same : condemned_by c.in_ok-violations.violations.items ≡ condemned_by c.args.violations.now =
    λ i q v. c.in_ok-violations.ensures.ok q v i in
    record {
      classes = subst (λ condemned. AreClasses c.args.steps.items condemned c.in_ok-classes.classes)
          (ap condemned_by c.as_slice.ensures.value ∙ same) c.in_ok-classes.ensures.classes;
      violations = same;
    }
