use Rattle.std.proofs.Common.{◌≡◌, List, sym, ap, subst, ◌∙◌}
use Rattle.std.specs.List.{All}
use Rattle.std.specs.Option.{option_copied}
use Rattle.vet_base.specs.Words.{Name}
use Rattle.vet_entries.specs.Condemned.{ViolationsCondemn, condemned_by, violations_of}
use Rattle.vet_entries.specs.Facts.{Facts}
use Rattle.vet_entries.specs.declared.condemned.Violation.{Violation}
use Rattle.vet_graph.specs.StandingOf.{condemned_of}
use Rattle.vet_masks.specs.Classes.{StartsExempt}
use Rattle.vet_masks.proofs.Searching.{kept-of, spent-after, spent-anew}
use Rattle.vet_masks.proofs.StepsOf.{steps-start}
use Rattle.vet_masks.proofs.keeper.MaskKeeper.searched.Goals as goal

pub after-requires-clause-starts : goal.after-requires-clause-starts
after-requires-clause-starts c = subst (All StartsExempt) (sym c.in_ok-steps.ensures.steps)
    (steps-start c.args.facts.now.content c.args.«package».now)

pub anew-requires : goal.anew-requires
anew-requires c = record {
  starts = subst (All StartsExempt) (sym c.in_ok-steps.ensures.steps)
      (steps-start c.args.facts.now.content c.args.«package».now);
}

-- the violations condemn what the package's entries do
condemned-of : (facts : Facts) (name : Name) (violations : List Violation) → ViolationsCondemn
    → violations ≡ violations_of facts name → condemned_by violations ≡ condemned_of facts name
condemned-of facts name violations law e = ap condemned_by e ∙ (λ i q v. law facts name q v i)

pub returns-in-Some-clause-kept : goal.returns-in-Some-clause-kept
returns-in-Some-clause-kept c =
    let facts = c.args.facts.now.content in
    let name = c.args.«package».now in
    kept-of facts name c.in_ok-steps.field-0.steps.items (condemned_by c.as_slice.result.now) c.after.result
    c.in_ok-steps.ensures.steps
    (condemned-of facts name c.as_slice.result.now c.violations_condemn.ensures
    (c.as_slice.ensures.value ∙ c.in_ok-steps.ensures.violations)) c.after.ensures.kept

pub returns-in-Some-clause-spent : goal.returns-in-Some-clause-spent
returns-in-Some-clause-spent c =
    let facts = c.args.facts.now.content in
    let name = c.args.«package».now in
    spent-after c.args.self.now facts name c.in-Some.kept.now c.args.same_criteria c.in_ok-steps.field-0.steps.items
    (condemned_by c.as_slice.result.now) c.after.result c.requires.same
    (sym c.of.ensures ∙ ap option_copied c.in-Some.is) c.in_ok-steps.ensures.steps
    (condemned-of facts name c.as_slice.result.now c.violations_condemn.ensures
    (c.as_slice.ensures.value ∙ c.in_ok-steps.ensures.violations)) c.after.ensures.grown c.after.ensures.anew

pub returns-clause-kept : goal.returns-clause-kept
returns-clause-kept c =
    let facts = c.args.facts.now.content in
    let name = c.args.«package».now in
    kept-of facts name c.in_ok-steps.field-0.steps.items (condemned_by c.as_slice-in-None.result.now) c.anew.result
    c.in_ok-steps.ensures.steps
    (condemned-of facts name c.as_slice-in-None.result.now c.violations_condemn.ensures
    (c.as_slice-in-None.ensures.value ∙ c.in_ok-steps.ensures.violations)) c.anew.ensures.kept

pub returns-clause-spent : goal.returns-clause-spent
returns-clause-spent c = spent-anew c.args.self.now c.args.facts.now.content c.args.«package».now c.anew.result
    (sym c.of.ensures ∙ ap option_copied c.in-None.is) c.anew.ensures.looks
