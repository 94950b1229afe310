use Rattle.std.proofs.lemmas.Bool.{iff_false}
use Rattle.vet_graph.specs.declared.class.Class.TheVariants.{Conflicting, Exempted, Full, Partial, Unvetted}
use Rattle.vet_graph.specs.ClassAtLaws.{class_at-unique}
use Rattle.vet_graph.specs.Search.{steps_in}
use Rattle.vet_graph.proofs.class.class_of.Goals as goal

pub returns-then-branch-clause-is : goal.returns-then-branch-clause-is
returns-then-branch-clause-is c = λ condemned_for agrees. (c.in_ok-is_conflicting.ensures.ok condemned_for agrees.1).0
    c.if-branch.true

pub returns-then-branch-clause-class : goal.returns-then-branch-clause-class
returns-then-branch-clause-class c =
    λ condemned_for agrees. class_at-unique (steps_in c.args.steps.now) condemned_for c.args.place c.args.version.now
    Conflicting
    (returns-then-branch-clause-is c condemned_for agrees)

pub returns-then-branch-2-clause-is : goal.returns-then-branch-2-clause-is
returns-then-branch-2-clause-is c =
    λ condemned_for agrees. (
      iff_false (c.in_ok-is_conflicting.ensures.ok condemned_for agrees.1) c.if-branch.false,
      (c.in_ok-is_fully_vetted.ensures.ok condemned_for agrees.0).0 c.if-branch-2.true,
    )

pub returns-then-branch-2-clause-class : goal.returns-then-branch-2-clause-class
returns-then-branch-2-clause-class c =
    λ condemned_for agrees. class_at-unique (steps_in c.args.steps.now) condemned_for c.args.place c.args.version.now
    Full
    (returns-then-branch-2-clause-is c condemned_for agrees)

pub returns-then-branch-3-clause-is : goal.returns-then-branch-3-clause-is
returns-then-branch-3-clause-is c =
    λ condemned_for agrees. (
      iff_false (c.in_ok-is_conflicting.ensures.ok condemned_for agrees.1) c.if-branch.false,
      iff_false (c.in_ok-is_fully_vetted.ensures.ok condemned_for agrees.0) c.if-branch-2.false,
      (c.in_ok-is_partly_vetted.ensures.ok condemned_for agrees.0).0 c.if-branch-3.true,
    )

pub returns-then-branch-3-clause-class : goal.returns-then-branch-3-clause-class
returns-then-branch-3-clause-class c =
    λ condemned_for agrees. class_at-unique (steps_in c.args.steps.now) condemned_for c.args.place c.args.version.now
    Partial
    (returns-then-branch-3-clause-is c condemned_for agrees)

pub returns-then-branch-4-clause-is : goal.returns-then-branch-4-clause-is
returns-then-branch-4-clause-is c =
    λ condemned_for agrees. (
      iff_false (c.in_ok-is_conflicting.ensures.ok condemned_for agrees.1) c.if-branch.false,
      iff_false (c.in_ok-is_fully_vetted.ensures.ok condemned_for agrees.0) c.if-branch-2.false,
      iff_false (c.in_ok-is_partly_vetted.ensures.ok condemned_for agrees.0) c.if-branch-3.false,
      (c.in_ok-is_vouched_for.ensures.ok condemned_for agrees.0).0 c.if-branch-4.true,
    )

pub returns-then-branch-4-clause-class : goal.returns-then-branch-4-clause-class
returns-then-branch-4-clause-class c =
    λ condemned_for agrees. class_at-unique (steps_in c.args.steps.now) condemned_for c.args.place c.args.version.now
    Exempted
    (returns-then-branch-4-clause-is c condemned_for agrees)

pub returns-clause-is : goal.returns-clause-is
returns-clause-is c =
    λ condemned_for agrees. (
      iff_false (c.in_ok-is_conflicting.ensures.ok condemned_for agrees.1) c.if-branch.false,
      iff_false (c.in_ok-is_fully_vetted.ensures.ok condemned_for agrees.0) c.if-branch-2.false,
      iff_false (c.in_ok-is_partly_vetted.ensures.ok condemned_for agrees.0) c.if-branch-3.false,
      iff_false (c.in_ok-is_vouched_for.ensures.ok condemned_for agrees.0) c.if-branch-4.false,
    )

pub returns-clause-class : goal.returns-clause-class
returns-clause-class c =
    λ condemned_for agrees. class_at-unique (steps_in c.args.steps.now) condemned_for c.args.place c.args.version.now
    Unvetted
    (returns-clause-is c condemned_for agrees)
