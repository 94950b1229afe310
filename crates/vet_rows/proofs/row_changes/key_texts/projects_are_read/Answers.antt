use Rattle.std.proofs.Common.{arith, subst, sym}
use Rattle.std.proofs.lemmas.List.{take_all}
use Rattle.vet_base.specs.Items.{IsIn}
use Rattle.vet_demand.specs.declared.project.NamedProject.{NamedProject}
use Rattle.vet_rows.specs.KeyTexts.{NodesAreRead}
use Rattle.vet_rows.proofs.SoFar.{one_more}
use Rattle.vet_rows.proofs.row_changes.key_texts.projects_are_read.Goals as goal

pub projects-preserved : goal.projects-preserved
projects-preserved c =
    one_more (λ (p : NamedProject). NodesAreRead p) c.args.projects.now c.projects.project-index c.project-item.result
    c.projects-test.true c.project-item.is c.projects.invariant c.nodes_are_read.ensures

pub returns : goal.returns
returns c p i =
    c.projects.invariant p (subst (IsIn p)
    (sym (take_all c.projects.project-index c.args.projects.now (omega (arith, c.projects-test.false)))) i)
