use Rattle.std.proofs.Common.{sym, ◌∙◌}
use Rattle.vet_demand.specs.ProjectLaws.{project_eq-Decides}
use Rattle.vet_demand.proofs.project.ProjectPartialEq.eq.Goals as goal

pub returns-clause-same : goal.returns-clause-same
returns-clause-same c =
    let decides = project_eq-Decides c.args.self.now c.args.other.now in
    (λ tied. decides.0 (sym c.are_same.ensures ∙ tied), λ same. c.are_same.ensures ∙ decides.1 same)
