use Rattle.std.proofs.Common.{◌∙◌, ap, length}
use Rattle.vet_graph.specs.Standing.{counts_of, total_of}
use Rattle.vet_register.specs.Held.{content_of, demand_in}
use Rattle.vet_register.specs.RegisterView.{RegisterView}
use Rattle.vet_register.specs.State.{demanded}
use Rattle.vet_register.proofs.Beginnings.{all_counted}
use Rattle.vet_register.proofs.register.Register.counts.Goals as goal

pub returns-clause-total : goal.returns-clause-total
returns-clause-total g c =
    let held = content_of c.self.inside.held in
    ap total_of (c.counts.ensures.value ∙ ap counts_of c.self.invariant.0.0.1.0)
    ∙ all_counted c.classes_add_up.ensures held.facts (demand_in held) ∙ ap
    (λ (r : RegisterView _). length (demanded r.state)) c.self.view_is
