use Rattle.std.proofs.Common.{sym, ◌∙◌}
use Rattle.vet_base.proofs.Rising.{empty_list}
use Rattle.vet_base.proofs.names.Names.is_empty.Goals as goal

pub returns : goal.returns
returns c =
    let h = empty_list c.self.inside.names.items c.args.self.now c.self.invariant c.self.view_is in
    (λ t. h.0 (sym c.is_empty.ensures ∙ t), λ e. c.is_empty.ensures ∙ h.1 e)
