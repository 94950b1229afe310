use Rattle.std.proofs.Common.{rules, ◌≡◌, ◌++◌, ◌∷◌, [], ap, ◌∙◌}
use Rattle.vet_masks.specs.Packages.{is_among}
use Rattle.vet_masks.proofs.Naming.{behind-among}
use Rattle.vet_masks.proofs.names.add_other.Goals as goal

pub returns-clause-there : goal.returns-clause-there
returns-clause-there c lacks =
    let name = c.args.«package».now in
    let copied : c.in_ok-clone.field-0 ≡ name = search rules in
    ap (is_among name) (c.in_ok-push.ensures.items ∙ ap (λ n. c.args.names.now.items ++ n ∷ []) copied)
    ∙ behind-among name c.args.names.now.items
