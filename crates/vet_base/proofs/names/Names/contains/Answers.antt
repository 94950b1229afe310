use Rattle.std.proofs.Common.{◌∙◌}
use Rattle.vet_base.proofs.SetsByKey.{contains_is}
use Rattle.vet_base.proofs.names.Names.contains.Goals as goal

pub returns : goal.returns
returns c = c.has.ensures ∙ contains_is c.self.inside.names.items c.args.self.now c.args.name.now c.self.view_is
