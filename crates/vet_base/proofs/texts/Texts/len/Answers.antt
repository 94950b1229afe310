use Rattle.std.proofs.Common.{ap, sym, ◌∙◌}
use Rattle.std.specs.FinSet as set
use Rattle.vet_base.proofs.Rising.{len-from_list}
use Rattle.vet_base.proofs.texts.Texts.len.Goals as goal

pub returns : goal.returns
returns c = c.len.ensures ∙ sym (len-from_list c.self.inside.texts.items c.self.invariant) ∙ ap set.len c.self.view_is
