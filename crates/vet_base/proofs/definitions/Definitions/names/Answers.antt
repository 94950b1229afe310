use Rattle.std.proofs.Common.{◌∙◌, ap, sym}
use Rattle.std.specs.FinMap as map
use Rattle.vet_base.proofs.Tables.{keys_kept}
use Rattle.vet_base.proofs.definitions.Definitions.names.Goals as goal

pub returns-clause-names : goal.returns-clause-names
returns-clause-names c =
    c.as_slice.ensures.value ∙ sym (keys_kept c.self.inside.names.items c.self.inside.criteria.items c.self.invariant)
    ∙ ap map.keys c.self.view_is

pub returns-clause-few : goal.returns-clause-few
returns-clause-few c = rw c.as_slice.ensures.value c.self.invariant.few
