use Rattle.std.proofs.Common.{◌∙◌}
use Rattle.vet_base.proofs.SetsByKey.{contains_is}
use Rattle.vet_base.proofs.SetsGrown.{set_grown, still_rising}
use Rattle.vet_base.proofs.texts.Texts.insert.Goals as goal

pub invariant_of-self-2 : goal.invariant_of-self-2
invariant_of-self-2 c = still_rising _ _ _ c.in_ok-insert.ensures.ok c.self.invariant

pub returns-clause-ok : goal.returns-clause-ok
returns-clause-ok c = set_grown _ _ _ c.in_ok-insert.ensures.ok _ c.self.view_is

pub returns-in_err-insert-clause-held : goal.returns-in_err-insert-clause-held
returns-in_err-insert-clause-held c held = cc (c.in_err-insert.ensures.held (contains_is _ _ _ c.self.view_is ∙ held))
