use Rattle.vet_base.proofs.Rising.{equal_just_so, equal_sets}
use Rattle.vet_base.proofs.texts.TextsPartialEq.eq.Goals as goal

pub returns : goal.returns
returns c = record {
  value = equal_sets _ _ _ _ c.self.invariant c.other.invariant c.self.view_is c.other.view_is _ c.eq.ensures.value;
  same = equal_just_so _ _ _ _ c.self.invariant c.other.invariant c.self.view_is c.other.view_is _ c.eq.ensures.value;
}
