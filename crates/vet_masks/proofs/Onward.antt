-- One thing after another, by which a search goes on.
use Rattle.std.proofs.Common.{refl, ◌∙◌, arith}
use Rattle.vet_masks.specs.declared.masks.Masks.{Masks}
use Rattle.vet_masks.specs.Masks.{GoesOn}

pub onward-none : (a : Masks) → GoesOn a a
onward-none a = record {
  count = refl;
  passed = refl;
  grows = λ c n h. h;
  waiting = λ w. w;
  within = λ m e w. w;
  room = omega arith;
}

pub onward-twice : (a b c : Masks) → GoesOn a b → GoesOn b c → GoesOn a c
onward-twice a b c h k = record {
  count = k.count ∙ h.count;
  passed = k.passed ∙ h.passed;
  grows = λ q n e. k.grows q n (h.grows q n e);
  waiting = λ w. k.waiting (h.waiting w);
  within = λ m e w. k.within m (h.count ∙ e) (h.within m e w);
  room = omega (arith, h.room, k.room);
}
