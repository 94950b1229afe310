use Rattle.std.proofs.Common.{length, sym, ap, subst, arith}
use Rattle.vet_demand.specs.DemandOf.{PoliciesAreKnown}
use Rattle.vet_register.proofs.Checked.{no_register, refuted}
use Rattle.vet_register.proofs.sound_held.check_policies.Goals as goal

pub returns-then-not-are_known : goal.returns-then-not-are_known
returns-then-not-are_known c =
    no_register (λ sound. refuted c.are_known.ensures c.if-not-are_known.true
    (subst (PoliciesAreKnown c.args.criteria.now) (sym c.items-items.ensures.value) sound.known))

pub returns : goal.returns
returns c = record {
  by_key = c.items-items.ensures.by_key;
  known = subst (PoliciesAreKnown c.args.criteria.now) c.items-items.ensures.value
      (c.are_known.ensures.0 c.if-not-are_known.false);
  few = omega (arith, c.if-items-gt-MOST_POLICIES.false, ap length c.items-items.ensures.value);
}
