use Rattle.std.proofs.Common.{rules, ◌≡◌, ◌++◌, ◌∷◌, [], refl, true, take, sym, ap, subst, ◌∙◌, arith}
use Rattle.std.specs.List.{All}
use Rattle.std.proofs.lemmas.List.{take_all, take_more}
use Rattle.std.proofs.lemmas.List.Elements.{All-push, All-weaker}
use Rattle.vet_base.specs.Words.{Name}
use Rattle.vet_masks.specs.Packages.{has_kept_slot}
use Rattle.vet_masks.specs.Standings.{has_slot}
use Rattle.vet_masks.proofs.keeper.MaskKeeper.reserve.Goals as goal

pub names-init : goal.names-init
names-init c = record {
  same = record {
    standing = refl;
    stands = λ n. refl;
    kept = λ n. refl;
    criteria = refl;
    looks = refl;
    slots = λ n h. h;
    kept_slots = λ n h. h;
  };
  made = λ k d l. absurd (omega (arith, l));
  kept_made = λ k d l. absurd (omega (arith, l));
}

pub names-preserved : goal.names-preserved
names-preserved c =
    let names = c.args.names.now in
    let p = c.names.place in
    let inv = c.names.invariant in
    let made = c.reserve.ensures in
    let kept = c.reserve-in-names.ensures in
    let name = c.index-names-place.result in
    let copied : c.in_ok-clone.field-0 ≡ name = search rules in
    let copied_again : c.in_ok-clone-2.field-0 ≡ name = search rules in
    let more = sym (take_more names p name c.names-test.true
    ∙ ap (λ n. take p names ++ n ∷ []) (sym c.index-names-place.is)) in
    let HadSlot = λ (n : Name). has_slot c.names.self.standing n ≡ true in
    let HasSlot = λ (n : Name). has_slot c.reserve.new.self n ≡ true in
    let HadKept = λ (n : Name). has_kept_slot c.names.self.packages n ≡ true in
    let HasKept = λ (n : Name). has_kept_slot c.reserve-in-names.new.self n ≡ true in
    record {
      same = record {
        standing = made.stands ∙ inv.same.standing;
        stands = λ n. made.at n ∙ inv.same.stands n;
        kept = λ n. kept.at n ∙ inv.same.kept n;
        criteria = inv.same.criteria;
        looks = inv.same.looks;
        slots = λ n h. made.kept n (inv.same.slots n h);
        kept_slots = λ n h. kept.kept n (inv.same.kept_slots n h);
      };
      made = subst (All HasSlot) more (All-push HasSlot (take p names) name
          (All-weaker HadSlot HasSlot (λ n h. made.kept n h) (take p names) inv.made)
          (subst HasSlot copied c.in_ok-reserve.ensures.slot));
      kept_made = subst (All HasKept) more (All-push HasKept (take p names) name
          (All-weaker HadKept HasKept (λ n h. kept.kept n h) (take p names) inv.kept_made)
          (subst HasKept copied_again c.in_ok-reserve-2.ensures.slot));
    }

pub returns-in_err-clone-clause-same : goal.returns-in_err-clone-clause-same
returns-in_err-clone-clause-same c = c.names.invariant.same

pub returns-clause-made : goal.returns-clause-made
returns-clause-made c =
    rw (take_all c.names.place c.args.names.now c.names-test.false) at c.names.invariant.made

pub returns-clause-kept_made : goal.returns-clause-kept_made
returns-clause-kept_made c =
    rw (take_all c.names.place c.args.names.now c.names-test.false) at c.names.invariant.kept_made
