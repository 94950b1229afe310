use Rattle.std.proofs.Common.{is_some, sym, ap, ◌∙◌}
use Rattle.std.specs.BTreeMap.{get}
use Rattle.std.specs.Cmp.Lexicographic.{slice_cmp}
use Rattle.std.specs.Ordering.{nat_cmp}
use Rattle.vet_masks.specs.Packages.{in_slot}
use Rattle.vet_masks.proofs.Keeping.{slot-made, slot-none, slot-stays}
use Rattle.vet_masks.proofs.packages.KeptPackages.reserve.Goals as goal

pub returns-clause-at : goal.returns-clause-at
returns-clause-at c name =
    let old = get (slice_cmp nat_cmp) c.args.self.now.packages in
    ap in_slot (c.in_ok-make_slot.ensures.made name)
    ∙ slot-none old c.args.«package» name (sym c.contains_key.ensures ∙ c.if-contains_key.false)

pub returns-clause-kept : goal.returns-clause-kept
returns-clause-kept c name h = ap is_some (c.in_ok-make_slot.ensures.made name) ∙ slot-stays _ _ _ h

pub returns-clause-slot : goal.returns-clause-slot
returns-clause-slot c = slot-made (get (slice_cmp nat_cmp) c.args.self.now.packages) c.args.«package»
    (get (slice_cmp nat_cmp) c.make_slot.new.packages) c.in_ok-make_slot.ensures.made
