use Rattle.std.proofs.Common.{◌≡◌, true, refl, sym, ap, ◌∙◌}
use Rattle.std.proofs.lemmas.List.Elements.{All-head, All-tail, All-weaker}
use Rattle.vet_masks.specs.declared.standing.Changed.{Changed}
use Rattle.vet_masks.specs.Standings.{AreOfPackage, changes_in, has_slot, with_all}
use Rattle.vet_masks.proofs.Standings.{by_package-with, has-in_slots, in_slots, put-in_slots, slot-kept}
use Rattle.vet_masks.proofs.standing.Standing.exchange.Goals as goal

pub packages-init : goal.packages-init
packages-init c =
    let packages = c.into_iter-one-iterator.ensures.into_iter_gives.0 in
    record {
      next = tt;
      finite = tt;
      by_package = c.self.invariant.0;
      slots = rw (packages, c.self.view_is) c.requires.slots;
      own = rw packages c.requires.own;
      all = rw (packages, c.self.view_is) refl;
    }

pub put-requires : goal.put-requires
put-requires c =
    let HasSlot = λ (d : Changed). has_slot (in_slots c.packages.self-inside.packages.entries) d.«package» ≡ true in
    let slots = rw c.in-Some.ensures.steps.0 at c.packages.invariant.slots in
    sym (has-in_slots c.packages.self-inside.packages.entries c.in-Some.one.«package»)
    ∙ All-head HasSlot c.in-Some.one c.next.new.self.rest.items slots

pub packages-preserved : goal.packages-preserved
packages-preserved c =
    let one = c.in-Some.one in
    let rest = c.next.new.self.rest.items in
    let old = c.packages.self-inside.packages.entries in
    let inv = c.packages.invariant in
    let steps = c.in-Some.ensures.steps.0 in
    let HasSlot = λ (d : Changed). has_slot (in_slots old) d.«package» ≡ true in
    let HasNow = λ (d : Changed). has_slot (in_slots c.put.new.packages.entries) d.«package» ≡ true in
    let IsOwn = λ (d : Changed). AreOfPackage d.«package» d.stands.items in
    let own = rw steps at inv.own in
    let slots = rw steps at inv.slots in
    let is = ap in_slots c.put.ensures.entries ∙ put-in_slots old one.«package» one.stands in
    record {
      next = tt;
      finite = tt;
      by_package = by_package-with old c.put.new.packages.entries one.«package» one.stands c.put.ensures.entries
          c.put.ensures.ordered inv.by_package (All-head IsOwn one rest own);
      slots = All-weaker HasSlot HasNow (λ d h. ap (λ packages. has_slot packages d.«package») is
          ∙ slot-kept (in_slots old) one.«package» one.stands.items d.«package» h) rest
          (All-tail HasSlot one rest slots);
      own = All-tail IsOwn one rest own;
      all = ap (λ packages. with_all packages (changes_in rest)) is ∙ (rw steps at inv.all);
    }
