use Rattle.std.proofs.Common.{◌≤◌, length, map, arith, ap, subst, sym, ◌∙◌}
use Rattle.std.specs.List.{insert}
use Rattle.vet_entries.specs.ByPackage.{EntriesRoom, IsSlot, held_last_number}
use Rattle.vet_entries.specs.Numbered.{AreByNumber}
use Rattle.vet_entries.proofs.ByPackage.{inserted}
use Rattle.vet_entries.proofs.Edits.{map-insert}
use Rattle.vet_entries.proofs.by_package.ByPackage.insert.Goals as goal

pub invariant_of-self : goal.invariant_of-self
invariant_of-self c =
    let entries = c.self.inside.entries.items in
    let order = c.self.inside.order.items in
    let slot : IsSlot entries c.args.held.entry.«package» c.args.place order c.slot_of-slot.result =
    rw (c.as_slice.ensures.value, c.as_slice-2.ensures.value) at c.slot_of-slot.ensures in
    let within : c.args.place ≤ length entries =
    omega (arith, c.requires.place, ap (λ b. length b.entries) c.self.view_is) in (
      rw (c.put-3.ensures.items, c.put.ensures.items, c.make_gap.ensures.items)
          (inserted entries order c.args.held c.args.place c.slot_of-slot.result within c.self.invariant.0 slot),
      rw (c.put-3.ensures.items) (subst (λ (b : EntriesRoom). AreByNumber (insert b.entries c.args.place c.args.held))
          (sym c.self.view_is) c.requires.by_number),
      rw (c.put-3.ensures.items, c.put-2.ensures.items, map-insert held_last_number entries c.args.place c.args.held)
          (ap (λ days. insert days c.args.place c.last_number.result) c.self.invariant.2
          ∙ ap (λ day. insert (map held_last_number entries) c.args.place day) c.last_number.ensures),
    )

pub returns-clause-entries : goal.returns-clause-entries
returns-clause-entries c = c.put-3.ensures.items ∙ ap (λ b. insert b.entries c.args.place c.args.held) c.self.view_is
