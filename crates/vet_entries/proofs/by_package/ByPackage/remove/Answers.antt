use Rattle.std.proofs.Common.{◌<◌, length, arith, ap, sym}
use Rattle.std.proofs.lemmas.List.Quantifiers.{all_pairs_remove}
use Rattle.vet_entries.specs.Numbered.{Rise}
use Rattle.vet_entries.specs.ByPackage.{held_last_number}
use Rattle.vet_entries.proofs.Edits.{insert-remove, map-remove}
use Rattle.std.specs.List.{remove}
use Rattle.vet_entries.proofs.by_package.ByPackage.remove.Goals as goal

within : (c : goal.After-remove-2) → c.args.place < length c.self.inside.entries.items
within c = omega (arith, c.requires, ap (λ b. length b.entries) c.self.view_is)

pub invariant_of-self : goal.invariant_of-self
invariant_of-self c = (
  rw (c.remove-2.ensures.items, sym c.as_slice.ensures.value) c.take_out.ensures.by_package,
  rw (c.remove-2.ensures.items)
      (all_pairs_remove Rise c.self.inside.entries.items c.args.place (within c) c.self.invariant.1),
  rw (
    c.remove-2.ensures.items,
    c.remove.ensures.items,
    map-remove held_last_number c.self.inside.entries.items c.args.place,
  )
      (ap (λ days. remove days c.args.place) c.self.invariant.2),
)

pub returns-clause-back : goal.returns-clause-back
returns-clause-back c =
    let items = c.self.inside.entries.items in
    rw (
      c.remove-2.ensures.items,
      insert-remove items c.args.place c.remove-2.result (within c) c.remove-2.ensures.value,
    )
    c.self.invariant.1
