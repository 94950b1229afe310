use Rattle.std.proofs.Common.{◌∙◌, ap, sym, subst}
use Rattle.vet_entries.specs.declared.entry.Source.TheVariants.{Own}
use Rattle.vet_entries.specs.Numbered.{AreByNumber}
use Rattle.vet_entries.specs.Replaced.{entries_after, is_dated}
use Rattle.vet_register.proofs.files_held.facts_after.Goals as goal

pub of_parts-requires-clause-by_number : goal.of_parts-requires-clause-by_number
of_parts-requires-clause-by_number c =
    let held = c.args.facts.now.content.entries in
    let coming = c.entries-2.result.now in
    let after = c.in_ok-entries.ensures.ok ∙ ap (λ hs. entries_after is_dated Own c.args.next hs coming)
    c.entries.ensures.value in
    subst AreByNumber (sym after)
    (c.entries_keep_order.ensures is_dated Own c.args.next held coming c.entries.ensures.by_number c.requires.own).0
