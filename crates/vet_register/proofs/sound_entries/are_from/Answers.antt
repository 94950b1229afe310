use Rattle.std.proofs.Common.{rules, tests}
use Rattle.std.proofs.lemmas.Iterator.{YieldsList-from_slice}
use Rattle.std.proofs.lemmas.Iterator.Search.{all_from_yields_List}
use Rattle.vet_entries.specs.declared.facts.HeldEntry.{HeldEntry}
use Rattle.vet_entries.specs.Entry.{source_eq}
use Rattle.vet_entries.specs.EntryLaws.{source_eq-Decides}
use Rattle.vet_register.specs.Sound.{IsFrom}
use Rattle.vet_register.proofs.Checked.{of_test}
use Rattle.vet_register.proofs.sound_entries.are_from.Goals as goal

pub returns : goal.returns
returns c =
    let source = c.args.source.now in
    let entries = c.args.entries.now in
    let test = (λ (h : HeldEntry). source_eq h.entry.source source) in
    of_test test (IsFrom source) (λ h. source_eq-Decides h.entry.source source) entries c.all.result
    (all_from_yields_List test _ _ c.all.result c.all.ensures.ran (YieldsList-from_slice entries cc)
    (λ x r q k. search (rules, tests)))
