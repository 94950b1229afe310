use Rattle.std.proofs.Common.{nat_lt, lt-ltb, ltb-true, rules, tests}
use Rattle.std.proofs.lemmas.Iterator.{YieldsList-from_slice}
use Rattle.std.proofs.lemmas.Iterator.Search.{all_from_yields_List}
use Rattle.vet_entries.specs.declared.facts.HeldEntry.{HeldEntry}
use Rattle.vet_register.specs.Sound.{IsGiven}
use Rattle.vet_register.proofs.Checked.{of_test}
use Rattle.vet_register.proofs.sound_entries.are_given.Goals as goal

pub returns : goal.returns
returns c =
    let next = c.args.next in
    let entries = c.args.entries.now in
    let test = (λ (h : HeldEntry). nat_lt h.number next) in
    of_test test (IsGiven next) (λ h. (ltb-true h.number next, lt-ltb h.number next)) entries c.all.result
    (all_from_yields_List test _ _ c.all.result c.all.ensures.ran (YieldsList-from_slice entries cc)
    (λ x r q k. search (rules, tests)))
