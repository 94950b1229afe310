use Rattle.std.proofs.Common.{is_none, rules, tests}
use Rattle.std.proofs.lemmas.Iterator.{YieldsList-from_slice}
use Rattle.std.proofs.lemmas.Iterator.Search.{all_from_yields_List}
use Rattle.vet_base.specs.Criteria.{least_unknown}
use Rattle.vet_entries.specs.declared.facts.HeldEntry.{HeldEntry}
use Rattle.vet_entries.specs.Step.{HasKnownCriteria}
use Rattle.vet_register.proofs.Checked.{none_told, of_test}
use Rattle.vet_register.proofs.sound_entries.name_known.Goals as goal

pub returns : goal.returns
returns c =
    let criteria = c.args.criteria.now in
    let entries = c.args.entries.now in
    let test = (λ (h : HeldEntry). is_none (least_unknown criteria h.entry.criteria)) in
    of_test test (HasKnownCriteria criteria) (λ h. none_told (least_unknown criteria h.entry.criteria)) entries
    c.all.result
    (all_from_yields_List test _ _ c.all.result c.all.ensures.ran (YieldsList-from_slice entries cc)
    (λ x r q k. search (rules, tests)))
