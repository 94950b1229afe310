use Rattle.std.proofs.Common.{◌≡◌, ◌∙◌}
use Rattle.std.specs.FinMap as map
use Rattle.std.specs.FinSet as set
use Rattle.vet_base.specs.Defined.{defined, least_undefined}
use Rattle.vet_register.specs.NamesOfFiles.{unknown_of_entries, unknown_of_policies, unknown_of_targets}
use Rattle.vet_register.proofs.files_verdict.unknown_of_files.Goals as goal

pub returns : goal.returns
returns c =
    let has = map.contains_key (defined c.args.files.now.criteria) in
    let names : set.contains c.args.known.now.names ≡ has = (λ i n. c.requires.names n i) in
    let table : map.contains_key c.args.known.now.table ≡ has = (λ i n. c.requires.table n i) in
    let implied = c.least_undefined-implied.ensures ∙ (λ i. least_undefined (names i) (c.criteria.ensures i)) in
    let own = c.unknown_of_entries-own.ensures ∙ (λ i. unknown_of_entries (names i) (implied i) (c.entries.ensures i))
    in
    let held = c.as_slice.ensures.value ∙ c.policies.ensures in
    let policies = c.unknown_of_policies-policies.ensures ∙ (λ i. unknown_of_policies (table i) (own i) (held i)) in
    c.unknown_of_targets.ensures ∙ (λ i. unknown_of_targets (table i) (policies i) (c.settings.ensures i))
