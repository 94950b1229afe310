use Rattle.std.proofs.Common.{◌≤◌, ◌∙◌, [], List, ap, map, refl, subst, sym}
use Rattle.std.specs.List.{All}
use Rattle.std.proofs.lemmas.Bool.{false≢true}
use Rattle.vet_base.specs.Keyed.{all_set}
use Rattle.vet_base.specs.Words.{Name}
use Rattle.vet_base.specs.declared.limits.TheConstants.{MOST_PUBLISHERS}
use Rattle.vet_base.proofs.Rising.{R}
use Rattle.vet_entries.specs.PublisherRecords.{HasAny, package_of, records_total}
use Rattle.vet_entries.specs.declared.publisher.Publisher.{Publisher}
use Rattle.vet_entries.specs.declared.publisher_records.PackagePublishers.{PackagePublishers}
use Rattle.vet_item_rows.specs.Gathered.{Gathered, gathered}
use Rattle.vet_item_rows.specs.ReadBack.{EachStandsFor}
use Rattle.vet_item_rows.specs.ReadRecords.{IsGroupOfPackage}
use Rattle.vet_item_rows.specs.declared.read.gathered.WithKey.{WithKey}
use Rattle.vet_item_rows.proofs.Reading.{passed_on}
use Rattle.vet_item_rows.proofs.RecordsMade.{groups_stand, here, in_order, names_are}
use Rattle.vet_item_rows.proofs.read.records.records_of.Goals as goal

abbrev key_of : WithKey Name Publisher → Name
key_of f = f.key

pub returns-in_err-packages_of-clause-back : goal.returns-in_err-packages_of-clause-back
returns-in_err-packages_of-clause-back c packages parts =
    let records = c.args.records.items in
    let names = c.into_items-names.ensures.value ∙ c.in_ok-of.ensures
    ∙ ap (all_set R here []) (c.in_ok-names.ensures ∙ ap (map key_of) c.as_slice.ensures.value)
    ∙ names_are records packages parts in
    let groups = c.in_ok-groups.ensures ∙ ap (map (gathered R here records)) names in
    let stand = subst (λ (gs : List (Gathered Name Publisher)). EachStandsFor IsGroupOfPackage gs packages) (sym groups)
    (groups_stand records packages parts) in
    rw (passed_on c.from_residual-in_err-packages_of.result c.in_err-packages_of.field-0.0
    c.from_residual-in_err-packages_of.ensures.1 (c.in_err-packages_of.ensures packages stand)) refl

pub returns-clause-back : goal.returns-clause-back
returns-clause-back c packages parts =
    let records = c.args.records.items in
    let names = c.into_items-names.ensures.value ∙ c.in_ok-of.ensures
    ∙ ap (all_set R here []) (c.in_ok-names.ensures ∙ ap (map key_of) c.as_slice.ensures.value)
    ∙ names_are records packages parts in
    let groups = c.in_ok-groups.ensures ∙ ap (map (gathered R here records)) names in
    let stand = subst (λ (gs : List (Gathered Name Publisher)). EachStandsFor IsGroupOfPackage gs packages) (sym groups)
    (groups_stand records packages parts) in
    c.into_items-packages.ensures.value ∙ c.in_ok-of-2.ensures
    ∙ ap (all_set R package_of []) (c.in_ok-packages_of.ensures packages stand) ∙ in_order records packages parts

pub returns-then-not-are_held-clause-back : goal.returns-then-not-are_held-clause-back
returns-then-not-are_held-clause-back c packages parts =
    let records = c.args.records.items in
    let names = c.into_items-names.ensures.value ∙ c.in_ok-of.ensures
    ∙ ap (all_set R here []) (c.in_ok-names.ensures ∙ ap (map key_of) c.as_slice.ensures.value)
    ∙ names_are records packages parts in
    let groups = c.in_ok-groups.ensures ∙ ap (map (gathered R here records)) names in
    let stand = subst (λ (gs : List (Gathered Name Publisher)). EachStandsFor IsGroupOfPackage gs packages) (sym groups)
    (groups_stand records packages parts) in
    let sorted = c.into_items-packages.ensures.value ∙ c.in_ok-of-2.ensures
    ∙ ap (all_set R package_of []) (c.in_ok-packages_of.ensures packages stand) ∙ in_order records packages parts in
    let all = subst (λ (ps : List PackagePublishers). All HasAny ps × (records_total ps ≤ MOST_PUBLISHERS))
    (sym (c.as_slice-2.ensures.value ∙ sorted)) (parts.by_name.filled, parts.few) in
    absurd (false≢true (sym c.if-not-are_held.true ∙ c.are_held.ensures.1 all))
