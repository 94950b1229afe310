use Rattle.std.proofs.Common.{◌≡◌, sym, ap, subst, ◌∙◌}
use Rattle.std.specs.List.{All}
use Rattle.vet_base.proofs.Rising.{R}
use Rattle.vet_entries.specs.PublisherRecords.{HasAny, package_of, records_total}
use Rattle.vet_entries.proofs.SetInOrder.{set_in_order}
use Rattle.vet_entries.proofs.publisher_records.PublisherRecords.of.Goals as goal

pub invariant_of-result : goal.invariant_of-result
invariant_of-result c =
    let same : c.in_ok-packages.packages.items ≡ c.args.packages.items = c.in_ok-packages.ensures
    ∙ set_in_order R package_of c.args.packages.items c.requires.by_name.rising in (
      subst (All HasAny) (sym same) c.requires.by_name.filled,
      c.count-total.ensures
          ∙ ap records_total (c.as_slice.ensures.value ∙ sym same),
    )

pub returns : goal.returns
returns c = c.in_ok-packages.ensures ∙ set_in_order R package_of c.args.packages.items c.requires.by_name.rising
