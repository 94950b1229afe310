use Rattle.std.proofs.Common.{sym, ap, ◌∙◌}
use Rattle.std.proofs.lemmas.List.{take_all}
use Rattle.toml.proofs.Views.{view-Table}
use Rattle.toml.specs.Data.{table}
use Rattle.toml.specs.View.{table_view}
use Rattle.vet_base.specs.Name.{is_package_name}
use Rattle.vet_demand.specs.DependencyCriteria.{item_name}
use Rattle.vet_files.specs.ConfigTable.{dependencies_table}
use Rattle.vet_files.specs.Tables.{put_member, set_data}
use Rattle.vet_files.proofs.MapsRead.{dependency_criteria_read, next_put, next_read}
use Rattle.vet_files.proofs.field.maps.DependencyCriteriaField.write.Goals as goal

pub packages-preserved : goal.packages-preserved
packages-preserved c =
    let rises = rw (← c.items-item-items.ensures.value) at c.items-item-items.ensures.by_package in (
      c.in_ok-put.ensures.put ∙ ap (λ key. put_member key (set_data c.item-item.result.criteria)
          (table_view c.packages.table)) c.as_str.ensures.value
          ∙ next_put item_name (λ i. i.criteria) _ c.packages.item-index c.item-item.result
          (table_view c.packages.table) rises c.packages-test.true (sym c.item-item.is) c.packages.invariant.0,
      next_read item_name (λ i. i.criteria) is_package_name _ c.packages.item-index c.item-item.result
          c.packages-test.true (sym c.item-item.is) c.packages.invariant.1 c.as_str.ensures.name
          c.in_ok-put.ensures.read,
    )

pub returns-clause-value : goal.returns-clause-value
returns-clause-value c =
    let all = take_all c.packages.item-index c.items-item-items.result.now c.packages-test.false in
    view-Table c.packages.table
    ∙ ap table (c.packages.invariant.0 ∙ ap dependencies_table (all ∙ c.items-item-items.ensures.value))

pub returns-clause-read : goal.returns-clause-read
returns-clause-read c =
    let all = take_all c.packages.item-index c.items-item-items.result.now c.packages-test.false in
    dependency_criteria_read c.args.self.now c.items-item-items.ensures.by_package
    (rw (all ∙ c.items-item-items.ensures.value) at c.packages.invariant.1)
