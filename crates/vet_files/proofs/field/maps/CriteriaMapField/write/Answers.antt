use Rattle.std.proofs.Common.{sym, ap, ◌∙◌}
use Rattle.std.proofs.lemmas.List.{take_all}
use Rattle.toml.proofs.Views.{view-Table}
use Rattle.toml.specs.Data.{table}
use Rattle.toml.specs.View.{table_view}
use Rattle.vet_base.specs.Name.{is_name}
use Rattle.vet_entries.specs.declared.criteria_map.MappedCriterion.{MappedCriterion}
use Rattle.vet_files.specs.Tables.{put_member, set_data}
use Rattle.vet_files.proofs.MapsRead.{criteria_map_read, mapped_table-is, next_put, next_read, rises_from_names}
use Rattle.vet_files.proofs.MapsRead.{sets_table}
use Rattle.vet_files.proofs.field.maps.CriteriaMapField.write.Goals as goal

pub criteria-preserved : goal.criteria-preserved
criteria-preserved c =
    let rises = rises_from_names (λ (m : MappedCriterion). m.name) c.items-item-items.result.now
    c.items-item-items.ensures.rising in (
      c.in_ok-put.ensures.put ∙ ap (λ key. put_member key (set_data c.item-item.result.criteria)
          (table_view c.criteria.table)) c.as_str.ensures.value
          ∙ next_put (λ (m : MappedCriterion). m.name) (λ m. m.criteria) _ c.criteria.item-index c.item-item.result
          (table_view c.criteria.table) rises c.criteria-test.true (sym c.item-item.is) c.criteria.invariant.0,
      next_read (λ (m : MappedCriterion). m.name) (λ m. m.criteria) is_name _ c.criteria.item-index
          c.item-item.result c.criteria-test.true (sym c.item-item.is) c.criteria.invariant.1 c.as_str.ensures.name
          c.in_ok-put.ensures.read,
    )

pub returns-clause-value : goal.returns-clause-value
returns-clause-value c =
    let items = c.items-item-items.result.now in
    let all = take_all c.criteria.item-index items c.criteria-test.false in
    let built = c.criteria.invariant.0 ∙ ap (sets_table (λ (m : MappedCriterion). m.name) (λ m. m.criteria)) all in
    view-Table c.criteria.table
    ∙ ap table (built ∙ mapped_table-is items c.args.self.now c.items-item-items.ensures.entries)

pub returns-clause-read : goal.returns-clause-read
returns-clause-read c =
    let items = c.items-item-items.result.now in
    criteria_map_read items c.args.self.now c.items-item-items.ensures.entries
    (rw (take_all c.criteria.item-index items c.criteria-test.false) at c.criteria.invariant.1)
