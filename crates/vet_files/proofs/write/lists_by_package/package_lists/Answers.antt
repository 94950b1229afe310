use Rattle.std.proofs.Common.{◌∙◌, ap, sym}
use Rattle.toml.proofs.Views.{view-Table}
use Rattle.toml.specs.Data.{array, push_item, table}
use Rattle.toml.specs.View.{table_view}
use Rattle.vet_files.specs.ListAt.{list_at}
use Rattle.vet_files.specs.Tables.{put_member}
use Rattle.vet_files.proofs.Grouped.{entry_passed, entry_put}
use Rattle.vet_files.proofs.write.lists_by_package.package_lists.Goals as goal
use Rattle.vet_files.proofs.write.lists_by_package.package_lists.Goals.{then-is_written+in_ok-written+in_ok-push_at}
use Rattle.vet_files.proofs.write.lists_by_package.package_lists.Goals.{else-is_written}

pub entries-preserved : goal.entries-preserved
entries-preserved c =
    let which = c.args.which in
    let exclude = c.args.exclude.now in
    let entries = c.args.entries.now in
    let i = c.entries.entry-index in
    let x = c.entry-item.result in
    let before = table_view c.entries.table in
    elim c.if-is_written.branch [
      | then-is_written+in_ok-written+in_ok-push_at w ↦
          let name = w.as_str.ensures.value in
          let written = view-Table w.in_ok-written.written ∙ ap table w.in_ok-written.ensures.table in
          let put = w.in_ok-push_at.ensures
          ∙ (λ j. put_member (name j) (array (push_item (list_at (name j) before) (written j))) before) in
          rw (w.table-is) (entry_put which exclude entries i x before (table_view w.push_at.new.table)
          c.entries-test.true c.entry-item.is (sym c.is_written.ensures ∙ w.if-is_written.true)
          w.in_ok-written.ensures.read put c.entries.invariant)
      | else-is_written w ↦
          rw (w.table-is) (entry_passed which exclude entries i x before c.entries-test.true c.entry-item.is
          (sym c.is_written.ensures ∙ w.if-is_written.false) c.entries.invariant)
    ]
