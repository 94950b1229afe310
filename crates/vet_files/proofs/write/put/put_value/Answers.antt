use Rattle.std.proofs.Common.{◌∙◌, ap}
use Rattle.toml.specs.View.{members_view, table_view, view}
use Rattle.vet_files.specs.Tables.{put_member}
use Rattle.vet_files.proofs.Putting.{inserted}
use Rattle.vet_files.proofs.write.put.put_value.Goals as goal

pub returns : goal.returns
returns c =
    ap members_view c.in_ok-insert.ensures.entries ∙ inserted c.args.table.now.entries c.in_ok-from_str.field-0
    c.args.value
    ∙ ap (λ key. put_member key (view c.args.value) (table_view c.args.table.now)) c.in_ok-from_str.ensures.ok
