-- The first items stand in the table, and each is read again.
use Rattle.std.proofs.Common.{◌≡◌, All, map, take}
use Rattle.toml.specs.View.{table_view}
use Rattle.vet_files.specs.Tables.{by_name}
use Rattle.vet_files.proofs.write.members.write_members.Given as goal

abbrev pub invariant-items : goal.invariant-items
invariant-items g l =
    (table_view l.table ≡ by_name
    (map (λ x. (g.W.WriteMember.name x, g.W.WriteMember.written l.writer x)) (take l.item-index l.items)))
    × All (g.W.WriteMember.Reads l.writer) (take l.item-index l.items)
