use Rattle.vet_files.proofs.ByName.{All-more, item_put}
use Rattle.vet_files.proofs.write.members.write_members.Goals as goal

pub items-preserved : goal.items-preserved
items-preserved g c =
    let xs = c.args.items.now in
    let i = c.items.item-index in
    let x = c.item-item.result in
    let member = c.in_ok-member.ensures in (
      item_put (λ y. (g.W.WriteMember.name y, g.W.WriteMember.written c.args.writer.now y)) xs i x c.items.table.entries
          c.insert.new.self.entries c.in_ok-member.member.name c.in_ok-member.member.value
          c.items-test.true c.item-item.is member.name member.value c.in_ok-insert.ensures.entries c.items.invariant.0,
      All-more (g.W.WriteMember.Reads c.args.writer.now) xs i x c.items-test.true c.item-item.is c.items.invariant.1
          member.read,
    )
