-- What is told of all is told of the rest, after what was found.
use Rattle.std.proofs.Common.{◌≡◌}
use Rattle.toml.specs.View.{members_view}
use Rattle.vet_files.specs.Walk.{each_member}
use Rattle.vet_files.proofs.read.walk.each_member.Given as goal

abbrev pub invariant-keys : goal.invariant-keys
invariant-keys g l =
    (goal.iterator-keys g).can_next l.key-iterator × (goal.iterator-keys g).is_finite l.key-iterator
    × (each_member (g.R.ReadMember.told l.reader) l.fn.start (members_view l.table.entries)
    ≡ each_member (g.R.ReadMember.told l.reader) l.found (members_view l.key-iterator))
