-- The unknown keys are those so far and those of the rest.
use Rattle.std.proofs.Common.{◌≡◌, ◌+◌}
use Rattle.toml.specs.View.{members_view}
use Rattle.vet_files.specs.Keys.{unknown_keys}
use Rattle.vet_files.proofs.keys.unknown_keys.Given as goal

abbrev pub invariant-keys : goal.invariant-keys
invariant-keys l =
    (goal.iterator-keys).can_next l.key-iterator × (goal.iterator-keys).is_finite l.key-iterator
    × (unknown_keys l.kind (members_view l.table.entries) ≡ l.notices.keys + unknown_keys l.kind
    (members_view l.key-iterator))
    × (l.notices.skipped ≡ 0) × (l.notices.doubles ≡ 0)
