-- What is told of all keys is told of the rest.
use Rattle.std.proofs.Common.{◌≡◌, map}
use Rattle.toml.specs.View.{members_view}
use Rattle.vet_documents.specs.DocumentField.{no_others}
use Rattle.vet_documents.proofs.document_keys.refuse_others.Given as goal

abbrev pub invariant-keys : goal.invariant-keys
invariant-keys l =
    (goal.iterator-keys).can_next l.key-iterator × (goal.iterator-keys).is_finite l.key-iterator
    × (no_others l.path (map (λ k. k.now) l.known) (members_view l.table.entries)
    ≡ no_others l.path (map (λ k. k.now) l.known) (members_view l.key-iterator))
