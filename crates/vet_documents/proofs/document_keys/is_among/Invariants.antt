-- A key is among all where it is among the rest.
use Rattle.std.proofs.Common.{◌≡◌, drop, map}
use Rattle.vet_documents.specs.DocumentField.{is_among}
use Rattle.vet_documents.proofs.document_keys.is_among.Given as goal

abbrev pub invariant-known : goal.invariant-known
invariant-known l =
    is_among (map (λ k. k.now) l.known) l.key ≡ is_among (map (λ k. k.now) (drop l.name-index l.known)) l.key
