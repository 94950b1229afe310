-- The places that were compared.
use Rattle.std.proofs.Common.{◌≡◌, ℕ, ◌+◌, ◌<◌, slice_index_or}
use Rattle.vet_tables.proofs.has_form.are_key_places.Given as goal

abbrev pub invariant-key : goal.invariant-key
invariant-key l = (k : ℕ) → k < l.at → slice_index_or l.places k 0 ≡ l.first + k
