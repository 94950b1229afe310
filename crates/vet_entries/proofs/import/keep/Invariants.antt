-- The held entries so far that come again.
use Rattle.std.proofs.Common.{◌≡◌, ◌++◌, Bool, map, take}
use Rattle.std.specs.List.{filter}
use Rattle.vet_entries.specs.declared.facts.HeldEntry.{HeldEntry}
use Rattle.vet_entries.proofs.import.keep.Given as goal

abbrev pub invariant-held : goal.invariant-held
invariant-held l = (keeps : HeldEntry → Bool) → l.again ≡ map keeps l.held
    → l.entries.items ≡ l.fn.entries.items ++ filter keeps (take l.place l.held)
