-- What is kept so far, and what is to come.
use Rattle.std.proofs.Common.{◌≡◌, IfSome, false, true}
use Rattle.std.specs.List.{All}
use Rattle.vet_base.specs.Words.{Name}
use Rattle.vet_entries.specs.Facts.{Facts}
use Rattle.vet_masks.specs.Packages.{IsKeptOf, has_kept_slot, is_changed, kept_at, put_at}
use Rattle.vet_masks.proofs.packages.KeptPackages.exchange.Given as goal

abbrev pub invariant-packages : goal.invariant-packages
invariant-packages l =
    let rest = l.one-iterator.rest.items in
    record {
      next : (goal.iterator-packages).can_next l.one-iterator;
      finite : (goal.iterator-packages).is_finite l.one-iterator;
      slots : All (λ c. has_kept_slot l.self c.«package» ≡ true) rest;
      at : (name : Name) → put_at rest name (kept_at l.self name)
          ≡ put_at l.fn.changed.items name (kept_at l.fn.self name);
      kept : (facts : Facts) → All (λ c. IsKeptOf facts c.«package» c.kept) l.fn.changed.items
          → ((name : Name) → is_changed l.fn.changed.items name ≡ false
          → IfSome (kept_at l.fn.self name) (IsKeptOf facts name))
          → All (λ c. IsKeptOf facts c.«package» c.kept) rest × ((name : Name) → is_changed rest name ≡ false
          → IfSome (kept_at l.self name) (IsKeptOf facts name));
    }
