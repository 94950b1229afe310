-- What is exchanged so far, and what is to come.
use Rattle.std.proofs.Common.{◌≡◌, true}
use Rattle.std.specs.List.{All}
use Rattle.vet_masks.specs.Standings.{AreByPackage, AreOfPackage, changes_in, has_slot, with_all}
use Rattle.vet_masks.proofs.Standings.{in_slots}
use Rattle.vet_masks.proofs.standing.Standing.exchange.Given as goal

abbrev pub invariant-packages : goal.invariant-packages
invariant-packages l =
    let packages = in_slots l.self-inside.packages.entries in
    let rest = l.one-iterator.rest.items in
    record {
      next : (goal.iterator-packages).can_next l.one-iterator;
      finite : (goal.iterator-packages).is_finite l.one-iterator;
      by_package : AreByPackage packages;
      slots : All (λ c. has_slot packages c.«package» ≡ true) rest;
      own : All (λ c. AreOfPackage c.«package» c.stands.items) rest;
      all : with_all packages (changes_in rest) ≡ with_all l.fn.self (changes_in l.fn.changed.items);
    }
