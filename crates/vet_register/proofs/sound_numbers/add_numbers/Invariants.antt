-- The numbers so far.
use Rattle.std.proofs.Common.{◌≡◌, ◌++◌, take}
use Rattle.vet_register.specs.Numbers.{numbers_of}
use Rattle.vet_register.proofs.sound_numbers.add_numbers.Given as goal

abbrev pub invariant-entries : goal.invariant-entries
invariant-entries l = l.numbers.items ≡ l.initial.numbers.items ++ numbers_of (take l.held-index l.entries)
