-- The steps so far are the same.
use Rattle.std.proofs.Common.{◌≡◌, take}
use Rattle.vet_masks.proofs.looks.Looks.are_first_of.Given as goal

abbrev pub invariant-steps : goal.invariant-steps
invariant-steps l = take l.place l.steps ≡ take l.place l.self.steps
