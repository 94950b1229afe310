-- No step so far leads to a condemned version.
use Rattle.std.proofs.Common.{◌≡◌, get_or, take}
use Rattle.std.specs.FinSet as set
use Rattle.std.specs.List.{All}
use Rattle.vet_masks.specs.declared.index.Ends.{Ends}
use Rattle.vet_masks.proofs.grown.leads_to_condemned.Given as goal

abbrev pub invariant-steps : goal.invariant-steps
invariant-steps l = All (λ (e : Ends). get_or l.condemned e.target set.empty ≡ set.empty) (take l.place l.ends)
