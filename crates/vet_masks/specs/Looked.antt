-- What a look changes (ours).
use Rattle.std.specs.Prelude.{◌+◌, ◌≡◌, ⊤}
use mathlib.Core.Option as maybe
use Rattle.std.specs.Borrow.{follows_so, MutBor, Fml}
use Rattle.vet_masks.specs.declared.looks.Looks.{Looks}
use Rattle.vet_masks.specs.contracts.looks.Looks.{the_row}

-- one look more is counted, and the steps stay
abbrev pub CountsOne : MutBor Looks → Fml
CountsOne s =
    follows_so the_row the_row s.ghost_name maybe.none (λ _ _. ⊤) (λ n. n ≡ record s.now { count = s.now.count + 1 })
