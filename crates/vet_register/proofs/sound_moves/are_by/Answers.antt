use Rattle.std.proofs.Common.{nat_le, rules, tests}
use Rattle.std.proofs.lemmas.Bool.{le-leb, leb-true}
use Rattle.std.proofs.lemmas.Iterator.{YieldsList-from_slice}
use Rattle.std.proofs.lemmas.Iterator.Search.{all_from_yields_List}
use Rattle.vet_register.specs.declared.moves.RecordedMove.{RecordedMove}
use Rattle.vet_register.specs.Sound.{IsBy}
use Rattle.vet_register.proofs.Checked.{of_test}
use Rattle.vet_register.proofs.sound_moves.are_by.Goals as goal

pub returns : goal.returns
returns c =
    let step = c.args.step in
    let moves = c.args.moves.now in
    let test = (λ (m : RecordedMove). nat_le m.step step) in
    of_test test (IsBy step) (λ m. (leb-true m.step step, le-leb m.step step)) moves c.all.result
    (all_from_yields_List test _ _ c.all.result c.all.ensures.ran (YieldsList-from_slice moves cc)
    (λ x r q k. search (rules, tests)))
