use Rattle.std.proofs.Common.{◌∙◌, Some, rules, tests}
use Rattle.std.specs.Option.{option_eq}
use Rattle.std.proofs.lemmas.Iterator.{YieldsList-from_slice}
use Rattle.std.proofs.lemmas.Iterator.Consumers.{YieldsList-from_filter, count_from_yields_List}
use Rattle.vet_graph.specs.declared.moves.Move.{Move}
use Rattle.vet_graph.specs.Standing.{same_class}
use Rattle.vet_register.specs.declared.moves.RecordedMove.{RecordedMove}
use Rattle.vet_register.proofs.SoundMoves.{passed_counted}
use Rattle.vet_register.proofs.sound_moves.arrivals_at.Goals as goal

pub returns : goal.returns
returns c =
    let moves = c.args.moves.now in
    let test = (λ (m : Move). option_eq same_class m.after (Some c.args.class)) in
    count_from_yields_List c.filter.result c.count.result c.count.ensures.ran
    (YieldsList-from_filter _ (λ (m : RecordedMove). test m.change) (YieldsList-from_slice moves cc)
    c.filter.ensures.closure (λ x r q k. search (rules, tests)))
    ∙ passed_counted test moves
