use Rattle.std.proofs.Common.{sym, ◌∙◌}
use Rattle.vet_graph.specs.declared.class.Class.TheVariants.{Unvetted}
use Rattle.vet_register.specs.State.{changes_of}
use Rattle.vet_register.proofs.SoundMoves.{balanced_told, each_balanced}
use Rattle.vet_register.proofs.sound_moves.are_balanced.Goals as goal

pub returns : goal.returns
returns c =
    let first = c.args.first in
    let now = c.args.now in
    let moves = changes_of c.args.moves.now in (
      λ t. each_balanced first now moves (sym c.is_balanced.ensures ∙ c.if-not-is_balanced.false)
          (sym c.is_balanced-2.ensures ∙ c.if-not-is_balanced-2.false)
          (sym c.is_balanced-3.ensures ∙ c.if-not-is_balanced-3.false)
          (sym c.is_balanced-4.ensures ∙ c.if-not-is_balanced-4.false) (sym c.is_balanced-5.ensures ∙ t),
      λ h. c.is_balanced-5.ensures ∙ (balanced_told Unvetted first now moves).1 (h Unvetted),
    )
