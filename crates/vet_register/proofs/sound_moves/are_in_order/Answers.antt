use Rattle.std.proofs.Common.{refl, sym, ◌∙◌, arith}
use Rattle.std.proofs.lemmas.Bool.{false≢true}
use Rattle.vet_register.proofs.SoundMoves.{all_follow, goes_on, not_all_follow}
use Rattle.vet_register.proofs.sound_moves.are_in_order.Goals as goal

pub returns-then-not-comes_before : goal.returns-then-not-comes_before
returns-then-not-comes_before c = (
  λ t. absurd (false≢true t),
  λ pairs. absurd (not_all_follow c.args.moves.now c.moves.place c.index-moves-place.result
      c.index-moves-place-in-moves.result c.moves.invariant.0 c.moves-test.true c.index-moves-place.is
      c.index-moves-place-in-moves.is (sym c.comes_before.ensures ∙ c.if-not-comes_before.true) pairs),
)

pub moves-preserved : goal.moves-preserved
moves-preserved c = (
  omega arith,
  goes_on c.args.moves.now c.moves.place c.index-moves-place.result c.index-moves-place-in-moves.result
      c.moves.invariant.0 c.moves-test.true c.index-moves-place.is c.index-moves-place-in-moves.is
      (sym c.comes_before.ensures ∙ c.if-not-comes_before.false) c.moves.invariant.1,
)

pub returns : goal.returns
returns c = (
  λ t. all_follow c.args.moves.now c.moves.place (omega (arith, c.moves-test.false)) c.moves.invariant.1,
  λ pairs. refl,
)
