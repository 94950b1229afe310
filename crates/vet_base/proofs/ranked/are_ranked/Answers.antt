use Rattle.std.proofs.Common.{arith, refl, sym, ◌∙◌}
use Rattle.std.proofs.lemmas.Bool.{false≢true}
use Rattle.vet_base.proofs.Ranking.{at_least, below, by_neighbours, not_ranked, one_more}
use Rattle.vet_base.proofs.ranked.are_ranked.Goals as goal

pub pairs-init : goal.pairs-init
pairs-init g c k d l = absurd (omega (arith, l))

pub returns-then-is_ge : goal.returns-then-is_ge
returns-then-is_ge g c =
    let cmp = g.T.Ranked.rank_cmp in
    let x = c.index-values-place.result in
    let y = c.index-values-place-in-pairs.result in (
      λ never. absurd (false≢true never),
      λ ranked. absurd (not_ranked cmp g.T.Ranked.rank_total c.args.values.now c.pairs.place x y c.pairs.auto.place
          c.pairs-test.true c.index-values-place.is c.index-values-place-in-pairs.is
          (λ up. at_least cmp g.T.Ranked.rank_total c.cmp_rank.result (sym c.is_ge.ensures ∙ c.if-is_ge.true)
          (c.cmp_rank.ensures ∙ up)) ranked),
    )

pub pairs-preserved : goal.pairs-preserved
pairs-preserved g c =
    let cmp = g.T.Ranked.rank_cmp in
    let x = c.index-values-place.result in
    let y = c.index-values-place-in-pairs.result in
    one_more cmp g.T.Ranked.rank_total c.args.values.now c.pairs.place x y c.pairs.invariant c.pairs.auto.place
    c.pairs-test.true c.index-values-place.is c.index-values-place-in-pairs.is
    (sym c.cmp_rank.ensures
    ∙ below cmp g.T.Ranked.rank_total c.cmp_rank.result (sym c.is_ge.ensures ∙ c.if-is_ge.false))

pub returns : goal.returns
returns g c = (
  λ _. by_neighbours g.T.Ranked.rank_cmp g.T.Ranked.rank_total c.args.values.now
      (λ k d l. c.pairs.invariant k d (omega (arith, l, c.pairs-test.false))),
  λ _. refl,
)
