use Rattle.std.proofs.Common.{rules, ◌∙◌}
use Rattle.std.specs.Ordering.{eq_by_cmp, is_lt}
use Rattle.std.proofs.lemmas.Fn.{always_returns_same, dedup_same}
use Rattle.std.proofs.lemmas.List.MinMax.{ranks_by}
use Rattle.vet_base.proofs.Ranking.{ranked_is}
use Rattle.vet_base.proofs.ranked.rank.Goals as goal

pub returns : goal.returns
returns g c list ranked same =
    let cmp = g.T.Ranked.rank_cmp in
    let total = g.T.Ranked.rank_total in
    let up = c.in_ok-sort_by.ensures.sorted (λ x y. is_lt (cmp x y)) (ranks_by total (λ x. x))
    (always_returns_same _ _ _ (λ a r f k. search rules)) in
    let kept = dedup_same _ (eq_by_cmp cmp) _ (λ x y b f' x' y' k. search rules) _ _ c.dedup_by.ensures.filtered in
    kept ∙ ranked_is cmp total c.args.values.items c.sort_by.new.self.items list c.in_ok-sort_by.ensures.permutation up
    ranked same
