use Rattle.std.proofs.Common.{◌∙◌}
use Rattle.semver.proofs.EvalViews.{matches_all-views}
use Rattle.vet_base.proofs.req.Req.matches.Goals as goal

pub returns : goal.returns
returns c =
    let told = c.matches.ensures ∙ matches_all-views c.self.inside.req.comparators.items c.semver.result.now in
    rw (← c.self.view_is, c.self.invariant.1, ← c.semver.ensures) told
