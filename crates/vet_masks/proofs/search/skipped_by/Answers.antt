use Rattle.std.proofs.Common.{◌≡◌, ◌&&◌, ◌<◌, false, true, not, get_or, replicate, sym, ap, ◌∙◌, arith}
use Rattle.std.proofs.lemmas.Result.{IfOk-weaker}
use Rattle.vet_graph.specs.Search.{may_take}
use Rattle.vet_masks.proofs.Flags.{takes-all, takes-reviewed}
use Rattle.vet_masks.proofs.search.skipped_by.Goals as goal

pub returns-in-Nothing-clause-skips : goal.returns-in-Nothing-clause-skips
returns-in-Nothing-clause-skips c =
    IfOk-weaker c.all_flags.result (λ flags. flags.items ≡ replicate c.len-count.result false) _
    (λ flags is s n e. ap (λ fs. not (s.exempt && get_or fs n false)) is ∙ takes-all s.exempt c.len-count.result n
    ∙ ap (λ k. may_take k s) (sym c.in-Nothing.is)) c.all_flags.ensures.ok

pub returns-in-Exempt-clause-skips : goal.returns-in-Exempt-clause-skips
returns-in-Exempt-clause-skips c =
    IfOk-weaker c.all_flags-in-Exempt.result (λ flags. flags.items ≡ replicate c.len-count.result true) _
    (λ flags is s n e. (let low : n < c.len-count.result = omega (
      arith,
      c.requires.below s.target n e,
      c.len-count.ensures,
      c.args.index.now.after.ok,
    ) in
    ap (λ fs. not (s.exempt && get_or fs n false)) is ∙ takes-reviewed s.exempt c.len-count.result n low
    ∙ ap (λ k. may_take k s) (sym c.in-Exempt.is))) c.all_flags-in-Exempt.ensures.ok

pub returns-in-ExemptTo-clause-skips : goal.returns-in-ExemptTo-clause-skips
returns-in-ExemptTo-clause-skips c =
    IfOk-weaker c.flag_at.result _ _
    (λ flags h s n e. ap (λ b. not (s.exempt && b)) (h s.target n e)
    ∙ ap (λ k. may_take k s) (sym c.in-ExemptTo.is)) c.flag_at.ensures.flags
