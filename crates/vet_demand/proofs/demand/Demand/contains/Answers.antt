use Rattle.std.proofs.Common.{rules, sym, ◌∙◌}
use Rattle.std.proofs.lemmas.Fn.{always_returns_same}
use Rattle.vet_demand.specs.Pair.{pair_cmp}
use Rattle.vet_demand.specs.declared.pair.Pair.{Pair}
use Rattle.vet_demand.proofs.DemandLemmas.{search_finds}
use Rattle.vet_demand.proofs.demand.Demand.contains.Goals as goal

pub returns : goal.returns
returns c =
    let p : Pair = record {
      «package» = c.args.«package».now;
      version = c.args.version.now;
      criterion =
          c.args.criterion.now;
    } in
    let e = c.binary_search_by.ensures in
    let at = e.position (λ q. pair_cmp q p) (always_returns_same _ _ _ (λ a r f k. search rules)) in
    let held = c.deref.ensures.value in
    let answer = search_finds c.deref.result.now p c.binary_search_by.result (rw held c.self.invariant) e.bound at in (
      λ yes. rw (held ∙ c.self.view_is) at (answer.0 (sym c.is_ok.ensures.value ∙ yes)),
      λ among. c.is_ok.ensures.value ∙ answer.1 (rw (held ∙ c.self.view_is) among),
    )
