use Rattle.std.proofs.Common.{[], ◌≡◌, ◌∙◌, sym, ap, subst}
use Rattle.vet_base.specs.Criteria.{IsTable, built_in_criteria}
use Rattle.vet_entries.specs.Facts.{no_facts}
use Rattle.vet_register.specs.Flow.{arrivals}
use Rattle.vet_register.specs.Held.{content_of, demand_in, nothing_held, standing_in}
use Rattle.vet_register.specs.Sound.{IsSound}
use Rattle.vet_register.specs.State.{changes_of, no_counts, start}
use Rattle.vet_register.proofs.Beginnings.{nothing_stands, start_is_sound}
use Rattle.vet_register.proofs.register.Register.new.Goals as goal

pub invariant_of-result : goal.invariant_of-result
invariant_of-result g c =
    let law = c.nothing_is_demanded.ensures in
    let held : nothing_held ≡ content_of c.in_ok-held.held = sym c.in_ok-held.ensures.ok in
    let none : demand_in nothing_held ≡ [] = law [] built_in_criteria in
    let kept = subst (λ d. g.K.Keeper.keeping.keeps c.in_ok-keeper.keeper no_facts d) (sym none)
    (c.in_ok-keeper.ensures.keeps no_facts c.nothing_vets_nothing.ensures.gives) in
    let same : start c.args.moves_limit ≡ record {
      held = content_of c.in_ok-held.held;
      desk = c.new-2.result.content;
      step = 0;
      next_entry = 1;
      moves_limit = c.args.moves_limit;
      first = no_counts;
      moves = c.new-moves.result.items;
    } = λ i. record {
      held = held i;
      desk = sym c.new-2.ensures i;
      step = 0;
      next_entry = 1;
      moves_limit = c.args.moves_limit;
      first = no_counts;
      moves = sym c.new-moves.ensures.items i;
    } in (
      (
        (
          subst (λ h. g.K.Keeper.keeping.keeps c.in_ok-keeper.keeper h.facts (demand_in h)) held kept,
          (
            c.in_ok-keeper.ensures.standing ∙ sym (nothing_stands law) ∙ ap standing_in held,
            c.none.ensures ∙ sym none ∙ ap demand_in held,
          ),
        ),
        c.arrivals-arrived.ensures ∙ ap (λ moves. arrivals (changes_of moves)) c.as_slice.ensures.value,
      ),
      subst IsSound same (start_is_sound law c.args.moves_limit
          (subst (λ h. IsTable h.facts.criteria) (sym held) c.in_ok-held.ensures.table) c.requires),
    )
