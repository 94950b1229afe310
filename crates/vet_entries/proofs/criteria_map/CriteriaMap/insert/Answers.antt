use Rattle.std.proofs.Common.{is_some, subst, sym, ap, ◌∙◌}
use Rattle.std.specs.FinMap as map
use Rattle.std.proofs.lemmas.Cmp.{nat_list_cmp_total}
use Rattle.vet_base.specs.Keyed.{IsByKey}
use Rattle.vet_base.proofs.KeyedLemmas.{IsByKey-with_item}
use Rattle.vet_base.proofs.ListLemmas.{is_some-option_map}
use Rattle.vet_base.proofs.Rising.{R, only_equal}
use Rattle.vet_entries.specs.CriteriaMap.{by_name, mapped_name}
use Rattle.vet_entries.specs.declared.criteria_map.MappedCriterion.{MappedCriterion}
use Rattle.vet_entries.proofs.MappedCriteria.{get_is, map_set}
use Rattle.vet_entries.proofs.criteria_map.CriteriaMap.insert.Goals as goal

pub returns-in_err-insert-clause-held : goal.returns-in_err-insert-clause-held
returns-in_err-insert-clause-held c held =
    let there = get_is c.self.inside.items.items c.args.self.now c.self.invariant c.self.view_is c.args.name in
    cc (c.in_err-insert.ensures.held (sym (is_some-option_map (λ (m : MappedCriterion). m.criteria) _)
    ∙ ap is_some there ∙ held))

pub invariant_of-self-2 : goal.invariant_of-self-2
invariant_of-self-2 c =
    let item : MappedCriterion = record { name = c.args.name; criteria = c.args.criteria } in
    subst (IsByKey R mapped_name) (sym c.in_ok-insert.ensures.ok)
    (IsByKey-with_item R nat_list_cmp_total only_equal mapped_name c.self.inside.items.items item c.self.invariant)

pub returns-clause-ok : goal.returns-clause-ok
returns-clause-ok c =
    let item : MappedCriterion = record { name = c.args.name; criteria = c.args.criteria } in
    ap (λ items. map.from_sorted (by_name items)) c.in_ok-insert.ensures.ok
    ∙ map_set c.self.inside.items.items c.args.self.now c.self.invariant c.self.view_is item
