use Rattle.std.proofs.Common.{◌≡◌, ◌||◌, Bool, false, ap, sym, ◌∙◌}
use Rattle.std.specs.FinSet as set
use Rattle.std.specs.List.{list_any}
use Rattle.std.proofs.lemmas.Bool.{or_left, or_right}
use Rattle.vet_demand.proofs.Naming.{in_lists}
use Rattle.vet_demand.specs.PolicyNames.{names_listed}
use Rattle.vet_demand.specs.declared.dependency_criteria.DependencyItem.{DependencyItem}
use Rattle.vet_demand.proofs.policy_names.names.Goals as goal

pub returns-then-is_listed : goal.returns-then-is_listed
returns-then-is_listed c =
    sym (sym (in_lists c.args.policy.now c.args.name.now)
    ∙ or_left _ _ (or_left _ _ (sym c.is_listed.ensures ∙ c.if-is_listed.true)))

pub returns-then-is_listed-2 : goal.returns-then-is_listed-2
returns-then-is_listed-2 c =
    let own = set.contains (names_listed c.args.policy.now.criteria) c.args.name.now in
    sym (sym (in_lists c.args.policy.now c.args.name.now)
    ∙ or_left _ _ (or_right own _ (sym c.is_listed-2.ensures ∙ c.if-is_listed-2.true)))

pub returns : goal.returns
returns c =
    let passed : Bool = list_any (λ (i : DependencyItem). set.contains i.criteria c.args.name.now)
    c.args.policy.now.dependency_criteria in
    let own : set.contains (names_listed c.args.policy.now.criteria) c.args.name.now ≡ false =
    sym c.is_listed.ensures ∙ c.if-is_listed.false in
    let dev : set.contains (names_listed c.args.policy.now.dev_criteria) c.args.name.now ≡ false =
    sym c.is_listed-2.ensures ∙ c.if-is_listed-2.false in
    c.is_passed.ensures
    ∙ ap (list_any (λ (i : DependencyItem). set.contains i.criteria c.args.name.now)) c.items.ensures.value
    ∙ sym (λ j. (own j || dev j) || passed)
    ∙ in_lists c.args.policy.now c.args.name.now
