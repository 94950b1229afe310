use Rattle.std.proofs.Common.{rules, sym, ap, ◌∙◌, option_map, Ok, Err, Some}
use Rattle.std.specs.Option.{option_copied}
use Rattle.std.proofs.lemmas.Fn.{always_returns_same}
use Rattle.vet_base.proofs.KeyedLemmas.{item_at, no_item, place_found}
use Rattle.vet_demand.specs.Policies.{key_of}
use Rattle.vet_demand.specs.PolicyKey.{policy_key_cmp}
use Rattle.vet_demand.specs.PolicyKeyLaws.{policy_key_cmp-IsAntisymmetric, policy_key_total}
use Rattle.vet_demand.specs.declared.policies.KeyedPolicy.{KeyedPolicy}
use Rattle.vet_demand.specs.declared.policy_key.PolicyKey.{PolicyKey}
use Rattle.vet_demand.proofs.policies.policy_of_parts.Goals as goal

pub returns-in-Ok : goal.returns-in-Ok
returns-in-Ok c =
    let key : PolicyKey = record { «package» = c.args.«package».now; version = option_copied c.args.version } in
    let items = c.args.policies.now.items in
    let value = c.items-held.ensures.value in
    let e = c.in-Ok.ensures in
    let at = e.position (λ (p : KeyedPolicy). policy_key_cmp p.key key)
    (always_returns_same _ _ _ (λ a r f k. search rules)) in
    let place = place_found policy_key_cmp policy_key_total policy_key_cmp-IsAntisymmetric key_of items key
    (Ok c.in-Ok.place) c.items-held.ensures.by_key (rw value at e.bound) (rw value at at) in
    ap (λ (p : KeyedPolicy). Some p.policy) (sym c.index-held-place.is)
    ∙ sym (ap (option_map (λ (p : KeyedPolicy). p.policy))
    (item_at policy_key_cmp policy_key_total policy_key_cmp-IsAntisymmetric key_of items key c.in-Ok.place
    c.index-held-place.result c.items-held.ensures.by_key place (sym (rw value at c.index-held-place.is))))

pub returns-in-Err : goal.returns-in-Err
returns-in-Err c =
    let key : PolicyKey = record { «package» = c.args.«package».now; version = option_copied c.args.version } in
    let items = c.args.policies.now.items in
    let value = c.items-held.ensures.value in
    let at = c.in-Err.ensures.position (λ (p : KeyedPolicy). policy_key_cmp p.key key)
    (always_returns_same _ _ _ (λ a r f k. search rules)) in
    let place = place_found policy_key_cmp policy_key_total policy_key_cmp-IsAntisymmetric key_of items key
    (Err c.in-Err.field-0) c.items-held.ensures.by_key (rw value at c.in-Err.ensures.bound) (rw value at at) in
    sym (ap (option_map (λ (p : KeyedPolicy). p.policy))
    (no_item policy_key_cmp policy_key_total policy_key_cmp-IsAntisymmetric key_of items key
    c.in-Err.field-0 place))
