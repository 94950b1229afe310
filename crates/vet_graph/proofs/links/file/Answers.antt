use Rattle.std.proofs.Common.{◌≡◌, ◌∙◌, ◌+◌, ◌++◌, ◌∷◌, [], ap, get_or, set, sym}
use Rattle.std.specs.BTreeMap.{get}
use Rattle.std.proofs.lemmas.List.{length-map}
use Rattle.std.proofs.lemmas.Result.{IfOk-weaker}
use Rattle.vet_base.specs.VersionOrder.{version_cmp}
use Rattle.vet_graph.specs.declared.guarded.GuardedStep.{GuardedStep}
use Rattle.vet_graph.specs.Links.{AreFiled, lists_in}
use Rattle.vet_graph.proofs.Linking.{AreFiled-after, at_place}
use Rattle.vet_graph.proofs.links.file.Goals as goal

pub push_at-requires : goal.push_at-requires
push_at-requires c =
    let found = sym c.get.ensures.value ∙ sym c.copied.ensures ∙ c.in-Some-copied.is in
    let within = (c.requires.heads.named c.in-Some.origin c.in-Some-copied.head found).0 in
    rw (← c.requires.filed.count, length-map) at within

pub returns-clause-ok : goal.returns-clause-ok
returns-clause-ok c =
    let steps = c.args.steps.now in
    let heads = c.args.found.now.heads.items in
    let first = c.args.filed.now.first.items in
    let after = lists_in c.args.filed.now.after.items in
    let place = c.args.place in
    let head = c.in-Some-copied.head in
    let found = sym c.get.ensures.value ∙ sym c.copied.ensures ∙ c.in-Some-copied.is in
    let here = ap (λ (g : GuardedStep). g.step.origin)
    (sym (at_place steps place c.index-steps-place.result c.requires.place)) ∙ c.in-Some.is in
    IfOk-weaker c.push_at.result
    (λ _. lists_in c.push_at.new.lists.items ≡ set after head (get_or after head [] ++ place ∷ []))
    (λ _. AreFiled steps heads first (lists_in c.push_at.new.lists.items) (place + 1))
    (λ _ e. rw e
    (AreFiled-after steps (get version_cmp c.args.found.now.numbers) heads first after place c.in-Some.origin head
    c.requires.heads c.requires.filed here found))
    c.push_at.ensures.ok
