use Rattle.std.proofs.Common.{◌∙◌, List, ap, subst, sym}
use Rattle.std.proofs.lemmas.Result.{IfOk-weaker}
use Rattle.std.specs.BTreeSet.{contains}
use Rattle.std.specs.List.{Contains}
use Rattle.vet_base.specs.VersionOrder.{version_cmp}
use Rattle.vet_graph.specs.Leading.{KeepChains, turned_steps}
use Rattle.vet_graph.specs.Search.{IsReached, steps_in, versions_at}
use Rattle.vet_graph.specs.declared.guarded.GuardedStep.{GuardedStep}
use Rattle.vet_graph.proofs.Backward.{back_terms, chains_kept}
use Rattle.vet_graph.proofs.leading.steps_to.Goals as goal

pub returns-clause-chains : goal.returns-clause-chains
returns-clause-chains c =
    let steps = c.args.steps.items in
    let version = c.args.version.now in
    let linked = c.in_ok-linked.linked in
    let places = c.in_ok-reached.reached.items in
    let all = ap (λ (g : List GuardedStep). steps_in g) c.in_ok-linked.ensures.ok ∙ c.in_ok-turned.ensures.turned
    ∙ ap (turned_steps c.args.place version) c.as_slice.ensures.value in
    IfOk-weaker c.kept.result _ _
    (λ kept is. subst (KeepChains steps c.args.place version) (sym is)
    (chains_kept steps c.args.place version linked all (contains version_cmp c.in_ok-versions.versions)
    (λ w reached. c.in_ok-versions.ensures.versions w
    (subst (λ (g : List GuardedStep). Contains (versions_at g c.as_slice-2.result.now) w) (sym c.steps.ensures)
    (subst (λ (l : List _). Contains (versions_at linked l) w) (sym c.as_slice-2.ensures.value)
    ((c.in_ok-reached.ensures.reached w).1 reached))))))
    c.kept.ensures.kept
