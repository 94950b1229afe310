use Rattle.std.proofs.Common.{◌<◌, ap, arith, length, refl, subst, sym}
use Rattle.std.specs.FinMap as map
use Rattle.std.specs.Option.{option_copied}
use Rattle.vet_demand.proofs.Auditing.{audited_all, audited_next, audited_none}
use Rattle.vet_demand.proofs.Collecting.{audited-iff}
use Rattle.vet_demand.specs.Audited.{AreAuditedBefore, audited_list}
use Rattle.vet_demand.specs.DemandOf.{is_audited}
use Rattle.vet_demand.proofs.audited.audited_of.Goals as goal

pub nodes-init : goal.nodes-init
nodes-init c =
    let policies = c.args.terms.now.policies.now.items in
    let criteria = c.args.terms.now.criteria.now in
    record {
      parallel = c.new-audited.ensures.parallel;
      audited = subst (AreAuditedBefore policies criteria c.args.project.now 0) (sym c.new-audited.ensures.none)
          (audited_none policies criteria c.args.project.now);
    }

pub nodes-preserved : goal.nodes-preserved
nodes-preserved c =
    let policies = c.args.terms.now.policies.now.items in
    let criteria = c.args.terms.now.criteria.now in
    let project = c.args.project.now in
    let node = c.index-nodes-place.result in
    let policy = c.index.result.now in
    let set = c.index-in-nodes.result.now in
    let low : c.nodes.place < length project.nodes =
    omega (arith, c.nodes-test.true, ap length c.nodes-nodes.ensures.value) in
    let tells = audited-iff policies criteria c.requires.terms.table c.requires.known project
    c.in_ok-found.found.items c.in_ok-needs.needs.items (map.keys criteria)
    (rw c.nodes-nodes.ensures.value at c.in_ok-found.ensures.ok)
    c.in_ok-needs.ensures.ok refl c.nodes.place node policy set low
    (rw c.nodes-nodes.ensures.value at c.index-nodes-place.is) c.index.ensures c.index-in-nodes.ensures in
    record {
      parallel = c.in_ok-put_audited.ensures.parallel;
      audited = audited_next policies criteria project c.nodes-nodes.ensures.is_project.nodes_in_order c.nodes.place
          node (option_copied policy) set low
          (rw c.nodes-nodes.ensures.value at c.index-nodes-place.is) tells (audited_list c.nodes.audited)
          (audited_list c.put_audited.new.audited) c.nodes.invariant.audited
          (is_audited node.party (option_copied policy)) refl c.in_ok-put_audited.ensures.ok;
    }

pub returns-clause-ok : goal.returns-clause-ok
returns-clause-ok c =
    audited_all c.args.terms.now.policies.now.items c.args.terms.now.criteria.now c.args.project.now c.nodes.place
    (audited_list c.nodes.audited)
    (omega (arith, c.nodes-test.false, c.nodes.auto.place-end, ap length c.nodes-nodes.ensures.value))
    c.nodes.invariant.audited
