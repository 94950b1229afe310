use Rattle.std.proofs.Common.{arith, get_or, length, subst, sym}
use Rattle.std.proofs.lemmas.Result.{IfOk-weaker}
use Rattle.vet_demand.proofs.Auditing.{projects_both, projects_one, some_projects}
use Rattle.vet_demand.specs.Audited.{AreAudited, AreAuditedIn, AreMerged, audited_list}
use Rattle.vet_demand.specs.declared.audited.AuditedNodes.{AuditedNodes}
use Rattle.vet_demand.specs.declared.project.NamedProject.{NamedProject}
use Rattle.vet_demand.proofs.audited.+audited_in.Goals as goal

pub returns-then-projects-eq1-clause-ok : goal.returns-then-projects-eq1-clause-ok
returns-then-projects-eq1-clause-ok g c =
    let policies = c.args.terms.now.policies.now.items in
    let criteria = c.args.terms.now.criteria.now in
    let named = c.index-projects-0.result in
    IfOk-weaker c.audited_of.result (λ (a : AuditedNodes). AreAuditedIn policies criteria
    (get_or c.args.projects.now 0 named).project (audited_list a))
    (λ (a : AuditedNodes). AreAudited policies criteria c.args.projects.now (audited_list a))
    (λ a h. projects_one policies criteria c.args.projects.now named (audited_list a)
    c.if-projects-eq1.true c.index-projects-0.is
    (subst (λ (n : NamedProject). AreAuditedIn policies criteria n.project (audited_list a))
    (sym c.index-projects-0.is) h))
    c.audited_of.ensures.ok

pub audited_in-requires : goal.audited_in-requires
audited_in-requires g c =
    let some = some_projects (length c.args.projects.now) c.is_empty.result c.is_empty.ensures c.if-is_empty.false in (
      omega (arith, c.decreases, c.split_at.ensures.front_len, some, c.if-projects-eq1.false),
      (c.requires.terms, c.requires.known),
    )

pub audited_in-requires-2 : goal.audited_in-requires-2
audited_in-requires-2 g c =
    let some = some_projects (length c.args.projects.now) c.is_empty.result c.is_empty.ensures c.if-is_empty.false in (
      omega (arith, c.decreases, c.split_at.ensures.back_len, some, c.if-projects-eq1.false),
      (c.requires.terms, c.requires.known),
    )

pub returns-clause-ok : goal.returns-clause-ok
returns-clause-ok g c =
    let policies = c.args.terms.now.policies.now.items in
    let criteria = c.args.terms.now.criteria.now in
    let first = audited_list c.in_ok-first.first in
    let second = audited_list c.in_ok-second.second in
    IfOk-weaker c.merge.result (λ (a : AuditedNodes). AreMerged first second (audited_list a))
    (λ (a : AuditedNodes). AreAudited policies criteria c.args.projects.now (audited_list a))
    (λ a h. projects_both policies criteria c.args.projects.now c.split_at.result.0.now c.split_at.result.1.now
    first second (audited_list a) c.split_at.ensures.by_index.0
    c.in_ok-first.ensures.ok c.in_ok-second.ensures.ok h)
    c.merge.ensures.ok
