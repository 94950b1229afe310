use Rattle.std.proofs.Common.{rules, ◌≡◌}
use Rattle.std.specs.BTreeMap.{get}
use Rattle.vet_base.specs.VersionOrder.{version_cmp}
use Rattle.vet_entries.proofs.Judging.{judged_more}
use Rattle.vet_entries.proofs.judge.judge.Goals as goal

pub returns-clause-judged : goal.returns-clause-judged
returns-clause-judged c =
    let copy : c.in_ok-clone.field-0 ≡ c.args.version.now = search rules in
    judged_more c.args.violations.now (get version_cmp c.args.judged.now) (get version_cmp c.insert.new.self)
    c.args.version.now _ c.condemned_by-condemned.result
    c.requires c.in_ok-insert.ensures.updates.0 copy c.condemned_by-condemned.ensures
