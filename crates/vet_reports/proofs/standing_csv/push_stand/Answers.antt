use Rattle.std.proofs.Common.{rules}
use Rattle.vet_reports.specs.StandingCsv.{stand_record}
use Rattle.vet_reports.proofs.CsvLemmas.{visible_package, visible_version}
use Rattle.vet_reports.proofs.standing_csv.push_stand.Goals as goal

pub push_record-requires-clause-first : goal.push_record-requires-clause-first
push_record-requires-clause-first c =
    rw c.as_str-package.ensures.value (visible_package c.args.pair.now.package c.as_str-package.ensures.name)

pub push_record-requires-clause-second : goal.push_record-requires-clause-second
push_record-requires-clause-second c =
    rw (c.as_str.ensures.value, c.in_ok-version.ensures.ok)
    (visible_version c.args.pair.now.version c.version_text_reads_back.ensures)

pub returns : goal.returns
unfolding stand_record
returns c = search rules
