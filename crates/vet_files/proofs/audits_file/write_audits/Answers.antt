use Rattle.std.proofs.Common.{rules, ◌≡◌, Some, string_bytes}
use Rattle.std.specs.FinSet as set
use Rattle.toml.specs.Parse.{parse_document}
use Rattle.toml.specs.View.{table_view}
use Rattle.vet_files.specs.Audits.{audits_told}
use Rattle.vet_files.specs.AuditsTable.{audits_table}
use Rattle.vet_files.specs.ReadAgain.{GivesBack, ReadsAudits}
use Rattle.vet_files.specs.SameContent.{IsAudits, SameAudits}
use Rattle.vet_files.proofs.Depths.{audits_depth}
use Rattle.vet_files.proofs.Printed.{audits_back, ok_then}
use Rattle.vet_files.proofs.audits_file.write_audits.Goals as goal

shape : (c : goal.After-drop-none-inside-2) → table_view c.in_ok-file.file ≡ audits_table c.args.content.now
shape c = search (rules)

pub returns-clause-table : goal.returns-clause-table
returns-clause-table c =
    let content = c.args.content.now in
    ok_then _ (λ s. parse_document (string_bytes s) ≡ Some (audits_table content)) c.print.result
    (λ s back. rw (shape c) at back (audits_depth content)) c.print.ensures.parsed

pub returns-clause-read : goal.returns-clause-read
returns-clause-read c =
    let content = c.args.content.now in
    let reads : ReadsAudits set.empty content.criteria content.entries = search (rules) in
    ok_then _ (λ s. IsAudits content → GivesBack audits_told (SameAudits content) (string_bytes s)) c.print.result
    (λ s back stands. audits_back content (string_bytes s) reads stands (rw (shape c) at back (audits_depth content)))
    c.print.ensures.read
