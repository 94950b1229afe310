use Rattle.std.proofs.Common.{◌≡◌, ◌∙◌}
use Rattle.std.proofs.lemmas.Result.{IfOk-weaker}
use Rattle.toml.specs.View.{table_view}
use Rattle.vet_files.specs.EntryTables.{entry_table}
use Rattle.vet_files.specs.ReadAgain.{ReadsEntry}
use Rattle.vet_files.proofs.EntriesRead.{delta_read, delta_written, exemption_entry_read, full_read, full_written}
use Rattle.vet_files.proofs.EntriesRead.{violation_read, violation_written}
use Rattle.vet_files.proofs.write.entry_tables.entry_table.Goals as goal

pub returns-in-Full-clause-table : goal.returns-in-Full-clause-table
returns-in-Full-clause-table c =
    IfOk-weaker c.audit_table.result _ (λ t. table_view t ≡ entry_table c.args.entry.now)
    (λ t is. is ∙ full_written c.args.entry.now c.in-Full.version c.in-Full.audit c.in-Full.is)
    c.audit_table.ensures.table

pub returns-in-Full-clause-read : goal.returns-in-Full-clause-read
returns-in-Full-clause-read c =
    IfOk-weaker c.audit_table.result _ (λ t. ReadsEntry c.args.entry.now)
    (λ t reads. rw (← c.in-Full.is) at (full_read c.args.entry.now c.in-Full.version c.in-Full.audit reads.0 reads.1))
    c.audit_table.ensures.read

pub returns-in-Delta-clause-table : goal.returns-in-Delta-clause-table
returns-in-Delta-clause-table c =
    IfOk-weaker c.audit_table-in-Delta.result _ (λ t. table_view t ≡ entry_table c.args.entry.now)
    (λ t is. is ∙ delta_written c.args.entry.now c.in-Delta.delta c.in-Delta.audit c.in-Delta.is)
    c.audit_table-in-Delta.ensures.table

pub returns-in-Delta-clause-read : goal.returns-in-Delta-clause-read
returns-in-Delta-clause-read c =
    IfOk-weaker c.audit_table-in-Delta.result _ (λ t. ReadsEntry c.args.entry.now)
    (λ t reads. rw (← c.in-Delta.is) at (delta_read c.args.entry.now c.in-Delta.delta c.in-Delta.audit reads.0 reads.1))
    c.audit_table-in-Delta.ensures.read

pub returns-in-Violation-clause-table : goal.returns-in-Violation-clause-table
returns-in-Violation-clause-table c =
    IfOk-weaker c.audit_table-in-Violation.result _ (λ t. table_view t ≡ entry_table c.args.entry.now)
    (λ t is. is ∙ violation_written c.args.entry.now c.in-Violation.req c.in-Violation.audit c.in-Violation.is)
    c.audit_table-in-Violation.ensures.table

pub returns-in-Violation-clause-read : goal.returns-in-Violation-clause-read
returns-in-Violation-clause-read c =
    IfOk-weaker c.audit_table-in-Violation.result _ (λ t. ReadsEntry c.args.entry.now)
    (λ t reads. rw (← c.in-Violation.is) at
    (violation_read c.args.entry.now c.in-Violation.req c.in-Violation.audit reads.0 reads.1))
    c.audit_table-in-Violation.ensures.read

pub returns-in-Wildcard-clause-read : goal.returns-in-Wildcard-clause-read
returns-in-Wildcard-clause-read c = rw (← c.in-Wildcard.is) at c.wildcard_table.ensures.read

pub returns-in-Trusted-clause-read : goal.returns-in-Trusted-clause-read
returns-in-Trusted-clause-read c = rw (← c.in-Trusted.is) at c.trusted_table.ensures.read

pub returns-in-Exemption-clause-read : goal.returns-in-Exemption-clause-read
returns-in-Exemption-clause-read c =
    IfOk-weaker c.exemption_table.result _ (λ t. ReadsEntry c.args.entry.now)
    (λ t reads. exemption_entry_read c.args.entry.now c.in-Exemption.version c.in-Exemption.suggest _ c.in-Exemption.is
    reads)
    c.exemption_table.ensures.read
