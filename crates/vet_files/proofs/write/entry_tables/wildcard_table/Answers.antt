use Rattle.std.proofs.Common.{subst}
use Rattle.vet_files.proofs.EntriesRead.{FlagRead, values_read, wildcard_read}
use Rattle.vet_files.proofs.write.entry_tables.wildcard_table.Goals as goal

pub returns-clause-read : goal.returns-clause-read
returns-clause-read c =
    wildcard_read c.args.entry.now c.args.window.now c.args.grant.now (values_read c.args.entry.now _
    c.in_ok-table.ensures.named c.in_ok-table.ensures.read c.as_ref.ensures.value c.in_ok-put_some.ensures.read)
    (record { user = c.in_ok-put-3.ensures.read; first = c.in_ok-put-2.ensures.read; last = c.in_ok-put.ensures.read })
    (subst FlagRead c.as_ref-2.ensures.value c.in_ok-put_some-2.ensures.read) c.in_ok-put_texts.ensures.read
